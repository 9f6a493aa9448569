-- The messages of a port are given back as buffers, one after another: what holds of tables, pools and ports is kept.
use Rattle.std.proofs.Common.{◌≡◌, ◌∙◌, ℕ, ◌==◌, true, false, List, [], ◌∷◌, Option, None, Some, refl}
use Rattle.std.proofs.lemmas.Bool.{cond_both}
use Rattle.std.specs.Prelude.{is_some}
use Rattle.xinu_laws.proofs.Pools.Calls.{pools_freed_buffer}
use Rattle.xinu_laws.proofs.Pools.Preserve.{sound_freed_buffer}
use Rattle.xinu_laws.proofs.Touches.Kept.{keeps_ports}
use Rattle.xinu_laws.proofs.Touches.Pools.{freed_buffer_touches, own_semaphores, pools_reached}
use Rattle.xinu_laws.specs.Touches.{reach, Touches}
use Rattle.xinu_model.specs.Footprints.{on_pools}
use Rattle.xinu_model.specs.Machine.{CallState, returns, start, Xinu}
use Rattle.xinu_model.specs.Pools.Buffers.{holder}
use Rattle.xinu_model.specs.Pools.Calls.{freebuf, freed_buffer, freed_by, given_to}
use Rattle.xinu_model.specs.Ports.Calls.{disposed, freed_buffers}
use Rattle.xinu_model.specs.Sound.Pools.{ArePools}
use Rattle.xinu_model.specs.Sound.Ports.{ArePorts}
use Rattle.xinu_model.specs.Sound.Tables.{IsSoundTables}
use Rattle.xinu_base.specs.Constants.{OK, SYSERR}

-- From d to e what holds of tables, pools and ports holds on, and the ports are as they were.
pub record KeepsSound (d e : CallState) : Type 0 where
  pub tables : IsSoundTables e.state.tables
  pub pools : ArePools e.state.tables e.state.parts.pools
  pub ports : ArePorts d.state.tables d.state.parts.ports → ArePorts e.state.tables e.state.parts.ports
  pub same : e.state.parts.ports ≡ d.state.parts.ports

-- a buffer is given back, if it is held
pub freed_keeps : (a : ℕ) (d : CallState) → IsSoundTables d.state.tables → ArePools d.state.tables d.state.parts.pools
    → KeepsSound d (freed_buffer a d)
freed_keeps a d k p =
    let e = freed_buffer a d in
    let touches : Touches (reach on_pools) d.state e.state
    = freed_buffer_touches pools_reached a d k.inside (own_semaphores d.state.tables d.state.parts.pools p) in
    let sound = sound_freed_buffer a d k p in
    record {
      tables = sound;
      pools = pools_freed_buffer a d k.inside p;
      ports = keeps_ports refl touches sound.inside;
      same = (touches.parts.ports refl).0;
    }

-- some are given back, one after another
all_freed_keep : (messages : List ℕ) (d : CallState) → IsSoundTables d.state.tables → ArePools d.state.tables d.state.parts.pools
    → KeepsSound d (freed_buffers messages d)
all_freed_keep [] d k p = record { tables = k; pools = p; ports = λ a. a; same = refl }
all_freed_keep (a ∷ messages) d k p =
    let one = freed_keeps a d k p in
    let all = all_freed_keep messages (freed_buffer a d) one.tables one.pools in
    record { tables = all.tables; pools = all.pools; ports = λ x. all.ports (one.ports x); same = all.same ∙ one.same }

-- the messages are dropped, or given back
pub disposed_keeps : (how : ℕ) (messages : List ℕ) (d : CallState) → IsSoundTables d.state.tables → ArePools d.state.tables d.state.parts.pools
    → KeepsSound d (disposed how messages d)
disposed_keeps how messages d k p = cond_both (how == 1) (freed_buffers messages d) d (KeepsSound d) (λ _. all_freed_keep messages d k p)
    (λ _. record { tables = k; pools = p; ports = λ a. a; same = refl })

-- call 30 gives a buffer back, if one is held
pub freebuf_frees : (s : Xinu) (a : ℕ) → is_some (holder a s.parts.pools) ≡ true → returns (freed_buffer a (start s)) OK ≡ freebuf a s
freebuf_frees s a h = by_holder (holder a s.parts.pools) h
  where
    by_holder : (o : Option ℕ) → is_some o ≡ true → returns (given_to o a (start s)) OK ≡ freed_by o a s
    by_holder None h = absurd (cc)
    by_holder (Some i) h = refl

pub freebuf_refuses : (s : Xinu) (a : ℕ) → is_some (holder a s.parts.pools) ≡ false → returns (freed_buffer a (start s)) SYSERR ≡ freebuf a s
freebuf_refuses s a h = by_holder (holder a s.parts.pools) h
  where
    by_holder : (o : Option ℕ) → is_some o ≡ false → returns (given_to o a (start s)) SYSERR ≡ freed_by o a s
    by_holder None h = refl
    by_holder (Some i) h = absurd (cc)
