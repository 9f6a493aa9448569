-- A port that is deleted or reset may give its messages back as buffers: what holds of tables, pools and ports is kept.
use Rattle.std.proofs.Common.{◌≡◌, ℕ, ◌==◌, List, [], ◌∷◌, Option, None, Some, refl, ap, ◌∙◌, pos}
use Rattle.std.specs.Prelude.{nat_le}
use Rattle.std.proofs.lemmas.Bool.{cond_both}
use Rattle.xinu_model.specs.Machine.{Xinu, CallState, CallResult, start, refused, returns}
use Rattle.xinu_model.specs.Footprints.{on_pools}
use Rattle.xinu_laws.specs.Touches.{reach, Touches}
use Rattle.xinu_model.specs.Pools.Calls.{freed_buffer}
use Rattle.xinu_model.specs.Ports.Queues.{PortQueue, port_at}
use Rattle.xinu_model.specs.Ports.Calls.{freed_buffers, disposed, cleared, deleted, emptied_port, deleted_where, ptdelete, reset_where, ptreset}
use Rattle.xinu_model.specs.Sound.Tables.{IsSoundTables}
use Rattle.xinu_model.specs.Sound.Pools.{ArePools}
use Rattle.xinu_model.specs.Sound.Ports.{ArePorts}
use Rattle.table_laws.specs.Preserve.{AreAlive, IsPreserved, MayCall}
use Rattle.table_laws.proofs.Preserve.{refused_preserves}
use Rattle.xinu_laws.proofs.Pools.Calls.{pools_freed_buffer}
use Rattle.xinu_laws.proofs.Pools.Preserve.{sound_freed_buffer, harts_freed_buffer, alive_freed_buffer}
use Rattle.xinu_laws.proofs.Touches.Kept.{keeps_pools, keeps_ports}
use Rattle.xinu_laws.proofs.Touches.Pools.{pools_reached, own_semaphores, freed_buffer_touches}
use Rattle.xinu_laws.proofs.Ports.Renewals.{IsRenewed, port_deleted, port_reset}
use Rattle.xinu_laws.proofs.Ports.Signals.{HasPorts}
use Rattle.table_laws.proofs.Tables.Harts.{harts_same}
use Rattle.xinu_model.specs.Sound.State.{AreHarts}

-- What a call keeps that changes pools and ports, and no free number.
pub record PreservesAll (result : CallResult) : Type 0 where
  pub preserved : IsPreserved result
  pub pools : ArePools result.call.state.tables result.call.state.parts.pools
  pub ports : ArePorts result.call.state.tables result.call.state.parts.ports

-- what holds inside an event while its caller runs
pub record IsSoundInside (d : CallState) : Type 0 where
  pub tables : IsSoundTables d.state.tables
  pub harts : AreHarts d.state.harts
  pub released : AreAlive d.state.tables d.released
  pub pools : ArePools d.state.tables d.state.parts.pools
  pub ports : HasPorts d

-- it holds on, and the ports are as they were
pub record KeepsInside (d e : CallState) : Type 0 where
  pub sound : IsSoundInside e
  pub ports : e.state.parts.ports ≡ d.state.parts.ports

-- a buffer is given back, if it is held
freed_buffer_keeps : (a : ℕ) (d : CallState) → IsSoundInside d → KeepsInside d (freed_buffer a d)
freed_buffer_keeps a d k =
    let e = freed_buffer a d in
    let o = k.tables.inside in
    let touches : Touches (reach on_pools) d.state e.state = freed_buffer_touches pools_reached a d o
    (own_semaphores d.state.tables d.state.parts.pools k.pools) in
    let sound = sound_freed_buffer a d k.tables k.pools in
    record {
      sound = record {
        tables = sound;
        harts = harts_same d.state.harts _ (harts_freed_buffer a d) k.harts;
        released = alive_freed_buffer a d o k.released;
        pools = pools_freed_buffer a d o k.pools;
        ports = keeps_ports refl touches sound.inside k.ports;
      };
      ports = (touches.parts.ports refl).0;
    }

-- some are given back, one after another
freed_buffers_keep : (messages : List ℕ) (d : CallState) → IsSoundInside d → KeepsInside d (freed_buffers messages d)
freed_buffers_keep [] d k = record { sound = k; ports = refl }
freed_buffers_keep (a ∷ messages) d k =
    let one = freed_buffer_keeps a d k in
    let all = freed_buffers_keep messages (freed_buffer a d) one.sound in
    record { sound = all.sound; ports = all.ports ∙ one.ports }

-- The messages of a port are dropped, or given back as buffers.
pub disposed_keeps : (how : ℕ) (messages : List ℕ) (d : CallState) → IsSoundInside d → KeepsInside d (disposed how messages d)
disposed_keeps how messages d k =
    cond_both (how == 1) (freed_buffers messages d) d (KeepsInside d) (λ _. freed_buffers_keep messages d k)
    (λ _. record { sound = k; ports = refl })

-- a refusal keeps all
refused_keeps : (s : Xinu) → MayCall s → ArePools s.tables s.parts.pools → ArePorts s.tables s.parts.ports → PreservesAll (refused s)
refused_keeps s c p a = record { preserved = refused_preserves s c; pools = p; ports = a }

-- a port is renewed
renewed_keeps : (q : ℕ) (d e : CallState) → IsSoundInside d → IsRenewed q d e → PreservesAll (returns e (pos 0))
renewed_keeps q d e k r = record {
  preserved = record { tables = r.tables; harts = harts_same d.state.harts _ r.harts k.harts; released = r.released k.released };
  pools = keeps_pools refl r.touches k.pools;
  ports = r.ports;
}

-- what holds when a call begins
start_inside : (s : Xinu) → MayCall s → ArePools s.tables s.parts.pools → ArePorts s.tables s.parts.ports → IsSoundInside (start s)
start_inside s c p a = record { tables = c.tables; harts = c.harts; released = tt; pools = p; ports = a }

-- a port in use is deleted
deleted_keeps : (found : Option PortQueue) (q how : ℕ) (s : Xinu) → MayCall s → ArePools s.tables s.parts.pools
    → ArePorts s.tables s.parts.ports → (port_at s.parts.ports q).queue ≡ found → PreservesAll (deleted_where found q how s)
deleted_keeps None q how s c p a here = refused_keeps s c p a
deleted_keeps (Some queue) q how s c p a here =
    let d = disposed how queue.messages (start s) in
    let k = disposed_keeps how queue.messages (start s) (start_inside s c p a) in
    cond_both (nat_le how 1) (returns (deleted q queue (cleared how queue (start s))) (pos 0)) (refused s) PreservesAll
    (λ _. renewed_keeps q d (deleted q queue (cleared how queue (start s))) k.sound
    (port_deleted q queue d k.sound.tables k.sound.ports (ap (λ l. (port_at l q).queue) k.ports ∙ here)))
    (λ _. refused_keeps s c p a)

-- Call 32.
pub ptdelete_keeps : (q how : ℕ) (s : Xinu) → MayCall s → ArePools s.tables s.parts.pools → ArePorts s.tables s.parts.ports
    → PreservesAll (ptdelete q how s)
ptdelete_keeps q how s c p a = deleted_keeps (port_at s.parts.ports q).queue q how s c p a refl

-- a port in use is reset
reset_keeps : (found : Option PortQueue) (q how : ℕ) (s : Xinu) → MayCall s → ArePools s.tables s.parts.pools
    → ArePorts s.tables s.parts.ports → (port_at s.parts.ports q).queue ≡ found → PreservesAll (reset_where found q how s)
reset_keeps None q how s c p a here = refused_keeps s c p a
reset_keeps (Some queue) q how s c p a here =
    let d = disposed how queue.messages (start s) in
    let k = disposed_keeps how queue.messages (start s) (start_inside s c p a) in
    cond_both (nat_le how 1) (returns (emptied_port q queue (cleared how queue (start s))) (pos 0)) (refused s) PreservesAll
    (λ _. renewed_keeps q d (emptied_port q queue (cleared how queue (start s))) k.sound
    (port_reset q queue d k.sound.tables k.sound.ports (ap (λ l. (port_at l q).queue) k.ports ∙ here)))
    (λ _. refused_keeps s c p a)

-- Call 33.
pub ptreset_keeps : (q how : ℕ) (s : Xinu) → MayCall s → ArePools s.tables s.parts.pools → ArePorts s.tables s.parts.ports
    → PreservesAll (ptreset q how s)
ptreset_keeps q how s c p a = reset_keeps (port_at s.parts.ports q).queue q how s c p a refl
