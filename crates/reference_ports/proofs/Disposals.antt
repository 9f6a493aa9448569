-- Whatever becomes of the messages of a port and of those who wait on it, the ports stay as they are.
use Rattle.std.proofs.Common.{◌≡◌, ◌∙◌, ℕ, ◌==◌, List, [], ◌∷◌, pos, refl, ap}
use Rattle.std.proofs.lemmas.Bool.{cond_both}
use Rattle.xinu_laws.proofs.Pools.Calls.{pools_freed_buffer}
use Rattle.xinu_laws.proofs.Pools.Preserve.{sound_freed_buffer}
use Rattle.xinu_laws.proofs.Touches.Moves.{parts_emptied}
use Rattle.xinu_laws.proofs.Touches.Pools.{freed_buffer_touches, own_semaphores, pools_reached}
use Rattle.xinu_laws.specs.Touches.{reach, Touches}
use Rattle.xinu_model.specs.Footprints.{on_pools}
use Rattle.xinu_model.specs.Machine.{CallState, Parts}
use Rattle.xinu_model.specs.Pools.Calls.{freed_buffer}
use Rattle.xinu_model.specs.Ports.Calls.{disposed, freed_buffers}
use Rattle.xinu_model.specs.Semaphores.Waiting.{emptied, emptied_with}
use Rattle.xinu_model.specs.Sound.Pools.{ArePools}
use Rattle.xinu_model.specs.Sound.Tables.{IsSoundTables}

-- a buffer is given back, if it is held
freed_ports : (a : ℕ) (d : CallState) → IsSoundTables d.state.tables → ArePools d.state.tables d.state.parts.pools
    → (freed_buffer a d).state.parts.ports ≡ d.state.parts.ports
freed_ports a d k p =
    let touches : Touches (reach on_pools) d.state (freed_buffer a d).state
    = freed_buffer_touches pools_reached a d k.inside (own_semaphores d.state.tables d.state.parts.pools p) in
    (touches.parts.ports refl).0

-- some are given back, one after another
all_freed_ports : (messages : List ℕ) (d : CallState) → IsSoundTables d.state.tables → ArePools d.state.tables d.state.parts.pools
    → (freed_buffers messages d).state.parts.ports ≡ d.state.parts.ports
all_freed_ports [] d k p = refl
all_freed_ports (a ∷ messages) d k p =
    all_freed_ports messages (freed_buffer a d) (sound_freed_buffer a d k p) (pools_freed_buffer a d k.inside p) ∙ freed_ports a d k p

-- the messages are dropped, or given back
disposed_ports : (how : ℕ) (messages : List ℕ) (d : CallState) → IsSoundTables d.state.tables → ArePools d.state.tables d.state.parts.pools
    → (disposed how messages d).state.parts.ports ≡ d.state.parts.ports
disposed_ports how messages d k p = cond_both (how == 1) (freed_buffers messages d) d (λ e. e.state.parts.ports ≡ d.state.parts.ports)
    (λ _. all_freed_ports messages d k p) (λ _. refl)

-- and all who wait go on
pub cleared_ports : (how : ℕ) (messages : List ℕ) (send receive : ℕ) (d : CallState) → IsSoundTables d.state.tables
    → ArePools d.state.tables d.state.parts.pools
    → (emptied_with (pos 0) receive (emptied_with (pos 0) send (disposed how messages d))).state.parts.ports ≡ d.state.parts.ports
cleared_ports how messages send receive d k p =
    let e = disposed how messages d in
    ap (λ (x : Parts). x.ports) (parts_emptied receive (emptied send e) ∙ parts_emptied send e) ∙ disposed_ports how messages d k p
