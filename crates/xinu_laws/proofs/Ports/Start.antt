-- At the start no port is in use.
use Rattle.std.proofs.Common.{◌≡◌, ℕ, zero, suc, false, List, refl, sym, ap, subst, arith}
use Rattle.std.specs.Prelude.{replicate}
use Rattle.std.proofs.lemmas.Bool.{both_ways}
use Rattle.xinu_model.specs.Boot.{Loaded, Boots, boot}
use Rattle.xinu_model.specs.Machine.{Xinu}
use Rattle.xinu_model.specs.Ports.Queues.{MessagePort, no_port, first_ports, most_ports, nodes}
use Rattle.xinu_model.specs.Sound.Ports.{ArePorts}
use Rattle.xinu_model.specs.Tables.{Tables, process_at, semaphore_at}
use Rattle.xinu_model.specs.Footprints.{on_deaths}
use Rattle.table_laws.proofs.Tables.Starts.{same_everywhere}
use Rattle.xinu_laws.specs.Touches.{Reach}
use Rattle.xinu_laws.proofs.Touches.Boot.{HasStart, OwnsNone, touches_start, start_other, start_unasked}
use Rattle.xinu_laws.proofs.Ports.Kept.{is_ports, asks_port}

-- ports that were never made hold no message
no_nodes : (n : ℕ) → nodes (replicate n no_port) ≡ 0
no_nodes zero = refl
no_nodes (suc n) = let e = no_nodes n in omega arith

-- If no semaphore is a port's and nobody is in a call on one, no port is in use.
pub no_ports : (t : Tables) → ((sem : ℕ) → is_ports sem (semaphore_at t sem).owner ≡ false)
    → ((p : ℕ) → asks_port (process_at t p).rest ≡ false) → ArePorts t first_ports
unfolding first_ports
no_ports t semaphores rests = record {
  many = refl;
  few = (let e = no_nodes most_ports in omega arith);
  each = λ q queue e. (let f = ap (λ (x : MessagePort). x.queue) (same_everywhere most_ports q no_port) in cc);
  owned = λ sem q e. absurd (both_ways (is_ports sem (semaphore_at t sem).owner) (semaphores sem) (ap (is_ports sem) e));
  sent = λ p ticket message e. absurd (both_ways (asks_port (process_at t p).rest) (rests p) (ap asks_port e));
  received = λ p ticket e. absurd (both_ways (asks_port (process_at t p).rest) (rests p) (ap asks_port e));
}

-- the start leaves ports alone
abbrev beside_all_ports : Reach
beside_all_ports = record { mine = is_ports; asks = asks_port; parts = on_deaths; clock = false }

start_reached : HasStart beside_all_ports
start_reached = record { nothing = refl; heap = refl; stacks = refl; disk = refl }

owns_none : OwnsNone beside_all_ports
owns_none = record { none = λ sem. refl; kernel = λ sem. refl }

-- When the machine starts, what holds of the ports holds: none is in use.
pub ports_start : (images : List Loaded) (start : Xinu) → boot images ≡ Boots start → ArePorts start.tables start.parts.ports
ports_start images start e =
    subst (ArePorts start.tables) (sym ((touches_start start_reached images start e).parts.ports refl).0)
    (no_ports start.tables (start_other start_reached owns_none images start e) (start_unasked start_reached images start e))
