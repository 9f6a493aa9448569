-- The search for a port that isn't in use.
use Rattle.std.proofs.Common.{◌≡◌, ℕ, Bool, true, List, Option, Some, None, refl, sym}
use Rattle.std.specs.List.{find}
use Rattle.std.specs.Option.{is_some}
use Rattle.std.specs.Prelude.{not, IfSome}
use Rattle.xinu_model.proofs.Searches.{find_passes}
use Rattle.xinu_model.specs.Ports.Queues.{MessagePort, PortQueue, is_used, port_at}
use Rattle.xinu_model.specs.Searches.{numbers_from}

-- whether port q isn't in use
abbrev pub is_free_in : List MessagePort → ℕ → Bool
is_free_in ports q = not (is_used (port_at ports q))

-- a port that isn't in use has no queue
free_by_test : (o : Option PortQueue) → not (is_some o) ≡ true → o ≡ None
free_by_test None h = refl
free_by_test (Some queue) h = absurd (cc)

-- a number that is found isn't in use
pub found_free : (ports : List MessagePort) (n k : ℕ) (o : Option ℕ) → o ≡ find (is_free_in ports) (numbers_from n k)
    → IfSome o (λ q. (port_at ports q).queue ≡ None)
found_free ports n k None e = tt
found_free ports n k (Some q) e = free_by_test (port_at ports q).queue (find_passes (is_free_in ports) n k q (sym e))
