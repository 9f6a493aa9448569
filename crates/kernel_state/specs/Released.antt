-- Who is released, and the answers to them.
use Rattle.std.specs.Prelude.{ℕ, ℤ, Option, Some, List, [], ◌∷◌, ◌++◌}
use Rattle.xinu_base.specs.declared.semaphores.Owner.{Owner}
use Rattle.xinu_base.specs.declared.semaphores.Owner.TheVariants as owner
use Rattle.xinu_model.specs.Machine.{reply_at_unblock}
use Rattle.xinu_model.specs.Tables.{process_at, Tables}

-- this value to each of these processes whose call is complete, in order
abbrev pub replies_to : ℤ → List ℕ → Tables → List (ℕ × ℤ)
replies_to value [] t = []
replies_to value (p ∷ ps) t = reply_at_unblock value p (process_at t p).rest ++ replies_to value ps t

-- a semaphore of a pool, a port or a device: whoever waits there goes on by itself when it is released, and isn't answered then
abbrev pub IsOfPart : Option Owner → Type 0
IsOfPart (Some (owner.Pool i)) = Unit {0}
IsOfPart (Some (owner.Port q)) = Unit {0}
IsOfPart (Some owner.Device) = Unit {0}
IsOfPart _ = ⊥
