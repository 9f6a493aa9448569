-- The search for the process in whose stack an address is, one step after another.
use Rattle.std.proofs.Common.{ℕ, ◌≡◌, ◌+◌, suc, true, false, Some, None, refl}
use Rattle.memory_strays.specs.Looks.{is_in_stack, stack_owner}
use Rattle.xinu_model.specs.Tables.{Tables, process_at}

-- it isn't in the stack of this process
pub owner_next : (t : Tables) (a p left less : ℕ) → left ≡ suc less → is_in_stack (process_at t p) a ≡ false
    → stack_owner t a p left ≡ stack_owner t a (p + 1) less
unfolding stack_owner
owner_next t a p left less e other = rw e (rw other refl)

-- it is in the stack of this process
pub owner_here : (t : Tables) (a p left less : ℕ) → left ≡ suc less → is_in_stack (process_at t p) a ≡ true → stack_owner t a p left ≡ Some p
unfolding stack_owner
owner_here t a p left less e here = rw e (rw here refl)

-- no process is left
pub owner_end : (t : Tables) (a p left : ℕ) → left ≡ 0 → stack_owner t a p left ≡ None
unfolding stack_owner
owner_end t a p left e = rw e refl
