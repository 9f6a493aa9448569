-- Searches among processes, one step after another.
use Rattle.std.proofs.Common.{ℕ, ◌≡◌, ◌+◌, suc, Bool, true, false, refl}
use Rattle.std.specs.Prelude.{not}
use Rattle.gdb_answers.specs.Threads.{first_left}
use Rattle.xinu_model.specs.Tables.{Tables, is_free, state_at}

-- a number is free
pub left_next : (t : Tables) (p left less : ℕ) → left ≡ suc less → is_free (state_at t p) ≡ true → first_left t p left ≡ first_left t (p + 1) less
unfolding first_left
left_next t p left less e free = rw e (rw free refl)

-- a number has a process
pub left_here : (t : Tables) (p left less : ℕ) → left ≡ suc less → is_free (state_at t p) ≡ false → first_left t p left ≡ p
unfolding first_left
left_here t p left less e some = rw e (rw some refl)

-- no number is left
pub left_end : (t : Tables) (p left : ℕ) → left ≡ 0 → first_left t p left ≡ 0
unfolding first_left
left_end t p left e = rw e refl

-- what is not true is false, and the other way round
pub not_true : (b : Bool) → not b ≡ true → b ≡ false
not_true true e = absurd (cc)
not_true false e = refl

pub not_false : (b : Bool) → not b ≡ false → b ≡ true
not_false true e = refl
not_false false e = absurd (cc)
