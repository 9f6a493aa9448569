-- A sound console: what a character commits, and a byte that is sent, can be signalled.
use Rattle.std.proofs.Common.{◌≡◌, ◌≤◌, ℕ, Bool, true, false, pos, ◌+ℤ◌, int_lt, refl, arith}
use Rattle.std.proofs.lemmas.Int.{ints}
use Rattle.xinu_model.specs.Console.State.{Console}
use Rattle.xinu_model.specs.Semaphores.Counts.{count_of, most_tokens}
use Rattle.xinu_model.specs.Sound.Console.{IsConsole}
use Rattle.xinu_model.specs.Tables.{Semaphore, semaphore_at, Tables}

-- the count leaves room for n signals
room_for : (x : Semaphore) (n : ℕ) → x.tokens ≤ 128 → n ≤ 128 → int_lt most_tokens (count_of x +ℤ pos n) ≡ false
room_for x n few less = by_size (int_lt most_tokens (count_of x +ℤ pos n)) refl
  where
    by_size : (b : Bool) → int_lt most_tokens (count_of x +ℤ pos n) ≡ b → int_lt most_tokens (count_of x +ℤ pos n) ≡ false
    by_size false e = e
    by_size true e = absurd (omega (arith, ints, e, few, less))

-- The input can be signalled as often as a character or a control function commits items.
pub input_room : (t : Tables) (c : Console) (n : ℕ) → IsConsole t c → n ≤ 128
    → int_lt most_tokens (count_of (semaphore_at t 0) +ℤ pos n) ≡ false
input_room t c n k less =
    let items = k.items in
    let input = k.itself.input in
    room_for (semaphore_at t 0) n (omega (arith, items, input)) less
