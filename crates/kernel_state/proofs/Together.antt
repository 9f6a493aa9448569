-- Processes that are released together, and the first who waits.
use Rattle.std.proofs.Common.{◌≡◌, ◌∙◌, ℕ, Bool, true, false, cond, ℤ, int_lt, List, [], ◌∷◌, refl, sym, ap}
use Rattle.semaphores.specs.Signals.{answer_to, signal_answer}
use Rattle.semaphores.specs.declared.waiting.Signalled.TheVariants.{Full, Released}
use Rattle.xinu_model.specs.Machine.{CallState, start, unblock_all_with, with_tables, Xinu}
use Rattle.xinu_model.specs.Process.Scheduling.{ready_all}
use Rattle.xinu_model.specs.Semaphores.Counts.{count_of, most_tokens}
use Rattle.xinu_model.specs.Tables.{Semaphore, Tables}
use Rattle.kernel_state.specs.Released.{replies_to}
use Rattle.kernel_tables.specs.Waking.{are_any}
use Rattle.kernel_state.proofs.Released.{owed_for, unblocked}
use Rattle.kernel_tables.proofs.Rests.{SameRests}

-- what is under way once these became ready, in these tables
abbrev pub releasing : ℤ → List ℕ → Tables → Xinu → CallState
releasing value ps u s = record { state = record s { tables = u }; released = replies_to value ps u; owes_resched = are_any ps }

-- processes are released, and then the tables change without a change of what is left of a call
pub released_then : (value : ℤ) (ps released : List ℕ) (s : Xinu) (W : Tables → Tables) (u : Tables) → released ≡ ps
    → u ≡ W (ready_all ps s.tables) → SameRests s.tables u
    → releasing value released u s ≡ (let d = unblock_all_with value ps (start s) in with_tables (W d.state.tables) d)
released_then value ps released s W u these is same =
    let e = unblocked value ps (start s) u same.same in
    ap (λ l. releasing value l u s) these
    ∙ sym (ap (λ (d : CallState). with_tables (W d.state.tables) d) e
    ∙ ap (λ b. record { state = record s { tables = W (ready_all ps s.tables) }; released = replies_to value ps u; owes_resched = b })
    (owed_for ps)
    ∙ ap (λ x. record { state = record s { tables = x }; released = replies_to value ps u; owes_resched = are_any ps }) (sym is))

-- What a signal that released p says of those who waited.
pub record IsFirst (x : Semaphore) (p : ℕ) : Type 0 where
  pub below : int_lt (count_of x) most_tokens ≡ true
  pub others : List ℕ
  pub first : x.waiters ≡ p ∷ others

pub released_first : (x : Semaphore) (p : ℕ) → Released p ≡ signal_answer x → IsFirst x p
released_first x p h = by_count (int_lt (count_of x) most_tokens) refl h
  where
    by_waiters : (l : List ℕ) → x.waiters ≡ l → int_lt (count_of x) most_tokens ≡ true → Released p ≡ answer_to l → IsFirst x p
    by_waiters [] e b h = absurd (cc)
    by_waiters (q ∷ qs) e b h = let s : p ≡ q = cc in record { below = b; others = qs; first = e ∙ ap (λ r. r ∷ qs) (sym s) }

    by_count : (b : Bool) → int_lt (count_of x) most_tokens ≡ b → Released p ≡ cond b (answer_to x.waiters) Full → IsFirst x p
    by_count true e h = by_waiters x.waiters refl e h
    by_count false e h = absurd (cc)
