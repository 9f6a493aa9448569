-- The count of a process's semaphore over a stretch of a run: what it was, and the signals and the killed waiters, less the waits.
use Rattle.std.proofs.Common.{◌≡◌, ℕ, suc, ◌+◌, ◌<◌, ◌==◌, ◌&&◌, ◌||◌, Bool, true, false, not, cond, List, [], ◌∷◌, filter, length, Option, Some, None, refl, sym, ap, subst, ◌∙◌, arith, ℤ, pos}
use Rattle.std.specs.Prelude.{◌+ℤ◌, neg_ℤ, int_lt, slice_index}
use Rattle.std.proofs.lemmas.Bool.{and_from, and_parts, cond_both, eqb-true, or_parts, true≢false}
use Rattle.std.proofs.lemmas.Int.{ints}
use Rattle.xinu_base.specs.declared.events.Event.{Event}
use Rattle.xinu_base.specs.declared.lines.TranscriptLine.{TranscriptLine}
use Rattle.xinu_base.specs.declared.syscalls.Call.{Call}
use Rattle.xinu_model.specs.Events.{Happens}
use Rattle.xinu_model.specs.Machine.{Xinu}
use Rattle.xinu_model.specs.Semaphores.Counts.{count_of, is_good, is_images, most_tokens}
use Rattle.xinu_model.specs.Sound.State.{IsSound}
use Rattle.xinu_model.specs.Sound.Tables.{count_in, times}
use Rattle.xinu_model.specs.Tables.{Semaphore, Tables, is_free, semaphore_at, state_at}
use Rattle.xinu_model.specs.Words.{signed}
use Rattle.table_laws.proofs.Lists.Counts.{count_behind, first_is_counted}
use Rattle.scheduling_laws.specs.Moments.{call_in}
use Rattle.scheduling_laws.specs.Tokens.{asks, changes, changes_semaphore, dead_in, given, living, signals_by, waits_by}
use Rattle.scheduling_laws.proofs.Quiet.{quiet_happens}

-- what passes a test and what doesn't are all
passes_or_not : (f : ℕ → Bool) (l : List ℕ) → times f l + length (filter (λ p. not (f p)) l) ≡ length l
passes_or_not f [] = refl
passes_or_not f (x ∷ xs) =
    let rest = passes_or_not f xs in
    let others = filter (λ p. not (f p)) xs in
    cond_both (f x) (suc (times f xs)) (times f xs) (λ n. n + length (cond (not (f x)) (x ∷ others) others) ≡ suc (length xs))
    (λ b. subst (λ c. suc (times f xs) + length (cond (not c) (x ∷ others) others) ≡ suc (length xs)) (sym b) (omega arith))
    (λ b. subst (λ c. times f xs + length (cond (not c) (x ∷ others) others) ≡ suc (length xs)) (sym b) (omega arith))

-- if none passes it
pub none_passes : (f : ℕ → Bool) (l : List ℕ) → ((p : ℕ) → 0 < count_in p l → f p ≡ false) → times f l ≡ 0
none_passes f [] none = refl
none_passes f (x ∷ xs) none =
    ap (λ b. cond b (suc (times f xs)) (times f xs)) (none x (first_is_counted x xs))
    ∙ none_passes f xs (λ p h. none p (count_behind p x xs h))

-- the count of those who live
count_living : (t : Tables) (x : Semaphore) → count_of (living t x) ≡ count_of x +ℤ pos (dead_in t x)
count_living t x =
    sum x.tokens (length x.waiters) (length (filter (λ p. not (is_free (state_at t p))) x.waiters)) (dead_in t x)
    (passes_or_not (λ p. is_free (state_at t p)) x.waiters)
  where
    sum : (tokens all live dead : ℕ) → dead + live ≡ all → pos tokens +ℤ neg_ℤ (pos live) ≡ (pos tokens +ℤ neg_ℤ (pos all)) +ℤ pos dead
    sum tokens all live dead e = omega (arith, ints)

-- What a moment does to the count of a semaphore that a process may name, and that stays so.
pub record IsCounted (sem : ℕ) (old : Tables) (made : Option Call) (new : Tables) : Type 0 where
  pub good : is_good sem new ≡ true
  pub adds : count_of (semaphore_at new sem) +ℤ pos (waits_by sem made)
      ≡ count_of (semaphore_at old sem) +ℤ pos (signals_by sem (count_of (semaphore_at old sem)) made + dead_in new (semaphore_at old sem))

-- who asks for none gets none
pub given_none : (count : ℤ) → given count (pos 0) ≡ 0
given_none count = cond_both (int_lt most_tokens (count +ℤ pos 0)) 0 0 (λ n. n ≡ 0) (λ _. refl) (λ _. refl)

-- a call on nothing of the semaphore asks for no signal of it, and is no wait on it
silent : (sem : ℕ) (count : ℤ) (made : Option Call) → changes sem made ≡ false → (signals_by sem count made ≡ 0) × (waits_by sem made ≡ 0)
silent sem count None e = (refl, refl)
silent sem count (Some call) e = (
  cond_both (slice_index call.args 0 == sem) (given count (asks call)) 0 (λ n. n ≡ 0)
      (λ b. let other = none_of call.number (differs b) in
      ap (given count) (asks_none call other) ∙ given_none count)
      (λ _. refl),
  cond_both ((call.number == 18) && (slice_index call.args 0 == sem)) 1 0 (λ n. n ≡ 0)
      (λ b. let both = and_parts (call.number == 18) (slice_index call.args 0 == sem) b in
      let number = eqb-true call.number 18 both.0 in
      absurd (true≢false (sym (subst (λ n. changes_semaphore n ≡ true) (sym number) refl) ∙ differs both.1)))
      (λ _. refl),
)
  where
    differs : (slice_index call.args 0 == sem) ≡ true → changes_semaphore call.number ≡ false
    differs b = cond_both (changes_semaphore call.number) true false (λ _. changes_semaphore call.number ≡ false)
        (λ f. absurd (true≢false (sym (and_from (changes_semaphore call.number) (slice_index call.args 0 == sem) f b) ∙ e))) (λ f. f)

    none_of : (number : ℕ) → changes_semaphore number ≡ false → (number == 19 ≡ false) × (number == 20 ≡ false)
    none_of number f =
        let a = or_parts (number == 15) (number == 16 || (number == 18 || (number == 19 || (number == 20 || false)))) f in
        let b = or_parts (number == 16) (number == 18 || (number == 19 || (number == 20 || false))) a.1 in
        let c = or_parts (number == 18) (number == 19 || (number == 20 || false)) b.1 in
        let d = or_parts (number == 19) (number == 20 || false) c.1 in
        (d.0, (or_parts (number == 20) false d.1).0)

    asks_none : (call : Call) → (call.number == 19 ≡ false) × (call.number == 20 ≡ false) → asks call ≡ pos 0
    asks_none call f =
        ap (λ b. cond b (pos 1) (cond (call.number == 20) (signed (slice_index call.args 1)) (pos 0))) f.0
        ∙ ap (λ b. cond b (signed (slice_index call.args 1)) (pos 0)) f.1

-- a moment without such a call
pub quiet_counted : (sem : ℕ) (old : Xinu) (e : Event) (lines : List TranscriptLine) (new : Xinu) → IsSound old → is_good sem old.tables ≡ true
    → Happens old e lines new → changes sem (call_in e lines) ≡ false → IsCounted sem old.tables (call_in e lines) new.tables
quiet_counted sem old e lines new k good h none =
    let x = semaphore_at old.tables sem in
    let made = call_in e lines in
    let kept = quiet_happens sem old e lines new k good h none in
    let nothing = silent sem (count_of x) made none in
    let sum = ap count_of kept ∙ count_living new.tables x in
    record {
      good = ap (λ (y : Semaphore). is_images y.owner) kept ∙ good;
      adds = ap (λ n. count_of (semaphore_at new.tables sem) +ℤ pos n) nothing.1
          ∙ plus_none (count_of (semaphore_at new.tables sem)) ∙ sum
          ∙ ap (λ n. count_of x +ℤ pos n) (let none = nothing.0 in omega arith);
    }
  where
    plus_none : (a : ℤ) → a +ℤ pos 0 ≡ a
    plus_none a = omega (arith, ints)
