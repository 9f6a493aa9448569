-- A semaphore that begins with one token, and is signalled only by who is inside, lets in one process at a time.
use Rattle.std.proofs.Common.{◌≡◌, ◌≢◌, ◌⊎◌, inl, inr, ⊎_elim, ℕ, suc, ◌+◌, ◌<◌, ◌≤◌, ◌==◌, ◌&&◌, ◌||◌, Bool, true, false, not, cond, List, [], ◌∷◌, ◌++◌, length, Option, Some, None, refl, sym, ap, subst, ◌∙◌, arith, pos}
use Rattle.std.specs.Prelude.{◌+ℤ◌, neg_ℤ, int_lt, slice_index}
use Rattle.std.proofs.lemmas.Bool.{and_from, and_parts, and_right, false_from_ne_true, cases_eq, cond_both, eq-eqb, eqb-true, ne_eqb, or_parts, true≢false}
use Rattle.std.proofs.lemmas.Int.{ints}
use Rattle.xinu_base.specs.declared.syscalls.Call.{Call}
use Rattle.xinu_model.specs.Calls.{called}
use Rattle.xinu_model.specs.Events.{Happens}
use Rattle.xinu_model.specs.Machine.{Xinu, closed}
use Rattle.xinu_model.specs.Semaphores.Calls.{signal, wait}
use Rattle.xinu_model.specs.Semaphores.Counts.{count_of, is_good, most_tokens}
use Rattle.xinu_model.specs.Sound.State.{IsSound}
use Rattle.xinu_model.specs.Sound.Tables.{count_in, waiting_places}
use Rattle.xinu_model.specs.Tables.{Semaphore, Tables, is_free, semaphore_at, state_at}
use Rattle.table_laws.proofs.Frame.MoveTo.{times-filter-le}
use Rattle.table_laws.proofs.Lists.Counts.{count_behind, count_last_other, count_last_same, times-filter_keeps}
use Rattle.table_laws.proofs.Tables.Unblock.{waiter_waits}
use Rattle.xinu_laws.proofs.Preserve.Events.{sound_happens}
use Rattle.scheduling_laws.specs.Exclusion.{IsUsedInPairs, all_entered, entered, is_inside, nobody}
use Rattle.scheduling_laws.specs.Moments.{LeadTo, Moment, call_in}
use Rattle.scheduling_laws.specs.Tokens.{changes, changes_semaphore, is_made, living, renews}
use Rattle.scheduling_laws.proofs.Calling.{IsCalled, event_tells, one_of_five, signalled_by, waited_by}
use Rattle.scheduling_laws.proofs.Counts.{semaphore_signalled, semaphore_waited, signalled_to, taken}
use Rattle.scheduling_laws.proofs.Quiet.{and_true, quiet_happens}
use Rattle.scheduling_laws.proofs.Stretches.{event_counted, made_by}
use Rattle.scheduling_laws.proofs.Waiters.{not_waiting}

-- what is inside has entered, and doesn't wait
inside_parts : (sem : ℕ) (w : ℕ → Bool) (t : Tables) (p : ℕ) → is_inside sem w t p ≡ true
    → (w p ≡ true) × (count_in p (semaphore_at t sem).waiters ≡ 0)
inside_parts sem w t p h =
    let both = and_parts (w p) (count_in p (semaphore_at t sem).waiters == 0) h in
    (both.0, eqb-true (count_in p (semaphore_at t sem).waiters) 0 both.1)

inside_from : (sem : ℕ) (w : ℕ → Bool) (t : Tables) (p : ℕ) → w p ≡ true → count_in p (semaphore_at t sem).waiters ≡ 0
    → is_inside sem w t p ≡ true
inside_from sem w t p a b =
    and_from (w p) (count_in p (semaphore_at t sem).waiters == 0) a (eq-eqb (count_in p (semaphore_at t sem).waiters) 0 b)

-- Either the token is there and nobody is inside, or it is taken and at most one is. Each waiter has called `wait`.
pub record IsExclusive (sem : ℕ) (w : ℕ → Bool) (t : Tables) : Type 0 where
  pub good : is_good sem t ≡ true
  pub one : (((semaphore_at t sem).tokens ≡ 1) × ((p : ℕ) → is_inside sem w t p ≡ true → ⊥))
      ⊎ (((semaphore_at t sem).tokens ≡ 0) × ((p q : ℕ) → is_inside sem w t p ≡ true → is_inside sem w t q ≡ true → p ≡ q))
  pub waiting : (p : ℕ) → 0 < count_in p (semaphore_at t sem).waiters → w p ≡ true

-- Who has entered after a moment lives, and called `wait` in it, or had entered and didn't call `signal`.
entered_parts : (sem : ℕ) (m : Moment) (w : ℕ → Bool) (p : ℕ) (calls_wait calls_signal : Bool)
    → ((m.before.tables.current == p) && is_made 18 sem (call_in m.event m.lines)) ≡ calls_wait
    → ((m.before.tables.current == p) && is_made 19 sem (call_in m.event m.lines)) ≡ calls_signal
    → entered sem m w p ≡ true
    → (is_free (state_at m.after.tables p) ≡ false) × ((calls_wait ≡ true) ⊎ ((calls_signal ≡ false) × (w p ≡ true)))
entered_parts sem m w p a b e f h =
    by_case (is_free (state_at m.after.tables p)) a b (ap (λ c. cond (is_free (state_at m.after.tables p)) false (cond c true (cond b false (w p)))) (sym e)
    ∙ ap (λ c. cond (is_free (state_at m.after.tables p)) false (cond ((m.before.tables.current == p) && is_made 18 sem (call_in m.event m.lines)) true (cond c false (w p)))) (sym f) ∙ h)
  where
    by_case : (dead a b : Bool) → cond dead false (cond a true (cond b false (w p))) ≡ true
        → (dead ≡ false) × ((a ≡ true) ⊎ ((b ≡ false) × (w p ≡ true)))
    by_case true a b g = cc
    by_case false true b g = (refl, inl refl)
    by_case false false true g = cc
    by_case false false false g = (refl, inr (refl, g))

entered_from : (sem : ℕ) (m : Moment) (w : ℕ → Bool) (p : ℕ) (calls_wait calls_signal : Bool)
    → ((m.before.tables.current == p) && is_made 18 sem (call_in m.event m.lines)) ≡ calls_wait
    → ((m.before.tables.current == p) && is_made 19 sem (call_in m.event m.lines)) ≡ calls_signal
    → is_free (state_at m.after.tables p) ≡ false → (calls_wait ≡ true) ⊎ ((calls_signal ≡ false) × (w p ≡ true)) → entered sem m w p ≡ true
entered_from sem m w p a b e f lives h =
    ap (λ c. cond c false (cond ((m.before.tables.current == p) && is_made 18 sem (call_in m.event m.lines)) true
    (cond ((m.before.tables.current == p) && is_made 19 sem (call_in m.event m.lines)) false (w p)))) lives
    ∙ ap (λ c. cond c true (cond ((m.before.tables.current == p) && is_made 19 sem (call_in m.event m.lines)) false (w p))) e
    ∙ ap (λ c. cond a true (cond c false (w p))) f ∙ by_case a b h
  where
    by_case : (a b : Bool) → (a ≡ true) ⊎ ((b ≡ false) × (w p ≡ true)) → cond a true (cond b false (w p)) ≡ true
    by_case true b g = refl
    by_case false b g = ⊎_elim (λ (i : false ≡ true). cc) (λ (i : (b ≡ false) × (w p ≡ true)). ap (λ c. cond c false (w p)) i.0 ∙ i.1) g

-- without a token the count is less than the greatest
few_tokens : (n l : ℕ) → n ≡ 0 → int_lt (pos n +ℤ neg_ℤ (pos l)) most_tokens ≡ true
few_tokens n l e = grind (arith, ints)

module _ (sem : ℕ) (w : ℕ → Bool) (m : Moment) (k : IsSound m.before) (h : Happens m.before m.event m.lines m.after)
    (x : IsExclusive sem w m.before.tables) where
  abbrev Was : Tables
  Was = m.before.tables

  abbrev Is : Tables
  Is = m.after.tables

  abbrev Calls : ℕ → ℕ → Bool
  Calls number p = (m.before.tables.current == p) && is_made number sem (call_in m.event m.lines)

  -- who waits after the moment lives
  lives : (p : ℕ) → 0 < count_in p (semaphore_at Is sem).waiters → is_free (state_at Is p) ≡ false
  lives p there = ap is_free (waiter_waits Is sem p (sound_happens m.before m.event m.lines m.after k h).tables.inside there)

  -- the current process doesn't wait
  caller_goes : count_in Was.current (semaphore_at Was sem).waiters ≡ 0
  caller_goes = not_waiting Was Was.current sem k.tables.inside (ap waiting_places k.tables.runs)

  -- No call changes the semaphore.
  exclusive_quiet : is_good sem Is ≡ true → semaphore_at Is sem ≡ living Is (semaphore_at Was sem)
      → is_made 18 sem (call_in m.event m.lines) ≡ false → is_made 19 sem (call_in m.event m.lines) ≡ false
      → IsExclusive sem (entered sem m w) Is
  exclusive_quiet good kept no_wait no_signal =
      let none : (number p : ℕ) → is_made number sem (call_in m.event m.lines) ≡ false → Calls number p ≡ false =
      λ number p e. ap (λ c. (Was.current == p) && c) e ∙ and_right (Was.current == p) false refl in
      let before : (p : ℕ) → is_inside sem (entered sem m w) Is p ≡ true → is_inside sem w Was p ≡ true =
      λ p i. let both = inside_parts sem (entered sem m w) Is p i in
      let parts = entered_parts sem m w p false false (none 18 p no_wait) (none 19 p no_signal) both.0 in
      let had : w p ≡ true = ⊎_elim (λ (f : false ≡ true). cc) (λ (f : (false ≡ false) × (w p ≡ true)). f.1) parts.1 in
      inside_from sem w Was p had
      (sym (times-filter_keeps (λ z. z == p) (λ z. not (is_free (state_at Is z)))
      (λ z e. ap (λ r. not (is_free (state_at Is r))) (eqb-true z p e) ∙ ap not parts.0) (semaphore_at Was sem).waiters)
      ∙ ap (λ (y : Semaphore). count_in p y.waiters) (sym kept) ∙ both.1) in
      let tokens : (semaphore_at Is sem).tokens ≡ (semaphore_at Was sem).tokens = ap (λ (y : Semaphore). y.tokens) kept in
      record {
        good = good;
        one = ⊎_elim (λ f. inl (tokens ∙ f.0, (λ p i. f.1 p (before p i))))
            (λ f. inr (tokens ∙ f.0, (λ p q i j. f.1 p q (before p i) (before q j)))) x.one;
        waiting = λ p there. (let fewer = times-filter-le (λ z. z == p) (λ z. not (is_free (state_at Is z))) (semaphore_at Was sem).waiters in
            let same = ap (λ (y : Semaphore). count_in p y.waiters) kept in
            entered_from sem m w p false false (none 18 p no_wait) (none 19 p no_signal) (lives p there) (inr (refl, x.waiting p (omega arith))));
      }

  -- The current process waits.
  exclusive_wait : is_good sem Is ≡ true → semaphore_at Is sem ≡ taken (semaphore_at Was sem).tokens Was.current (semaphore_at Was sem)
      → is_made 18 sem (call_in m.event m.lines) ≡ true → is_made 19 sem (call_in m.event m.lines) ≡ false
      → IsExclusive sem (entered sem m w) Is
  exclusive_wait good kept waits no_signal =
      ⊎_elim
      (λ f. let now : semaphore_at Is sem ≡ taken 1 Was.current y = kept ∙ ap (λ n. taken n Was.current y) f.0 in
      record {
        good = good;
        one = inr (ap (λ (z : Semaphore). z.tokens) now, (λ p q i j. only_caller now f.1 p i ∙ sym (only_caller now f.1 q j)));
        waiting = λ p there. enters p (lives p there) (inr (x.waiting p (subst (λ (z : Semaphore). 0 < count_in p z.waiters) now there)));
      })
      (λ f. let now : semaphore_at Is sem ≡ taken 0 Was.current y = kept ∙ ap (λ n. taken n Was.current y) f.0 in
      record {
        good = good;
        one = inr (ap (λ (z : Semaphore). z.tokens) now ∙ f.0, (λ p q i j. f.1 p q (others_before now p i) (others_before now q j)));
        waiting = λ p there. enters p (lives p there)
            (⊎_elim (λ (e : p ≡ Was.current). inl e)
            (λ (n : p ≢ Was.current). inr (x.waiting p (subst (λ i. 0 < i) (count_last_other p Was.current y.waiters n)
            (subst (λ (z : Semaphore). 0 < count_in p z.waiters) now there)))) (cases_eq p Was.current));
      })
      x.one
    where
      y : Semaphore
      y = semaphore_at Was sem

      wait_of : (p : ℕ) → Calls 18 p ≡ (Was.current == p)
      wait_of p = ap (λ c. (Was.current == p) && c) waits ∙ and_true (Was.current == p)

      signal_of : (p : ℕ) → Calls 19 p ≡ false
      signal_of p = ap (λ c. (Was.current == p) && c) no_signal ∙ and_right (Was.current == p) false refl

      enters : (p : ℕ) → is_free (state_at Is p) ≡ false → (p ≡ Was.current) ⊎ (w p ≡ true) → entered sem m w p ≡ true
      enters p alive f =
          entered_from sem m w p (Was.current == p) false (wait_of p) (signal_of p) alive
          (⊎_elim (λ (e : p ≡ Was.current). inl (eq-eqb Was.current p (sym e))) (λ (e : w p ≡ true). inr (refl, e)) f)

      -- who is inside is the caller, or had entered and doesn't wait
      caller_or : (p : ℕ) → is_inside sem (entered sem m w) Is p ≡ true
          → (Was.current ≡ p) ⊎ ((w p ≡ true) × (count_in p (semaphore_at Is sem).waiters ≡ 0))
      caller_or p i =
          let both = inside_parts sem (entered sem m w) Is p i in
          let parts = entered_parts sem m w p (Was.current == p) false (wait_of p) (signal_of p) both.0 in
          ⊎_elim (λ (f : (Was.current == p) ≡ true). inl (eqb-true Was.current p f))
          (λ (f : (false ≡ false) × (w p ≡ true)). inr (f.1, both.1)) parts.1

      only_caller : semaphore_at Is sem ≡ taken 1 Was.current y → ((p : ℕ) → is_inside sem w Was p ≡ true → ⊥) → (p : ℕ)
          → is_inside sem (entered sem m w) Is p ≡ true → p ≡ Was.current
      only_caller now none p i =
          ⊎_elim (λ (e : Was.current ≡ p). sym e)
          (λ (f : (w p ≡ true) × (count_in p (semaphore_at Is sem).waiters ≡ 0)).
          absurd (none p (inside_from sem w Was p f.0 (ap (λ (z : Semaphore). count_in p z.waiters) (sym now) ∙ f.1)))) (caller_or p i)

      others_before : semaphore_at Is sem ≡ taken 0 Was.current y → (p : ℕ) → is_inside sem (entered sem m w) Is p ≡ true
          → is_inside sem w Was p ≡ true
      others_before now p i =
          let none : count_in p (y.waiters ++ Was.current ∷ []) ≡ 0 =
          ap (λ (z : Semaphore). count_in p z.waiters) (sym now) ∙ (inside_parts sem (entered sem m w) Is p i).1 in
          let n : p ≢ Was.current = λ e. let f = ap (λ r. count_in r (y.waiters ++ Was.current ∷ [])) e in
          let g = count_last_same Was.current y.waiters in absurd (omega arith) in
          ⊎_elim (λ (e : Was.current ≡ p). absurd (n (sym e)))
          (λ (f : (w p ≡ true) × (count_in p (semaphore_at Is sem).waiters ≡ 0)).
          inside_from sem w Was p f.0 (sym (count_last_other p Was.current y.waiters n) ∙ none)) (caller_or p i)

  -- The current process signals, which was inside.
  exclusive_signal : is_good sem Is ≡ true
      → semaphore_at Is sem ≡ signalled_to (semaphore_at Was sem).waiters (semaphore_at Was sem)
      → is_made 18 sem (call_in m.event m.lines) ≡ false → is_made 19 sem (call_in m.event m.lines) ≡ true
      → (semaphore_at Was sem).tokens ≡ 0 → ((p : ℕ) → is_inside sem w Was p ≡ true → p ≡ Was.current)
      → IsExclusive sem (entered sem m w) Is
  exclusive_signal good kept no_wait signals none alone = by_waiters y.waiters refl
    where
      y : Semaphore
      y = semaphore_at Was sem

      wait_of : (p : ℕ) → Calls 18 p ≡ false
      wait_of p = ap (λ c. (Was.current == p) && c) no_wait ∙ and_right (Was.current == p) false refl

      signal_of : (p : ℕ) → Calls 19 p ≡ (Was.current == p)
      signal_of p = ap (λ c. (Was.current == p) && c) signals ∙ and_true (Was.current == p)

      -- who is inside isn't the caller, and had entered
      other : (p : ℕ) → is_inside sem (entered sem m w) Is p ≡ true → (p ≢ Was.current) × (w p ≡ true)
      other p i =
          let parts = entered_parts sem m w p false (Was.current == p) (wait_of p) (signal_of p) (inside_parts sem (entered sem m w) Is p i).0 in
          ⊎_elim (λ (f : false ≡ true). cc)
          (λ (f : ((Was.current == p) ≡ false) × (w p ≡ true)).
          ((λ e. true≢false (sym (eq-eqb Was.current p (sym e)) ∙ f.0)), f.1)) parts.1

      -- and waited
      waited_before : (p : ℕ) → is_inside sem (entered sem m w) Is p ≡ true → count_in p y.waiters ≡ 0 → ⊥
      waited_before p i e = let f = other p i in f.0 (alone p (inside_from sem w Was p f.1 e))

      -- who waits still had entered
      stays : (p : ℕ) → is_free (state_at Is p) ≡ false → 0 < count_in p y.waiters → entered sem m w p ≡ true
      stays p alive there =
          entered_from sem m w p false (Was.current == p) (wait_of p) (signal_of p) alive
          (inr (ne_eqb Was.current p (λ e. let f = ap (λ r. count_in r y.waiters) e in let g = caller_goes in absurd (omega arith)), x.waiting p there))

      by_waiters : (l : List ℕ) → y.waiters ≡ l → IsExclusive sem (entered sem m w) Is
      by_waiters [] e =
          let now : semaphore_at Is sem ≡ signalled_to [] y = kept ∙ ap (λ l. signalled_to l y) e in
          let tokens : (semaphore_at Is sem).tokens ≡ y.tokens + 1 = ap (λ (z : Semaphore). z.tokens) now in
          let more : (semaphore_at Is sem).tokens ≡ 1 = omega arith in
          record {
            good = good;
            one = inl (more, (λ p i. waited_before p i (ap (λ (z : Semaphore). count_in p z.waiters) (sym now) ∙ (inside_parts sem (entered sem m w) Is p i).1)));
            waiting = λ p there. stays p (lives p there) (subst (λ (z : Semaphore). 0 < count_in p z.waiters) now there);
          }
      by_waiters (q ∷ qs) e =
          let now : semaphore_at Is sem ≡ signalled_to (q ∷ qs) y = kept ∙ ap (λ l. signalled_to l y) e in
          let first : (p : ℕ) → is_inside sem (entered sem m w) Is p ≡ true → p ≡ q =
          λ p i. let left : count_in p qs ≡ 0 =
          ap (λ (z : Semaphore). count_in p z.waiters) (sym now) ∙ (inside_parts sem (entered sem m w) Is p i).1 in
          ⊎_elim (λ (f : p ≡ q). f)
          (λ (n : p ≢ q). absurd (waited_before p i (ap (count_in p) e
          ∙ ap (λ b. cond b (suc (count_in p qs)) (count_in p qs)) (ne_eqb q p (λ g. n (sym g))) ∙ left))) (cases_eq p q) in
          record {
            good = good;
            one = inr (ap (λ (z : Semaphore). z.tokens) now ∙ none, (λ p r i j. first p i ∙ sym (first r j)));
            waiting = λ p there. stays p (lives p there)
                (subst (λ l. 0 < count_in p l) (sym e)
                (count_behind p q qs (subst (λ (z : Semaphore). 0 < count_in p z.waiters) now there)));
          }

  -- A call that changes the semaphore and may be made.
  exclusive_call : (call : Call) → call_in m.event m.lines ≡ Some call → changes_semaphore call.number ≡ true → slice_index call.args 0 ≡ sem
      → (is_made 19 sem (call_in m.event m.lines) ≡ true → is_inside sem w Was Was.current ≡ true)
      → (renews sem (call_in m.event m.lines) || is_made 20 sem (call_in m.event m.lines)) ≡ false → is_good sem Is ≡ true
      → IsExclusive sem (entered sem m w) Is
  exclusive_call call is changing first paired only good =
      ⊎_elim (λ e. absurd (true≢false (sym (made 15 e) ∙ neither.0)))
      (λ r. ⊎_elim (λ e. absurd (true≢false (sym (made 16 e) ∙ neither.1)))
      (λ r. ⊎_elim (λ e. exclusive_wait good (waited e) (made 18 e) (not_made 19 18 e (λ f. absurd (omega arith))))
      (λ r. ⊎_elim (λ e. by_token e x.one) (λ e. absurd (true≢false (sym (made 20 e) ∙ none.1))) r) r) r) (one_of_five call.number changing)
    where
      c : IsCalled m.before call Is
      c = event_tells m.before m.event m.lines m.after k h call is changing

      none : (renews sem (call_in m.event m.lines) ≡ false) × (is_made 20 sem (call_in m.event m.lines) ≡ false)
      none = or_parts (renews sem (call_in m.event m.lines)) (is_made 20 sem (call_in m.event m.lines)) only

      neither : (is_made 15 sem (call_in m.event m.lines) ≡ false) × (is_made 16 sem (call_in m.event m.lines) ≡ false)
      neither = or_parts (is_made 15 sem (call_in m.event m.lines)) (is_made 16 sem (call_in m.event m.lines)) none.0

      made : (number : ℕ) → call.number ≡ number → is_made number sem (call_in m.event m.lines) ≡ true
      made number e = ap (is_made number sem) is ∙ made_by number sem call e first

      not_made : (number other : ℕ) → call.number ≡ other → number ≢ other → is_made number sem (call_in m.event m.lines) ≡ false
      not_made number other e n =
          ap (is_made number sem) is
          ∙ ap (λ b. b && (slice_index call.args 0 == sem)) (ne_eqb call.number number (λ f. n (sym f ∙ e)))

      here : is_good sem c.state.tables ≡ true
      here = subst (λ (t : Tables). is_good sem t ≡ true) (sym c.tables) x.good

      waited : call.number ≡ 18 → semaphore_at Is sem ≡ taken (semaphore_at Was sem).tokens Was.current (semaphore_at Was sem)
      waited e =
          let s = c.state in
          ap (λ t. semaphore_at t sem) (c.leaves ∙ ap (λ n. closed (called n call.args s)) e ∙ ap closed (waited_by call.args s ∙ ap (λ r. wait r s) first))
          ∙ semaphore_waited sem s c.sound c.not_null here
          ∙ ap (λ (t : Tables). taken (semaphore_at t sem).tokens t.current (semaphore_at t sem)) c.tables

      signalled : call.number ≡ 19 → (semaphore_at Was sem).tokens ≡ 0
          → semaphore_at Is sem ≡ signalled_to (semaphore_at Was sem).waiters (semaphore_at Was sem)
      signalled e z =
          let s = c.state in
          let y = semaphore_at s.tables sem in
          let zero : y.tokens ≡ 0 = ap (λ (t : Tables). (semaphore_at t sem).tokens) c.tables ∙ z in
          ap (λ t. semaphore_at t sem) (c.leaves ∙ ap (λ n. closed (called n call.args s)) e ∙ ap closed (signalled_by call.args s ∙ ap (λ r. signal r s) first))
          ∙ semaphore_signalled sem s c.sound here (few_tokens y.tokens (length y.waiters) zero)
          ∙ ap (λ (t : Tables). signalled_to (semaphore_at t sem).waiters (semaphore_at t sem)) c.tables

      by_token : call.number ≡ 19
          → (((semaphore_at Was sem).tokens ≡ 1) × ((p : ℕ) → is_inside sem w Was p ≡ true → ⊥))
          ⊎ (((semaphore_at Was sem).tokens ≡ 0) × ((p q : ℕ) → is_inside sem w Was p ≡ true → is_inside sem w Was q ≡ true → p ≡ q))
          → IsExclusive sem (entered sem m w) Is
      by_token e one =
          let inside = paired (made 19 e) in
          ⊎_elim (λ (f : ((semaphore_at Was sem).tokens ≡ 1) × ((p : ℕ) → is_inside sem w Was p ≡ true → ⊥)). absurd (f.1 Was.current inside))
          (λ (f : ((semaphore_at Was sem).tokens ≡ 0) × ((p q : ℕ) → is_inside sem w Was p ≡ true → is_inside sem w Was q ≡ true → p ≡ q)).
          exclusive_signal good (signalled e f.0) (not_made 18 19 e (λ g. absurd (omega arith))) (made 19 e) f.0
          (λ p i. f.1 p Was.current i inside)) one

  -- Each moment keeps the exclusion.
  exclusive_moment : (is_made 19 sem (call_in m.event m.lines) ≡ true → is_inside sem w Was Was.current ≡ true)
      → (renews sem (call_in m.event m.lines) || is_made 20 sem (call_in m.event m.lines)) ≡ false → IsExclusive sem (entered sem m w) Is
  exclusive_moment paired only = by_made (call_in m.event m.lines) refl
    where
      good : is_good sem Is ≡ true
      good = (event_counted sem m.before m.event m.lines m.after k x.good h
          (or_parts (renews sem (call_in m.event m.lines)) (is_made 20 sem (call_in m.event m.lines)) only).0).good

      quiet : changes sem (call_in m.event m.lines) ≡ false → is_made 18 sem (call_in m.event m.lines) ≡ false
          → is_made 19 sem (call_in m.event m.lines) ≡ false → IsExclusive sem (entered sem m w) Is
      quiet e = exclusive_quiet good (quiet_happens sem m.before m.event m.lines m.after k x.good h e)

      by_made : (made : Option Call) → call_in m.event m.lines ≡ made → IsExclusive sem (entered sem m w) Is
      by_made None is = quiet (ap (changes sem) is) (ap (is_made 18 sem) is) (ap (is_made 19 sem) is)
      by_made (Some call) is =
          let changing = changes_semaphore call.number in
          let first = slice_index call.args 0 == sem in
          cond_both (changing && first) true false (λ _. IsExclusive sem (entered sem m w) Is)
          (λ b. let both = and_parts changing first b in
          exclusive_call call is both.0 (eqb-true (slice_index call.args 0) sem both.1) paired only good)
          (λ b. quiet (ap (changes sem) is ∙ b) (ap (is_made 18 sem) is ∙ no_call 18 call b refl) (ap (is_made 19 sem) is ∙ no_call 19 call b refl))
        where
          no_call : (number : ℕ) (call : Call) → (changes_semaphore call.number && (slice_index call.args 0 == sem)) ≡ false
              → changes_semaphore number ≡ true → is_made number sem (Some call) ≡ false
          no_call number call b f =
              false_from_ne_true (is_made number sem (Some call))
              (λ g. let both = and_parts (call.number == number) (slice_index call.args 0 == sem) g in
              let n = eqb-true call.number number both.0 in
              true≢false (sym (and_from (changes_semaphore call.number) (slice_index call.args 0 == sem)
              (subst (λ i. changes_semaphore i ≡ true) (sym n) f) both.1) ∙ b))

-- So does a stretch.
exclusive_stretch : (sem : ℕ) (ms : List Moment) (w : ℕ → Bool) (old new : Xinu) → IsSound old → IsExclusive sem w old.tables
    → LeadTo old ms new → IsUsedInPairs sem w ms → IsExclusive sem (all_entered sem ms w) new.tables
exclusive_stretch sem [] w old new k x lead pairs = subst (λ (s : Xinu). IsExclusive sem w s.tables) (sym lead) x
exclusive_stretch sem (m ∷ ms) w old new k x lead pairs =
    let here : IsSound m.before = subst IsSound (sym lead.0) k in
    let first = exclusive_moment sem w m here lead.1 (subst (λ (s : Xinu). IsExclusive sem w s.tables) (sym lead.0) x) pairs.0 pairs.1 in
    exclusive_stretch sem ms (entered sem m w) m.after new (sound_happens m.before m.event m.lines m.after here lead.1) first lead.2 pairs.2

-- With a count of one there is a token, and nobody waits.
one_token : (tokens many : ℕ) → (tokens ≡ 0) ⊎ (many ≡ 0) → pos tokens +ℤ neg_ℤ (pos many) ≡ pos 1 → (tokens ≡ 1) × (many ≡ 0)
one_token tokens many kind e =
    ⊎_elim (λ (f : tokens ≡ 0). absurd (omega (arith, ints))) (λ (f : many ≡ 0). (omega (arith, ints), f)) kind

exclusive_start : (sem : ℕ) (s : Xinu) → IsSound s → is_good sem s.tables ≡ true → count_of (semaphore_at s.tables sem) ≡ pos 1
    → IsExclusive sem nobody s.tables
exclusive_start sem s k good e =
    let y = semaphore_at s.tables sem in
    let f = one_token y.tokens (length y.waiters)
    (⊎_elim (λ (a : y.tokens ≡ 0). inl a) (λ (a : y.waiters ≡ []). inr (ap length a)) (k.tables.inside.one_kind sem)) e in
    record {
      good = good;
      one = inl (f.0, (λ p i. cc));
      waiting = λ p there. let most = counted_few p y.waiters in let none = f.1 in absurd (omega arith);
    }
  where
    counted_few : (p : ℕ) (l : List ℕ) → count_in p l ≤ length l
    counted_few p [] = omega arith
    counted_few p (q ∷ qs) =
        let rest = counted_few p qs in
        cond_both (q == p) (suc (count_in p qs)) (count_in p qs) (λ n. n ≤ suc (length qs)) (λ _. omega arith) (λ _. omega arith)

-- At most one process is inside.
pub one_inside : (sem p q : ℕ) (ms : List Moment) (old new : Xinu) → IsSound old → is_good sem old.tables ≡ true
    → count_of (semaphore_at old.tables sem) ≡ pos 1 → LeadTo old ms new → IsUsedInPairs sem nobody ms
    → is_inside sem (all_entered sem ms nobody) new.tables p ≡ true → is_inside sem (all_entered sem ms nobody) new.tables q ≡ true → p ≡ q
one_inside sem p q ms old new k good e lead pairs i j =
    let x = exclusive_stretch sem ms nobody old new k (exclusive_start sem old k good e) lead pairs in
    let w = all_entered sem ms nobody in
    ⊎_elim
    (λ (f : ((semaphore_at new.tables sem).tokens ≡ 1) × ((r : ℕ) → is_inside sem w new.tables r ≡ true → ⊥)). absurd (f.1 p i))
    (λ (f : ((semaphore_at new.tables sem).tokens ≡ 0) × ((r o : ℕ) → is_inside sem w new.tables r ≡ true → is_inside sem w new.tables o ≡ true → r ≡ o)).
    f.1 p q i j) x.one
