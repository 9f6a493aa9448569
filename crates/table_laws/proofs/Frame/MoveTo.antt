-- What the move of one process leaves alone.
use Rattle.std.proofs.Common.{◌≡◌, ◌⊎◌, ℕ, suc, ◌<◌, ◌≤◌, ◌==◌, Bool, true, false, not, cond, List, [], ◌∷◌, length, filter, Option, get_or, set, inl, inr, ⊎_elim, refl, sym, ap, subst, ◌∙◌, arith, get_or-set_same, get_or-set_other}
use Rattle.std.proofs.Math.ListN.{length-set}
use Rattle.std.proofs.lemmas.Bool.{both_ways, cases_lt, eqb-true}
use Rattle.std.proofs.lemmas.List.{get_or_past}
use Rattle.xinu_base.specs.declared.processes.Process.{Process}
use Rattle.xinu_base.specs.declared.processes.Rest.{Rest}
use Rattle.xinu_base.specs.declared.semaphores.Owner.{Owner}
use Rattle.table_laws.specs.Frame.{waits_in, waits_at, Frame}
use Rattle.xinu_model.specs.Sound.Tables.{times, count_in}
use Rattle.xinu_model.specs.Sound.Pools.{is_waiting}
use Rattle.xinu_model.specs.Tables.{no_process, Semaphore, no_semaphore, Tables, process_at, semaphore_at, numbers_without, waits_without, Place, Nowhere, InReady, InSemaphore, InSleepers, with_waiter, semaphores_in, move_to}
use Rattle.table_laws.proofs.Frame.{filter_within}
use Rattle.table_laws.proofs.Tables.Places.{semaphore_at_without}
use Rattle.table_laws.proofs.Tables.MoveTo.{by_number}

-- what is read at a place that was written: the new value, or after the list's end what was read before
pub read_written : {A : Type 0} (l : List A) (i : ℕ) (x d : A) → (get_or (set l i x) i d ≡ x) ⊎ (get_or (set l i x) i d ≡ get_or l i d)
read_written l i x d = ⊎_elim
    (λ (h : i < length l). inl (get_or-set_same l i x d h))
    (λ (h : length l ≤ i). inr (get_or_past (set l i x) i d (let e = length-set l i x in omega arith) ∙ sym (get_or_past l i d h)))
    (cases_lt i (length l))

-- what is the same of the new value and the old one is the same at each place
pub same_written : {A B : Type 0} (f : A → B) (l : List A) (i j : ℕ) (x d : A) → f x ≡ f (get_or l i d)
    → f (get_or (set l i x) j d) ≡ f (get_or l j d)
same_written f l i j x d e = by_number j i (λ k. f (get_or (set l i x) k d) ≡ f (get_or l k d))
    (⊎_elim (λ (g : get_or (set l i x) i d ≡ x). ap f g ∙ e) (λ (g : get_or (set l i x) i d ≡ get_or l i d). ap f g) (read_written l i x d))
    (λ n. ap f (get_or-set_other l i j x d n))

-- an element more on both sides keeps an order
more_on_both : (b : Bool) (m n : ℕ) → m ≤ n → cond b (suc m) m ≤ cond b (suc n) n
more_on_both true m n h = omega arith
more_on_both false m n h = h

-- and so does one more on the greater side
more_on_one : (b : Bool) (m n : ℕ) → m ≤ n → m ≤ cond b (suc n) n
more_on_one true m n h = omega arith
more_on_one false m n h = h

-- one element more in a list that is filtered
filter_step : {A : Type 0} (test : A → Bool) (x : A) (xs : List A) (kept : Bool) (n : ℕ) → times test xs ≤ n
    → times test (cond kept (x ∷ xs) xs) ≤ cond (test x) (suc n) n
filter_step test x xs true n h = more_on_both (test x) (times test xs) n h
filter_step test x xs false n h = more_on_one (test x) (times test xs) n h

-- a part of a list has at most as many that pass
pub times-filter-le : {A : Type 0} (test kept : A → Bool) (l : List A) → times test (filter kept l) ≤ times test l
times-filter-le test kept [] = omega arith
times-filter-le test kept (x ∷ xs) = filter_step test x (filter kept xs) (kept x) (times test xs) (times-filter-le test kept xs)

-- a place that is no semaphore that is left alone
abbrev pub IsFramePlace : (ℕ → Option Owner → Bool) → Tables → Place → Type 0
IsFramePlace mine t (InSemaphore s) = mine s (semaphore_at t s).owner ≡ false
IsFramePlace mine t _ = Unit {0}

-- Who becomes x is in such a call only if it was in it before, waiting or not as now.
abbrev pub IsFrameChange : (Rest → Bool) → Process → Process → Type 0
IsFrameChange asks old x = asks x.rest ≡ true → (x.rest ≡ old.rest) × (is_waiting x.state ≡ is_waiting old.state)

-- what all semaphores have in common with those that a process joins is as it was
kept_in : {B : Type 0} (f : Semaphore → B) (place : Place) (q sem : ℕ) (l : List Semaphore) → ((x : Semaphore) → f (with_waiter q x) ≡ f x)
    → f (get_or (semaphores_in place q l) sem no_semaphore) ≡ f (get_or l sem no_semaphore)
kept_in f (InSemaphore r) q sem l e =
    same_written f l r sem (with_waiter q (get_or l r no_semaphore)) no_semaphore (e (get_or l r no_semaphore))
kept_in f Nowhere q sem l e = refl
kept_in f InReady q sem l e = refl
kept_in f (InSleepers ready) q sem l e = refl

-- a semaphore that is left alone gets no waiter
waiters_in : (mine : ℕ → Option Owner → Bool) (t : Tables) (place : Place) (q sem : ℕ) (l : List Semaphore) → IsFramePlace mine t place
    → mine sem (semaphore_at t sem).owner ≡ true
    → get_or (semaphores_in place q l) sem no_semaphore ≡ get_or l sem no_semaphore
waiters_in mine t (InSemaphore r) q sem l c m =
    get_or-set_other l r sem (with_waiter q (get_or l r no_semaphore)) no_semaphore
    (λ e. both_ways (mine r (semaphore_at t r).owner) c (subst (λ k. mine k (semaphore_at t k).owner ≡ true) e m))
waiters_in mine t Nowhere q sem l c m = refl
waiters_in mine t InReady q sem l c m = refl
waiters_in mine t (InSleepers ready) q sem l c m = refl

-- each process is in such a call only if it was, once one of them changed so
pub rests_written : (asks : Rest → Bool) (t : Tables) (q : ℕ) (x : Process) → IsFrameChange asks (process_at t q) x → (p : ℕ)
    → IsFrameChange asks (process_at t p) (get_or (set t.processes q x) p no_process)
rests_written asks t q x c p = by_number p q (λ r. IsFrameChange asks (process_at t r) (get_or (set t.processes q x) r no_process))
    (⊎_elim (λ (e : get_or (set t.processes q x) q no_process ≡ x). subst (IsFrameChange asks (process_at t q)) (sym e) c)
    (λ (e : get_or (set t.processes q x) q no_process ≡ process_at t q). subst (IsFrameChange asks (process_at t q)) (sym e)
    (λ _. (refl, refl)))
    (read_written t.processes q x no_process))
    (λ n. subst (IsFrameChange asks (process_at t p)) (sym (get_or-set_other t.processes q p x no_process n)) (λ _. (refl, refl)))

-- who waits once another has left waited before
counted_without : (r q : ℕ) (l : List ℕ) → 0 < count_in r (numbers_without q l) → 0 < count_in r l
counted_without r q l h = let e = times-filter-le (λ y. y == r) (λ y. not (y == q)) l in omega arith

-- a process that moves leaves each semaphore its owner
pub owner_move : (t : Tables) (q : ℕ) (x : Process) (m : Option ℕ) (place : Place) (sem : ℕ)
    → (semaphore_at (move_to q x m place t) sem).owner ≡ (semaphore_at t sem).owner
owner_move t q x m place sem =
    kept_in (λ y. y.owner) place q sem (waits_without q t.semaphores) (λ y. refl)
    ∙ ap (λ (y : Semaphore). y.owner) (semaphore_at_without q sem t.semaphores)

-- and its tokens
pub tokens_move : (t : Tables) (q : ℕ) (x : Process) (m : Option ℕ) (place : Place) (sem : ℕ)
    → (semaphore_at (move_to q x m place t) sem).tokens ≡ (semaphore_at t sem).tokens
tokens_move t q x m place sem =
    kept_in (λ y. y.tokens) place q sem (waits_without q t.semaphores) (λ y. refl)
    ∙ ap (λ (y : Semaphore). y.tokens) (semaphore_at_without q sem t.semaphores)

-- who moved so doesn't wait in such a call
idle_written : (asks : Rest → Bool) (l : List Process) (q : ℕ) (x : Process) → waits_in asks x ≡ false
    → waits_in asks (get_or (set l q x) q no_process) ≡ false
idle_written asks l q x e = ⊎_elim
    (λ (h : q < length l). ap (waits_in asks) (get_or-set_same l q x no_process h) ∙ e)
    (λ (h : length l ≤ q). ap (waits_in asks) (get_or_past (set l q x) q no_process (let f = length-set l q x in omega arith)))
    (cases_lt q (length l))

-- who still waits isn't the one who left
stays_in : (test : ℕ → Bool) (q : ℕ) → test q ≡ false → (r : ℕ) → test r ≡ true → not (r == q) ≡ true
stays_in test q e r h = by_test (r == q) refl
  where
    by_test : (b : Bool) → r == q ≡ b → not b ≡ true
    by_test true f = absurd (both_ways (test q) e (ap test (sym (eqb-true r q f)) ∙ h))
    by_test false f = refl

module _ {mine : ℕ → Option Owner → Bool} {asks : Rest → Bool} where
  -- A process moves: it is then in no such call that it wasn't in before, and waits in none.
  pub frame_move : (t : Tables) (q : ℕ) (x : Process) (m : Option ℕ) (place : Place) → IsFramePlace mine t place
      → IsFrameChange asks (process_at t q) x → waits_in asks x ≡ false
      → Frame mine asks t (move_to q x m place t)
  frame_move t q x m place p c idle =
      let l = waits_without q t.semaphores in
      record {
        many = length-set t.processes q x;
        kept = λ s k. (owner_move t q x m place s, tokens_move t q x m place s);
        old = λ s k. owner_move t q x m place s;
        waiters = λ s r k h. counted_without r q (semaphore_at t s).waiters (subst (λ (y : Semaphore). 0 < count_in r y.waiters) (waiters_in mine t place q s l p k ∙ semaphore_at_without q s t.semaphores) h);
        order = λ s k. ap (λ (y : Semaphore). filter (waits_at asks (move_to q x m place t)) y.waiters) (waiters_in mine t place q s l p k ∙ semaphore_at_without q s t.semaphores)
            ∙ filter_within (waits_at asks (move_to q x m place t)) (λ y. not (y == q)) (stays_in (waits_at asks (move_to q x m place t)) q (idle_written asks t.processes q x idle)) (semaphore_at t s).waiters;
        rests = rests_written asks t q x c;
      }

  -- A process changes without moving.
  pub frame_process : (t : Tables) (q : ℕ) (x : Process) → IsFrameChange asks (process_at t q) x
      → Frame mine asks t (record t { processes = set t.processes q x })
  frame_process t q x c = record { many = length-set t.processes q x; kept = λ s k. (refl, refl); old = λ s k. refl; waiters = λ s r k h. h; order = λ s k. refl; rests = rests_written asks t q x c }
