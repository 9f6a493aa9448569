-- What always holds of the tables gives that lists and processes fit.
use Rattle.std.proofs.Common.{◌≡◌, ◌∙◌, ℕ, zero, suc, ◌<◌, ◌≤◌, ℤ, ◌≤ℤ◌, Bool, true, false, cond, eqb, List, [], ◌∷◌, map, length, get_or, take, refl, sym, ap, subst, inl, inr, arith}
use Rattle.std.specs.List.{AllByRecursion}
use Rattle.std.proofs.lemmas.Bool.{cases_eq, cases_lt, cases_Bool, false≢true}
use Rattle.std.proofs.lemmas.Bool.Decides.{nat_tests}
use Rattle.xinu_base.specs.declared.processes.State.{State}
use Rattle.xinu_base.specs.declared.processes.State.TheVariants.{Free, Current, Ready, Receiving, Sleeping, Suspended, Waiting, Timed}
use Rattle.queue_table.specs.declared.table.QueueTable.{QueueTable}
use Rattle.queue_table.specs.Table.{lists}
use Rattle.queue_table.specs.Lists.{Entry, IsByKey, KeysAtMost, delays, is_listed, list_at}
use Rattle.queue_table.proofs.Deltas.{is_listed-delays}
use Rattle.queue_table.proofs.Laws.{place-some, some-place, queues_of}
use Rattle.xinu_model.specs.Sound.Tables.{IsFalling, IsInside, times, total, entries_of, count_in, waits_of, ready_places, waiting_places, sleeping_places}
use Rattle.xinu_model.specs.Tables.{Semaphore, no_semaphore}
use Rattle.process_core.specs.Tables.{ProcessTable, Beside, Mark, process_in, semaphores_of, sleepers_of, tables_of, wake_tick}
use Rattle.process_core.specs.Fits.{Fits, MayBeIn}
use Rattle.process_core.proofs.Fitting.{may_be_in}
use Rattle.process_core.proofs.Semaphores.{get_or-take, semaphores-get, semaphores-length}
use Rattle.xinu_model.proofs.States.{ready_of, waiting_of}

-- a falling list is kept by key
keys_at_most : (k : ℤ) (l : List Entry) → AllByRecursion (λ (b : Entry). b.1 ≤ℤ k) l → KeysAtMost k l
keys_at_most k [] h = tt
keys_at_most k (e ∷ l) h = (h.0, keys_at_most k l h.1)

-- the ready list of sound tables is kept by key
pub by_key_falling : (l : List Entry) → IsFalling l → IsByKey l
by_key_falling [] h = tt
by_key_falling (e ∷ l) h = (keys_at_most e.1 l h.0, by_key_falling l h.1)

-- how many pass of those that a function gives
pub times-map : {A B : Type 0} (test : B → Bool) (f : A → B) (xs : List A) → times test (map f xs) ≡ times (λ x. test (f x)) xs
times-map test f [] = refl
times-map test f (x ∷ xs) = ap (λ n. cond (test (f x)) (suc n) n) (times-map test f xs)

-- a process that isn't in a list is there 0 times
pub uncounted : (p : ℕ) (l : List Entry) → is_listed p l ≡ false → entries_of p l ≡ 0
uncounted p [] h = refl
uncounted p (e ∷ l) h = elim (cases_eq p e.0) [
  | inl s ↦ (let b : eqb p e.0 ≡ true = grind (arith, nat_tests) in absurd (false≢true (sym h ∙ ap (λ b. cond b true (is_listed p l)) b)))
  | inr n ↦ (
      let b : eqb p e.0 ≡ false = grind (arith, nat_tests) in
      let c : eqb e.0 p ≡ false = grind (arith, nat_tests) in
      ap (λ b. cond b (suc (entries_of p l)) (entries_of p l)) c ∙ uncounted p l (sym (ap (λ b. cond b true (is_listed p l)) b) ∙ h))
]

-- a process that is there 0 times isn't in the list
unlisted : (p : ℕ) (l : List Entry) → entries_of p l ≡ 0 → is_listed p l ≡ false
unlisted p [] h = refl
unlisted p (e ∷ l) h = elim (cases_eq p e.0) [
  | inl s ↦ (let c : eqb e.0 p ≡ true = grind (arith, nat_tests) in
      let n : suc (entries_of p l) ≡ 0 = sym (ap (λ b. cond b (suc (entries_of p l)) (entries_of p l)) c) ∙ h in absurd (omega (arith, n)))
  | inr n ↦ (
      let b : eqb p e.0 ≡ false = grind (arith, nat_tests) in
      let c : eqb e.0 p ≡ false = grind (arith, nat_tests) in
      ap (λ b. cond b true (is_listed p l)) b ∙ unlisted p l (sym (ap (λ b. cond b (suc (entries_of p l)) (entries_of p l)) c) ∙ h))
]

-- a process that is in a list is there at least once
counted : (p : ℕ) (l : List Entry) → is_listed p l ≡ true → 0 < entries_of p l
counted p l h = elim (cases_eq (entries_of p l) 0) [
  | inl z ↦ absurd (false≢true (sym (unlisted p l z) ∙ h))
  | inr n ↦ omega (arith, n)
]

-- one number is at most the sum of all
one_of_total : {A : Type 0} (f : A → ℕ) (l : List A) (i : ℕ) (d : A) → f d ≡ 0 → f (get_or l i d) ≤ total f l
one_of_total f [] i d z = omega arith
one_of_total f (x ∷ xs) zero d z = omega arith
one_of_total f (x ∷ xs) (suc i) d z = let e = one_of_total f xs i d z in omega arith

-- whoever is in the queue of a semaphore is counted among the waiters
waits_least : (p q : ℕ) (ls : List (List Entry)) (ms : List Mark) → q < 128 → length ms ≡ 128
    → entries_of p (list_at ls q) ≤ waits_of p (semaphores_of (take 128 ls) ms)
waits_least p q ls ms lt n =
    let f : Semaphore → ℕ = λ x. count_in p x.waiters in
    let g = one_of_total f (semaphores_of (take 128 ls) ms) q no_semaphore refl in
    let e : f (get_or (semaphores_of (take 128 ls) ms) q no_semaphore) ≡ entries_of p (list_at ls q)
    = ap f (semaphores-get q (take 128 ls) ms (omega arith)) ∙ times-map (λ x. eqb x p) (λ (e : Entry). e.0) (list_at (take 128 ls) q)
    ∙ ap (entries_of p) (get_or-take 128 q ls [] lt) in
    omega (arith, g, e)

-- the sleepers are counted by their delays
pub sleepers_counted : (p ticks : ℕ) (l : List Entry) → entries_of p (sleepers_of ticks l) ≡ entries_of p (delays l)
sleepers_counted p ticks l = times-map (λ (e : ℕ × ℕ). eqb e.0 p) (λ (e : Entry). (e.0, wake_tick ticks e.1)) (delays l)

-- one that is counted among the sleepers may be there
sleeping_if_counted : (s : State) → 0 < sleeping_places s → MayBeIn 129 s
sleeping_if_counted Sleeping h = refl
sleeping_if_counted Timed h = refl
sleeping_if_counted Free h = absurd (omega arith)
sleeping_if_counted Current h = absurd (omega arith)
sleeping_if_counted Ready h = absurd (omega arith)
sleeping_if_counted Receiving h = absurd (omega arith)
sleeping_if_counted Suspended h = absurd (omega arith)
sleeping_if_counted Waiting h = absurd (omega arith)

-- Lists and processes that stand for sound tables, inside an event or between two, fit.
pub inside_fits : (t : QueueTable 64 130) (s : ProcessTable) (b : Beside) → IsInside (tables_of (lists t) s b) → Fits (lists t) s.processes
unfolding tables_of
inside_fits t s b o =
    let ls = lists t in
    let marks : length b.marks ≡ 128 = sym (semaphores-length (take 128 ls) b.marks) ∙ o.semaphores in
    record {
      size = o.processes;
      by_key = by_key_falling (list_at ls 128) o.falling;
      placed = λ p q at. (let w = place-some ls p q at in let m = counted p (list_at ls q) w.1 in
          elim (cases_lt q 128) [
            | inl lt ↦ (let l = waits_least p q ls b.marks lt marks in
                let is : (process_in s.processes p).state ≡ Waiting = waiting_of _ (omega (arith, l, m, o.waiting p)) in
                may_be_in q Waiting (process_in s.processes p).state (sym is) lt)
            | inr le ↦ elim (cases_eq q 128) [
              | inl e ↦ (let F : ℕ → Type 0 = λ q. 0 < entries_of p (list_at ls q) in let m2 : 0 < entries_of p (list_at ls 128) = subst F e m in
                  let is : (process_in s.processes p).state ≡ Ready = ready_of _ (omega (arith, m2, o.ready p)) in
                  may_be_in q Ready (process_in s.processes p).state (sym is) e)
              | inr n ↦ (
                  let e : q ≡ 129 = omega (arith, n, w.0, queues_of t) in
                  let F : ℕ → Type 0 = λ q. is_listed p (list_at ls q) ≡ true in
                  let M : ℕ → Type 0 = λ q. MayBeIn q (process_in s.processes p).state in
                  let m2 : 0 < entries_of p (delays (list_at ls 129))
                  = counted p (delays (list_at ls 129)) (is_listed-delays p (list_at ls 129) ∙ subst F e w.1) in
                  subst M (sym e) (sleeping_if_counted _ (omega (arith, m2, sleepers_counted p b.ticks (list_at ls 129), o.sleeping p))))
            ]
          ]);
      ready = λ p is. (
          let r : entries_of p (list_at ls 128) ≡ 1 = o.ready p ∙ ap ready_places is in
          let w : waits_of p (semaphores_of (take 128 ls) b.marks) ≡ 0 = o.waiting p ∙ ap waiting_places is in
          some-place ls p 128 (λ j lt. unlisted p (list_at ls j) (let l = waits_least p j ls b.marks lt marks in omega (arith, l, w)))
          (elim (cases_Bool (is_listed p (list_at ls 128))) [
            | inl y ↦ y
            | inr f ↦ (let z = uncounted p (list_at ls 128) f in absurd (omega (arith, r, z)))
          ]));
    }
