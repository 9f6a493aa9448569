-- The search for a free number, by the entries and by the tables.
use Rattle.std.proofs.Common.{◌≡◌, ◌≢◌, ◌<◌, ◌≤◌, ◌-◌, inl, inr, false, ◌∙◌, ℕ, ◌+◌, Bool, true, not, cond, List, [], ◌∷◌, Option, Some, None, refl, sym, ap, ℤ, arith}
use Rattle.std.specs.List.{find}
use Rattle.std.specs.Option.{is_some}
use Rattle.std.specs.Prelude.{IfNone, IfSome}
use Rattle.std.proofs.lemmas.Bool.{cases_lt}
use Rattle.queue_table.specs.Lists.{Entry}
use Rattle.xinu_base.specs.declared.semaphores.Owner.{Owner}
use Rattle.xinu_model.specs.Searches.{going_round, numbers_from, search}
use Rattle.xinu_model.specs.Semaphores.Counts.{free_semaphore, make_semaphore}
use Rattle.xinu_model.specs.Tables.{Tables, semaphore_at}
use Rattle.process_core.specs.Tables.{ProcessTable, tables_of}
use Rattle.xinu_model.proofs.Searches.{find_none, find_passes}
use Rattle.semaphores.specs.declared.sems.SemaphoreEntry.{SemaphoreEntry}
use Rattle.semaphores.specs.Counts.{SemaphoreTable, beside, entry_at, number_for, paired, second_number, tokens_of, two_numbers}
use Rattle.semaphores.proofs.Counting.{owner_at}

-- whether the number of a semaphore is free
abbrev pub is_free_in : List SemaphoreEntry → ℕ → Bool
is_free_in es sem = not (is_some (entry_at es sem).owner)

-- tests that agree find the same
find-same : (f g : ℕ → Bool) (l : List ℕ) → ((n : ℕ) → f n ≡ g n) → find f l ≡ find g l
find-same f g [] h = refl
find-same f g (n ∷ l) h = ap (λ b. cond b (Some n) (find f l)) (h n) ∙ ap (λ o. cond (g n) (Some n) o) (find-same f g l h)

-- the search among the entries is the machine's
pub search_is : (ls : List (List Entry)) (p : ProcessTable) (c : SemaphoreTable) (m : List (Option ℕ)) (ticks : ℕ)
    → search (is_free_in c.entries) 128 (c.last_semaphore + 1) ≡ free_semaphore (tables_of ls p (beside c m ticks))
unfolding tables_of
search_is ls p c m ticks =
    find-same (is_free_in c.entries) (λ sem. not (is_some (semaphore_at (tables_of ls p (beside c m ticks)) sem).owner))
    (going_round 128 (c.last_semaphore + 1)) (λ sem. ap (λ (o : Option Owner). not (is_some o)) (sym (owner_at ls p c sem m ticks)))

-- whoever isn't there is free
free_by_test : (o : Option Owner) → not (is_some o) ≡ true → o ≡ None
free_by_test None h = refl
free_by_test (Some x) h = absurd (cc)

-- a number that is found is free
pub found_free : (es : List SemaphoreEntry) (n k : ℕ) (o : Option ℕ) → o ≡ find (is_free_in es) (numbers_from n k)
    → IfSome o (λ sem. (entry_at es sem).owner ≡ None)
found_free es n k None e = tt
found_free es n k (Some p) e = free_by_test (entry_at es p).owner (find_passes (is_free_in es) n k p (sym e))

-- if no number is found none is free
pub none_free : (es : List SemaphoreEntry) (first : ℕ) (o : Option ℕ) → first ≤ 128
    → None ≡ find (is_free_in es) (numbers_from first (128 - first)) → o ≡ find (is_free_in es) (numbers_from 0 (first - 0))
    → IfNone o ((sem : ℕ) → sem < 128 → (entry_at es sem).owner ≢ None)
none_free es first (Some p) le h e = tt
none_free es first None le h e = λ sem lt none.
    let z : is_free_in es sem ≡ false = elim (cases_lt sem first) [
      | inl below ↦ find_none (is_free_in es) 0 (first - 0) (sym e) sem (omega arith) (omega arith)
      | inr above ↦ find_none (is_free_in es) first (128 - first) (sym h) sem above (omega arith)
    ] in
    let y : true ≡ false = sym (ap (λ (o : Option Owner). not (is_some o)) none) ∙ z in absurd (cc)

-- the numbers of a pair, if there is one
abbrev one_of : Option (ℕ × ℕ) → ℕ
one_of None = 0
one_of (Some x) = x.0

abbrev other_of : Option (ℕ × ℕ) → ℕ
other_of None = 0
other_of (Some x) = x.1

-- What is known of two numbers that were found: each is what the search finds.
pub record AreFound (first second : ℕ) (by : Owner) (z : ℤ) (t : Tables) : Type 0 where
  pub one : Some first ≡ number_for z t
  pub other : Some second ≡ free_semaphore (make_semaphore first by (tokens_of z) t)

pub are_found : (first second : ℕ) (by : Owner) (z : ℤ) (t : Tables) → ◌≡◌ {A = Option (ℕ × ℕ)} (Some (first, second)) (two_numbers by z t)
    → AreFound first second by z t
are_found first second by z t e = by_first (number_for z t) refl e
  where
    by_second : (a : ℕ) (o : Option ℕ) → Some a ≡ number_for z t → o ≡ free_semaphore (make_semaphore a by (tokens_of z) t)
        → ◌≡◌ {A = Option (ℕ × ℕ)} (Some (first, second)) (paired a o) → AreFound first second by z t
    by_second a None f g h = absurd (cc)
    by_second a (Some b) f g h =
        let p : first ≡ a = ap one_of h in
        let q : second ≡ b = ap other_of h in
        record {
          one = ap (λ n. Some n) p ∙ f;
          other = ap (λ n. Some n) q ∙ g ∙ ap (λ n. free_semaphore (make_semaphore n by (tokens_of z) t)) (sym p);
        }

    by_first : (o : Option ℕ) → o ≡ number_for z t → ◌≡◌ {A = Option (ℕ × ℕ)} (Some (first, second)) (second_number o by z t)
        → AreFound first second by z t
    by_first None f h = absurd (cc)
    by_first (Some a) f h = by_second a (free_semaphore (make_semaphore a by (tokens_of z) t)) f refl h
