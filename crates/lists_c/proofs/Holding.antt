-- The three lists that a table holds, once one of them is changed.
use Rattle.std.proofs.Common.{◌≡◌, ◌≢◌, ◌∙◌, ℕ, zero, suc, pos, ◌≤ℤ◌, ◌+ℤ◌, ◌<◌, ◌≤◌, Bool, true, false, Some, None, Option, is_some, List, [], ◌∷◌, ◌||◌, length, replicate, refl, sym, ap, subst, arith}
use Rattle.std.specs.Prelude.{IsSomeAnd}
use Rattle.std.proofs.lemmas.Bool.{false≢true}
use Rattle.std.proofs.lemmas.Int.{ints}
use Rattle.std.proofs.lemmas.List.{get_or_past}
use Rattle.queue_table.specs.Lists.{Entry, IsByKey, IsDelta, all_delta_without, all_without, delays, delays_from, delta_sooner, delta_without, first_key_of, first_process, is_listed, list_at, place, rest_of, sooner, with_list, without}
use Rattle.queue_table.specs.declared.table.QueueTable.{QueueTable}
use Rattle.queue_table.specs.Table.{lists}
use Rattle.queue_table.proofs.Deltas.{delta_without-absent, is_listed-delays}
use Rattle.queue_table.proofs.Laws.{IsByKey-filter, IsDelta-rest, IsDelta-sooner, IsDelta-without, delays-sooner, delays-without, disjoint, list_at-other, list_at-same, list_at_delta_without, list_at_without, none-place, place-none, place-some}
use Rattle.queue_table.proofs.Places.{without-absent}
use Rattle.lists_c.specs.Held.{Lists, has_none_left, is_due, is_held, no_lists, sleeper_taken, ticked, without_process}
use Rattle.lists_c.specs.Views.{AreKept, seen_in}

-- What the lists of a table became: they are kept, and these are what is seen in them.
pub record Became (ls : List (List Entry)) (to : Lists) : Type 0 where
  pub kept : AreKept ls
  pub seen : seen_in ls ≡ to

-- lists are equal if each is
same : (a a' b b' c c' : List Entry) → a ≡ a' → b ≡ b' → c ≡ c'
    → ◌≡◌ {A = Lists} (record { ready = a; waiters = b; sleepers = c }) (record { ready = a'; waiters = b'; sleepers = c' })
same a a' b b' c c' ea eb ec = cc

-- lists that are these three
became : (ls : List (List Entry)) (r w s d : List Entry) → list_at ls 0 ≡ r → list_at ls 1 ≡ w → list_at ls 2 ≡ s → IsByKey r → IsDelta s → delays s ≡ d
    → Became ls (record { ready = r; waiters = w; sleepers = d })
became ls r w s d er ew es kr ks ed = record {
  kept = record {
    ready = subst (λ (l : List Entry). IsByKey l) (sym er) kr;
    sleepers = subst (λ (l : List Entry). IsDelta l) (sym es) ks;
  };
  seen = same (list_at ls 0) r (list_at ls 1) w (delays (list_at ls 2)) d er ew (ap delays es ∙ ed);
}

-- another ready list
pub ready_put : (ls ls' : List (List Entry)) (l : List Entry) → length ls ≡ 3 → AreKept ls → ls' ≡ with_list ls 0 l → IsByKey l
    → Became ls' (record (seen_in ls) { ready = l })
ready_put ls ls' l three kept is by_key =
    became ls' l (list_at ls 1) (list_at ls 2) (delays (list_at ls 2)) (ap (λ m. list_at m 0) is ∙ list_at-same ls 0 l (omega (arith, three)))
    (ap (λ m. list_at m 1) is ∙ list_at-other ls 0 l 1 (omega arith)) (ap (λ m. list_at m 2) is ∙ list_at-other ls 0 l 2 (omega arith)) by_key kept.sleepers refl

-- other waiters
pub waiters_put : (ls ls' : List (List Entry)) (l : List Entry) → length ls ≡ 3 → AreKept ls → ls' ≡ with_list ls 1 l
    → Became ls' (record (seen_in ls) { waiters = l })
waiters_put ls ls' l three kept is =
    became ls' (list_at ls 0) l (list_at ls 2) (delays (list_at ls 2)) (ap (λ m. list_at m 0) is ∙ list_at-other ls 1 l 0 (omega arith))
    (ap (λ m. list_at m 1) is ∙ list_at-same ls 1 l (omega (arith, three))) (ap (λ m. list_at m 2) is ∙ list_at-other ls 1 l 2 (omega arith)) kept.ready kept.sleepers refl

-- other sleepers
pub sleepers_put : (ls ls' : List (List Entry)) (l d : List Entry) → length ls ≡ 3 → AreKept ls → ls' ≡ with_list ls 2 l → IsDelta l → delays l ≡ d
    → Became ls' (record (seen_in ls) { sleepers = d })
sleepers_put ls ls' l d three kept is delta ed =
    became ls' (list_at ls 0) (list_at ls 1) l d (ap (λ m. list_at m 0) is ∙ list_at-other ls 2 l 0 (omega arith))
    (ap (λ m. list_at m 1) is ∙ list_at-other ls 2 l 1 (omega arith)) (ap (λ m. list_at m 2) is ∙ list_at-same ls 2 l (omega (arith, three))) kept.ready delta ed

-- a new table
pub fresh : (ls : List (List Entry)) → ls ≡ replicate 3 [] → Became ls no_lists
unfolding delays
fresh ls is =
    became ls [] [] [] [] (ap (λ m. list_at m 0) is) (ap (λ m. list_at m 1) is) (ap (λ m. list_at m 2) is) tt
    (record { differences = tt; bounded = omega arith }) refl

-- of three tests none holds, if one of them or another doesn't
none_of : (a b c : Bool) → (a || (b || c)) ≡ false → (a ≡ false) × ((b ≡ false) × (c ≡ false))
none_of true b c e = absurd (cc)
none_of false true c e = absurd (cc)
none_of false false true e = absurd (cc)
none_of false false false e = (refl, (refl, refl))

-- there is no list past the third
past : (ls : List (List Entry)) (p i : ℕ) → length ls ≡ 3 → 3 ≤ i → is_listed p (list_at ls i) ≡ false
past ls p i three le = subst (λ (l : List Entry). is_listed p l ≡ false) (sym (get_or_past ls i [] (omega (arith, three, le)))) refl

-- a process that is in none of the three lists has no place
pub nowhere : (ls : List (List Entry)) (p : ℕ) → length ls ≡ 3 → is_held p (seen_in ls) ≡ false → place ls p ≡ None
nowhere ls p three out = none-place ls p go
  where
    each : (is_listed p (list_at ls 0) ≡ false) × ((is_listed p (list_at ls 1) ≡ false) × (is_listed p (delays (list_at ls 2)) ≡ false))
    each = none_of (is_listed p (list_at ls 0)) (is_listed p (list_at ls 1)) (is_listed p (delays (list_at ls 2))) out

    go : (i : ℕ) → is_listed p (list_at ls i) ≡ false
    go zero = each.0
    go (suc zero) = each.1.0
    go (suc (suc zero)) = sym (is_listed-delays p (list_at ls 2)) ∙ each.1.1
    go (suc (suc (suc i))) = past ls p (suc (suc (suc i))) three (omega arith)

-- none of three tests holds
no_one : (a b c : Bool) → a ≡ false → b ≡ false → c ≡ false → false ≡ (a || (b || c))
no_one false false false ea eb ec = refl
no_one true b c ea eb ec = absurd (cc)
no_one false true c ea eb ec = absurd (cc)
no_one false false true ea eb ec = absurd (cc)

-- one of three tests holds
first_one : (a b c : Bool) → a ≡ true → true ≡ (a || (b || c))
first_one true b c e = refl
first_one false b c e = absurd (cc)

second_one : (a b c : Bool) → b ≡ true → true ≡ (a || (b || c))
second_one true b c e = refl
second_one false true c e = refl
second_one false false c e = absurd (cc)

third_one : (a b c : Bool) → c ≡ true → true ≡ (a || (b || c))
third_one true b c e = refl
third_one false true c e = refl
third_one false false true e = refl
third_one false false false e = absurd (cc)

-- a process is in one of the three lists if it has a place
pub placed_is_held : (ls : List (List Entry)) (p : ℕ) (o : Option ℕ) → length ls ≡ 3 → o ≡ place ls p → is_some o ≡ is_held p (seen_in ls)
placed_is_held ls p None three is =
    let none = place-none ls p (sym is) in
    no_one (is_listed p (list_at ls 0)) (is_listed p (list_at ls 1)) (is_listed p (delays (list_at ls 2))) (none 0) (none 1) (is_listed-delays p (list_at ls 2) ∙ none 2)
placed_is_held ls p (Some q) three is = let at = place-some ls p q (sym is) in go q at.0 at.1
  where
    go : (q : ℕ) → q < length ls → is_listed p (list_at ls q) ≡ true → true ≡ is_held p (seen_in ls)
    go zero lt on = first_one (is_listed p (list_at ls 0)) (is_listed p (list_at ls 1)) (is_listed p (delays (list_at ls 2))) on
    go (suc zero) lt on = second_one (is_listed p (list_at ls 0)) (is_listed p (list_at ls 1)) (is_listed p (delays (list_at ls 2))) on
    go (suc (suc zero)) lt on = third_one (is_listed p (list_at ls 0)) (is_listed p (list_at ls 1)) (is_listed p (delays (list_at ls 2))) (is_listed-delays p (list_at ls 2) ∙ on)
    go (suc (suc (suc q))) lt on = absurd (omega (arith, lt, three))

-- a process that sleeps is taken out
pub sleeper_removed : (t t' : QueueTable 1000 3) (p : ℕ) → AreKept (lists t) → place (lists t) p ≡ Some 2 → lists t' ≡ all_delta_without p (lists t)
    → Became (lists t') (without_process p (seen_in (lists t)))
sleeper_removed t t' p kept at is =
    became (lists t') (without p (list_at (lists t) 0)) (without p (list_at (lists t) 1)) (delta_without p (list_at (lists t) 2)) (without p (delays (list_at (lists t) 2)))
    (other 0 (omega arith)) (other 1 (omega arith)) (here 2) (IsByKey-filter _ (list_at (lists t) 0) kept.ready)
    (IsDelta-without t p 2 2 at kept.sleepers) (delays-without p (list_at (lists t) 2))
  where
    here : (i : ℕ) → list_at (lists t') i ≡ delta_without p (list_at (lists t) i)
    here i = ap (λ m. list_at m i) is ∙ list_at_delta_without (lists t) p i

    other : (i : ℕ) → 2 ≢ i → list_at (lists t') i ≡ without p (list_at (lists t) i)
    other i n =
        let absent = disjoint t p 2 i at n in
        here i ∙ delta_without-absent p (list_at (lists t) i) absent ∙ sym (without-absent p (list_at (lists t) i) absent)

-- a process that is ready or waits is taken out
pub other_removed : (t t' : QueueTable 1000 3) (p q : ℕ) → AreKept (lists t) → place (lists t) p ≡ Some q → q ≢ 2 → lists t' ≡ all_without p (lists t)
    → Became (lists t') (without_process p (seen_in (lists t)))
other_removed t t' p q kept at n is =
    became (lists t') (without p (list_at (lists t) 0)) (without p (list_at (lists t) 1)) (list_at (lists t) 2) (without p (delays (list_at (lists t) 2)))
    (here 0) (here 1) (here 2 ∙ without-absent p (list_at (lists t) 2) absent) (IsByKey-filter _ (list_at (lists t) 0) kept.ready) kept.sleepers
    (sym (without-absent p (delays (list_at (lists t) 2)) (is_listed-delays p (list_at (lists t) 2) ∙ absent)))
  where
    absent : is_listed p (list_at (lists t) 2) ≡ false
    absent = disjoint t p q 2 at n

    here : (i : ℕ) → list_at (lists t') i ≡ without p (list_at (lists t) i)
    here i = ap (λ m. list_at m i) is ∙ list_at_without (lists t) p i

-- the first that is ready is taken out
pub first_ready_out : (ls ls' : List (List Entry)) → length ls ≡ 3 → AreKept ls → ls' ≡ with_list ls 0 (rest_of (list_at ls 0))
    → Became ls' (record (seen_in ls) { ready = rest_of (list_at ls 0) })
first_ready_out ls ls' three kept is = ready_put ls ls' (rest_of (list_at ls 0)) three kept is (go (list_at ls 0) kept.ready)
  where
    go : (l : List Entry) → IsByKey l → IsByKey (rest_of l)
    go [] k = tt
    go (e ∷ l) k = k.1

-- the first delay is the first key
pub first_delay : (l : List Entry) → first_key_of (delays l) ≡ first_key_of l
unfolding delays
first_delay [] = refl
first_delay (e ∷ l) = let z : pos 0 +ℤ e.1 ≡ e.1 = omega (arith, ints) in ap Some z

-- who has it is the first
pub first_sleeper : (l : List Entry) → first_process (delays l) ≡ first_process l
unfolding delays
first_sleeper [] = refl
first_sleeper (e ∷ l) = refl

-- the first sleeper is due, and is taken out
pub first_due_out : (ls ls' : List (List Entry)) → length ls ≡ 3 → AreKept ls → is_due (seen_in ls) ≡ true → ls' ≡ with_list ls 2 (rest_of (list_at ls 2))
    → Became ls' (sleeper_taken (seen_in ls))
unfolding delays
first_due_out ls ls' three kept due is =
    let both = go (list_at ls 2) kept.sleepers due in
    sleepers_put ls ls' (rest_of (list_at ls 2)) (rest_of (delays (list_at ls 2))) three kept is both.0 both.1
  where
    go : (l : List Entry) → IsDelta l → has_none_left (first_key_of (delays l)) ≡ true → IsDelta (rest_of l) × (delays (rest_of l) ≡ rest_of (delays l))
    go [] d h = absurd (cc)
    go (e ∷ l) d h =
        let low = d.differences.0 in
        let none : pos 0 +ℤ e.1 ≡ pos 0 = grind (arith, ints) in
        (IsDelta-rest e l d, sym (ap (λ z. delays_from z l) none))

-- a tick passes
pub lowered : (ls ls' : List (List Entry)) → length ls ≡ 3 → AreKept ls → is_due (seen_in ls) ≡ false → is_some (first_key_of (list_at ls 2)) ≡ true
    → ls' ≡ with_list ls 2 (delta_sooner (list_at ls 2)) → Became ls' (ticked (seen_in ls))
lowered ls ls' three kept later some is =
    sleepers_put ls ls' (delta_sooner (list_at ls 2)) (sooner (delays (list_at ls 2))) three kept is
    (go (list_at ls 2) kept.sleepers (sym (ap has_none_left (first_delay (list_at ls 2))) ∙ later) some) (delays-sooner (list_at ls 2))
  where
    go : (l : List Entry) → IsDelta l → has_none_left (first_key_of l) ≡ false → is_some (first_key_of l) ≡ true → IsDelta (delta_sooner l)
    go [] d h s = absurd (false≢true s)
    go (e ∷ l) d h s = IsDelta-sooner e l d (grind (arith, ints))

-- the first key is at least 1 if the first sleeper isn't due
pub later_first : (ls : List (List Entry)) → is_due (seen_in ls) ≡ false → is_some (first_key_of (list_at ls 2)) ≡ true
    → IsSomeAnd (first_key_of (list_at ls 2)) (λ k. pos 1 ≤ℤ k)
later_first ls later some = go (list_at ls 2) (sym (ap has_none_left (first_delay (list_at ls 2))) ∙ later) some
  where
    go : (l : List Entry) → has_none_left (first_key_of l) ≡ false → is_some (first_key_of l) ≡ true → IsSomeAnd (first_key_of l) (λ k. pos 1 ≤ℤ k)
    go [] h s = absurd (false≢true s)
    go (e ∷ l) h s = grind (arith, ints)

-- a tick passes while nobody sleeps
pub none_ticked : (ls : List (List Entry)) → is_some (first_key_of (list_at ls 2)) ≡ false → ticked (seen_in ls) ≡ seen_in ls
unfolding delays sooner
none_ticked ls none = ap (λ l. record (seen_in ls) { sleepers = l }) (go (list_at ls 2) none)
  where
    go : (l : List Entry) → is_some (first_key_of l) ≡ false → sooner (delays l) ≡ delays l
    go [] e = refl
    go (x ∷ l) e = absurd (cc)
