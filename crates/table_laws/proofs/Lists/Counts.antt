-- How often something is in a list after a filter, an insertion and a write.
use Rattle.std.proofs.Common.{◌≡◌, ◌≢◌, ℕ, zero, suc, ◌+◌, ◌<◌, ◌≤◌, ◌==◌, Bool, true, false, not, cond, List, [], ◌∷◌, ◌++◌, length, filter, map, get_or, set, refl, sym, ap, subst, ◌∙◌, arith}
use Rattle.std.proofs.lemmas.Bool.{true≢false, false≢true, cond_both, eqb-true, eq-eqb, ne_eqb}
use Rattle.xinu_base.specs.Insert.{insert}
use Rattle.xinu_model.specs.Sound.Tables.{times, total, entries_of, count_in}
use Rattle.xinu_model.specs.Tables.{entries_without, numbers_without}

-- one element more, if it passes, before a part of a count
count_left : (a : Bool) (m n : ℕ) → cond a (suc m) m + n ≡ cond a (suc (m + n)) (m + n)
count_left true m n = omega arith
count_left false m n = refl

-- the same after the other part
count_right : (a : Bool) (m n : ℕ) → m + cond a (suc n) n ≡ cond a (suc (m + n)) (m + n)
count_right true m n = omega arith
count_right false m n = refl

-- two lists joined are counted one after the other
pub times-append : {A : Type 0} (test : A → Bool) (xs ys : List A) → times test (xs ++ ys) ≡ times test xs + times test ys
times-append test [] ys = omega arith
times-append test (x ∷ xs) ys =
    ap (λ n. cond (test x) (suc n) n) (times-append test xs ys) ∙ sym (count_left (test x) (times test xs) (times test ys))

-- one element more on one side of a filter
split_step : {A : Type 0} (test : A → Bool) (x : A) (kept : Bool) (xs ys : List A) (n : ℕ) → times test xs + times test ys ≡ n
    → times test (cond kept (x ∷ xs) xs) + times test (cond (not kept) (x ∷ ys) ys) ≡ cond (test x) (suc n) n
split_step test x true xs ys n e = count_left (test x) (times test xs) (times test ys) ∙ ap (λ k. cond (test x) (suc k) k) e
split_step test x false xs ys n e = count_right (test x) (times test xs) (times test ys) ∙ ap (λ k. cond (test x) (suc k) k) e

-- a filter and its opposite split the count
pub times-filter_both : {A : Type 0} (test before : A → Bool) (xs : List A)
    → times test (filter before xs) + times test (filter (λ x. not (before x)) xs) ≡ times test xs
times-filter_both test before [] = refl
times-filter_both test before (x ∷ xs) =
    split_step test x (before x) (filter before xs) (filter (λ y. not (before y)) xs) (times test xs) (times-filter_both test before xs)

-- an insertion adds one if the element passes
pub times-insert : {A : Type 0} (test before : A → Bool) (e : A) (xs : List A)
    → times test (insert before e xs) ≡ cond (test e) (suc (times test xs)) (times test xs)
times-insert test before e xs =
    times-append test (filter before xs) (e ∷ filter (λ x. not (before x)) xs)
    ∙ count_right (test e) (times test (filter before xs)) (times test (filter (λ x. not (before x)) xs))
    ∙ ap (λ n. cond (test e) (suc n) n) (times-filter_both test before xs)

-- one element more in a list that keeps what passes
keep_step : {A : Type 0} (test : A → Bool) (x : A) (xs ys : List A) (kept : Bool) → times test xs ≡ times test ys
    → (test x ≡ true → kept ≡ true) → times test (cond kept (x ∷ xs) xs) ≡ cond (test x) (suc (times test ys)) (times test ys)
keep_step test x xs ys true e h = ap (λ n. cond (test x) (suc n) n) e
keep_step test x xs ys false e h =
    cond_both (test x) (suc (times test ys)) (times test ys) (λ n. times test xs ≡ n) (λ passes. absurd (false≢true (h passes))) (λ _. e)

-- a filter that keeps all that pass keeps the count
pub times-filter_keeps : {A : Type 0} (test kept : A → Bool) → ((x : A) → test x ≡ true → kept x ≡ true) → (xs : List A)
    → times test (filter kept xs) ≡ times test xs
times-filter_keeps test kept h [] = refl
times-filter_keeps test kept h (x ∷ xs) = keep_step test x (filter kept xs) xs (kept x) (times-filter_keeps test kept h xs) (h x)

-- one element more in a list that drops what passes
drop_step : {A : Type 0} (test : A → Bool) (x : A) (xs : List A) (kept : Bool) → times test xs ≡ 0 → (test x ≡ true → kept ≡ false)
    → times test (cond kept (x ∷ xs) xs) ≡ 0
drop_step test x xs true e h =
    cond_both (test x) (suc (times test xs)) (times test xs) (λ n. n ≡ 0) (λ passes. absurd (true≢false (h passes))) (λ _. e)
drop_step test x xs false e h = e

-- a filter that drops all that pass leaves none
pub times-filter_drops : {A : Type 0} (test kept : A → Bool) → ((x : A) → test x ≡ true → kept x ≡ false) → (xs : List A)
    → times test (filter kept xs) ≡ 0
times-filter_drops test kept h [] = refl
times-filter_drops test kept h (x ∷ xs) = drop_step test x (filter kept xs) (kept x) (times-filter_drops test kept h xs) (h x)

-- without q there is no entry of q
pub entries_without_same : {K : Type 0} (q : ℕ) (l : List (ℕ × K)) → entries_of q (entries_without q l) ≡ 0
entries_without_same q l = times-filter_drops (λ e. e.0 == q) (λ e. not (e.0 == q)) (λ e here. ap not here) l

-- an entry of p isn't one of q
not_other : (a p q : ℕ) → p ≢ q → (a == p) ≡ true → not (a == q) ≡ true
not_other a p q h e = ap not (ne_eqb a q (λ f. h (sym (eqb-true a p e) ∙ f)))

-- without q there are the same entries of p
pub entries_without_other : {K : Type 0} (p q : ℕ) (l : List (ℕ × K)) → p ≢ q → entries_of p (entries_without q l) ≡ entries_of p l
entries_without_other p q l h = times-filter_keeps (λ e. e.0 == p) (λ e. not (e.0 == q)) (λ e here. not_other e.0 p q h here) l

-- an entry of q is inserted if there was none
pub entries_insert_same : {K : Type 0} (before : (ℕ × K) → Bool) (q : ℕ) (key : K) (l : List (ℕ × K)) → entries_of q l ≡ 0
    → entries_of q (insert before (q, key) l) ≡ 1
entries_insert_same before q key l none =
    times-insert (λ e. e.0 == q) before (q, key) l ∙ ap (λ b. cond b (suc (entries_of q l)) (entries_of q l)) (eq-eqb q q refl)
    ∙ ap suc none

-- an entry of q is inserted among those of p
pub entries_insert_other : {K : Type 0} (before : (ℕ × K) → Bool) (p q : ℕ) (key : K) (l : List (ℕ × K)) → p ≢ q
    → entries_of p (insert before (q, key) l) ≡ entries_of p l
entries_insert_other before p q key l h =
    times-insert (λ e. e.0 == p) before (q, key) l ∙ ap (λ b. cond b (suc (entries_of p l)) (entries_of p l)) (ne_eqb q p (λ e. h (sym e)))

-- the first of a list has an entry there
pub first_has_entry : {K : Type 0} (e : ℕ × K) (es : List (ℕ × K)) → 0 < entries_of e.0 (e ∷ es)
first_has_entry e es = subst (λ b. 0 < cond b (suc (entries_of e.0 es)) (entries_of e.0 es)) (sym (eq-eqb e.0 e.0 refl)) (omega arith)

-- the same of a list of numbers
pub first_is_counted : (x : ℕ) (xs : List ℕ) → 0 < count_in x (x ∷ xs)
first_is_counted x xs = subst (λ b. 0 < cond b (suc (count_in x xs)) (count_in x xs)) (sym (eq-eqb x x refl)) (omega arith)

-- who is counted in a list is still counted with one more before
pub count_behind : (p x : ℕ) (xs : List ℕ) → 0 < count_in p xs → 0 < count_in p (x ∷ xs)
count_behind p x xs h = cond_both (x == p) (suc (count_in p xs)) (count_in p xs) (λ n. 0 < n) (λ _. omega arith) (λ _. h)

-- the same of entries
pub entries_behind : {K : Type 0} (p : ℕ) (x : ℕ × K) (xs : List (ℕ × K)) → 0 < entries_of p xs → 0 < entries_of p (x ∷ xs)
entries_behind p x xs h = cond_both (x.0 == p) (suc (entries_of p xs)) (entries_of p xs) (λ n. 0 < n) (λ _. omega arith) (λ _. h)

-- without q there is no q
pub numbers_without_same : (q : ℕ) (l : List ℕ) → count_in q (numbers_without q l) ≡ 0
numbers_without_same q l = times-filter_drops (λ x. x == q) (λ x. not (x == q)) (λ x here. ap not here) l

-- without q the others are there as often
pub numbers_without_other : (p q : ℕ) (l : List ℕ) → p ≢ q → count_in p (numbers_without q l) ≡ count_in p l
numbers_without_other p q l h = times-filter_keeps (λ x. x == p) (λ x. not (x == q)) (λ x here. not_other x p q h here) l

-- q after a list is there once more
pub count_last_same : (q : ℕ) (l : List ℕ) → count_in q (l ++ q ∷ []) ≡ suc (count_in q l)
count_last_same q l =
    let e = times-append (λ x. x == q) l (q ∷ []) in
    let f : times (λ x. x == q) (q ∷ []) ≡ 1 = ap (λ b. cond b 1 0) (eq-eqb q q refl) in
    omega arith

-- and the others as often
pub count_last_other : (p q : ℕ) (l : List ℕ) → p ≢ q → count_in p (l ++ q ∷ []) ≡ count_in p l
count_last_other p q l h =
    let e = times-append (λ x. x == p) l (q ∷ []) in
    let f : times (λ x. x == p) (q ∷ []) ≡ 0 = ap (λ b. cond b 1 0) (ne_eqb q p (λ g. h (sym g))) in
    omega arith

-- a list in which nobody is counted is empty
pub none_counted : (l : List ℕ) → ((p : ℕ) → 0 < count_in p l → ⊥) → l ≡ []
none_counted [] h = refl
none_counted (x ∷ xs) h = absurd (h x (first_is_counted x xs))

-- a write changes a count by what stood there and what stands there now
pub times-set : {A : Type 0} (test : A → Bool) (l : List A) (i : ℕ) (y d : A) → i < length l
    → times test (set l i y) + cond (test (get_or l i d)) 1 0 ≡ times test l + cond (test y) 1 0
times-set test [] i y d h = absurd (omega arith)
times-set test (x ∷ xs) zero y d h = both (test x) (test y) (times test xs)
  where
    both : (a b : Bool) (n : ℕ) → cond b (suc n) n + cond a 1 0 ≡ cond a (suc n) n + cond b 1 0
    both true true n = refl
    both true false n = omega arith
    both false true n = omega arith
    both false false n = refl
times-set test (x ∷ xs) (suc i) y d h =
    let e = times-set test xs i y d (omega arith) in
    cond_both (test x) (suc (times test (set xs i y))) (times test (set xs i y))
    (λ n. n + cond (test (get_or xs i d)) 1 0 ≡ cond (test x) (suc (times test xs)) (times test xs) + cond (test y) 1 0)
    (λ b. rw b (omega arith)) (λ b. rw b e)

-- sums of functions that agree are equal
pub total-agree : {A : Type 0} (f g : A → ℕ) → ((x : A) → f x ≡ g x) → (l : List A) → total f l ≡ total g l
total-agree f g h [] = refl
total-agree f g h (x ∷ xs) = let a = h x in let b = total-agree f g h xs in omega arith

-- the sum over a list whose elements were changed
pub total-map : {A B : Type 0} (f : B → ℕ) (g : A → B) (l : List A) → total f (map g l) ≡ total (λ x. f (g x)) l
total-map f g [] = refl
total-map f g (x ∷ xs) = ap (λ n. f (g x) + n) (total-map f g xs)

-- a sum of zeros is zero
pub total-zero : {A : Type 0} (f : A → ℕ) → ((x : A) → f x ≡ 0) → (l : List A) → total f l ≡ 0
total-zero f h [] = refl
total-zero f h (x ∷ xs) = let a = h x in let b = total-zero f h xs in omega arith

-- a write changes a sum by what stood there and what stands there now
pub total-set : {A : Type 0} (f : A → ℕ) (l : List A) (i : ℕ) (y d : A) → i < length l
    → total f (set l i y) + f (get_or l i d) ≡ total f l + f y
total-set f [] i y d h = absurd (omega arith)
total-set f (x ∷ xs) zero y d h = omega arith
total-set f (x ∷ xs) (suc i) y d h = let e = total-set f xs i y d (omega arith) in omega arith

-- an element's number is at most the sum
pub get_or-le-total : {A : Type 0} (f : A → ℕ) (l : List A) (i : ℕ) (d : A) → f d ≡ 0 → f (get_or l i d) ≤ total f l
get_or-le-total f [] i d z = omega arith
get_or-le-total f (x ∷ xs) zero d z = omega arith
get_or-le-total f (x ∷ xs) (suc i) d z = let e = get_or-le-total f xs i d z in omega arith

-- and two elements at different places are together at most that
pub two-le-total : {A : Type 0} (f : A → ℕ) (l : List A) (i j : ℕ) (d : A) → f d ≡ 0 → i ≢ j
    → f (get_or l i d) + f (get_or l j d) ≤ total f l
two-le-total f [] i j d e n = omega (arith, e)
two-le-total f (x ∷ xs) zero zero d e n = absurd (n refl)
two-le-total f (x ∷ xs) zero (suc j) d e n = let h = get_or-le-total f xs j d e in omega (arith, h)
two-le-total f (x ∷ xs) (suc i) zero d e n = let h = get_or-le-total f xs i d e in omega (arith, h)
two-le-total f (x ∷ xs) (suc i) (suc j) d e n = let h = two-le-total f xs i j d e (λ g. n (ap suc g)) in omega (arith, h)

-- one element more before a list without what passes
absent_step : {A : Type 0} (passes : Bool) (x : A) (xs ys : List A) (n : ℕ) → cond passes (suc n) n ≡ 0 → (n ≡ 0 → ys ≡ xs)
    → cond (not passes) (x ∷ ys) ys ≡ x ∷ xs
absent_step true x xs ys n z h = absurd (omega arith)
absent_step false x xs ys n z h = ap (λ l. x ∷ l) (h z)

-- a filter that drops what isn't there drops nothing
pub filter_absent : {A : Type 0} (test : A → Bool) (l : List A) → times test l ≡ 0 → filter (λ x. not (test x)) l ≡ l
filter_absent test [] z = refl
filter_absent test (x ∷ xs) z = absent_step (test x) x xs (filter (λ y. not (test y)) xs) (times test xs) z (filter_absent test xs)

-- a number that isn't in a list of distinct ones may stand before it
pub distinct_with : (x a : ℕ) (l : List ℕ) → count_in a l ≡ 0 → count_in x l ≤ 1 → count_in x (a ∷ l) ≤ 1
distinct_with x a l none h = cond_both (a == x) (suc (count_in x l)) (count_in x l) (λ n. n ≤ 1)
    (λ b. let e : count_in x l ≡ 0 = subst (λ k. count_in k l ≡ 0) (eqb-true a x b) none in omega arith) (λ _. h)

-- one more number can only add
pub count_more : (x a : ℕ) (l : List ℕ) → count_in x l ≤ count_in x (a ∷ l)
count_more x a l = cond_both (a == x) (suc (count_in x l)) (count_in x l) (λ n. count_in x l ≤ n) (λ _. omega arith)
    (λ _. omega arith)
