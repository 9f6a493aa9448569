-- How many entries of keys up to k come before p's in the ready list, as others leave and come.
use Rattle.std.proofs.Common.{◌≡◌, ◌≢◌, ℕ, suc, ◌<◌, ◌≤◌, ◌==◌, Bool, true, false, not, cond, List, [], ◌∷◌, ◌++◌, filter, refl, sym, ap, subst, ◌∙◌, arith, ℤ, ◌≤ℤ◌}
use Rattle.std.specs.Prelude.{int_lt}
use Rattle.std.specs.List.{AllByRecursion}
use Rattle.std.proofs.lemmas.Bool.{cond_both, eqb-true, ne_eqb, not-true, true≢false}
use Rattle.std.proofs.lemmas.Int.{ints}
use Rattle.xinu_base.specs.Insert.{ready_insert}
use Rattle.xinu_model.specs.Sound.Tables.{entries_of}
use Rattle.xinu_model.specs.Tables.{entries_without, Place, Nowhere, InReady, InSemaphore, InSleepers, ready_in}
use Rattle.table_laws.proofs.Lists.Counts.{entries_without_other}
use Rattle.table_laws.proofs.Lists.Orders.{all_both, all_filter, all_passes, all_weaker}
use Rattle.scheduling_laws.specs.RoundRobin.{before}

-- the entries before p's whose keys aren't above k
abbrev pub low : ℕ → ℤ → List (ℕ × ℤ) → ℕ
low p k [] = 0
low p k (e ∷ l) = cond (e.0 == p) 0 (cond (int_lt k e.1) (low p k l) (suc (low p k l)))

-- each entry of p has key k
abbrev pub HasKey : ℕ → ℤ → List (ℕ × ℤ) → Type 0
HasKey p k l = AllByRecursion (λ e. e.0 ≡ p → e.1 ≡ k) l

-- a key that isn't above k
above : (a k : ℤ) → int_lt k a ≡ true → a ≤ℤ k → ⊥
above a k h i = grind (arith, ints)

pub not_above : (a k : ℤ) → a ≤ℤ k → int_lt k a ≡ false
not_above a k h = by_test (int_lt k a) refl
  where
    by_test : (b : Bool) → int_lt k a ≡ b → b ≡ false
    by_test true e = absurd (above a k e h)
    by_test false e = refl

-- one entry more before two parts of which one has no more than the other
more : (a b : Bool) (m n : ℕ) → m ≤ n → cond a 0 (cond b m (suc m)) ≤ cond a 0 (cond b n (suc n))
more true b m n h = omega arith
more false true m n h = h
more false false m n h = omega arith

most : (a b : Bool) (m n : ℕ) → m ≤ n → cond a 0 (cond b m (suc m)) ≤ cond a 0 (suc n)
most true b m n h = omega arith
most false true m n h = omega arith
most false false m n h = omega arith

same : (a b : Bool) (m n : ℕ) → b ≡ false → m ≡ n → cond a 0 (cond b m (suc m)) ≡ cond a 0 (suc n)
same true b m n e f = refl
same false true m n e f = absurd (true≢false e)
same false false m n e f = ap suc f

dropped : (a b : Bool) (m n : ℕ) → a ≡ false → m ≤ n → m ≤ cond a 0 (cond b n (suc n))
dropped true b m n e h = absurd (true≢false e)
dropped false true m n e h = h
dropped false false m n e h = omega arith

found : (a b : Bool) (m n c : ℕ) → (0 < c → m ≡ n) → 0 < cond a (suc c) c → cond a 0 (cond b m (suc m)) ≡ cond a 0 (cond b n (suc n))
found true b m n c e h = refl
found false true m n c e h = e h
found false false m n c e h = ap suc (e h)

counted : (a b : Bool) (m : ℕ) → a ≡ false → b ≡ false → cond a 0 (cond b m (suc m)) ≡ suc m
counted true b m e f = absurd (true≢false e)
counted false true m e f = absurd (true≢false f)
counted false false m e f = refl

skipped : (a b : Bool) (m : ℕ) → a ≡ false → b ≡ true → cond a 0 (cond b m (suc m)) ≡ m
skipped true b m e f = absurd (true≢false e)
skipped false true m e f = refl
skipped false false m e f = absurd (true≢false (sym f))

-- No more are low than come before p's,
pub low_before : (p : ℕ) (k : ℤ) (l : List (ℕ × ℤ)) → low p k l ≤ before p l
low_before p k [] = omega arith
low_before p k (e ∷ l) = most (e.0 == p) (int_lt k e.1) (low p k l) (before p l) (low_before p k l)

-- and all are if no key is above k.
pub low_all : (p : ℕ) (k : ℤ) (l : List (ℕ × ℤ)) → AllByRecursion (λ e. e.1 ≤ℤ k) l → low p k l ≡ before p l
low_all p k [] h = refl
low_all p k (e ∷ l) h = same (e.0 == p) (int_lt k e.1) (low p k l) (before p l) (not_above e.1 k h.0) (low_all p k l h.1)

-- One that is low comes before p's.
pub low_counted : (p : ℕ) (k : ℤ) (x : ℕ × ℤ) (xs : List (ℕ × ℤ)) → x.0 ≢ p → x.1 ≤ℤ k → low p k (x ∷ xs) ≡ suc (low p k xs)
low_counted p k x xs n less = counted (x.0 == p) (int_lt k x.1) (low p k xs) (ne_eqb x.0 p n) (not_above x.1 k less)

-- A filter that keeps p's entries makes none more low,
low_filter : (p : ℕ) (k : ℤ) (kept : ℕ × ℤ → Bool) (l : List (ℕ × ℤ)) → AllByRecursion (λ e. e.0 ≡ p → kept e ≡ true) l
    → low p k (filter kept l) ≤ low p k l
low_filter p k kept [] h = omega arith
low_filter p k kept (x ∷ xs) h =
    let less = low_filter p k kept xs h.1 in
    cond_both (kept x) (x ∷ filter kept xs) (filter kept xs) (λ l. low p k l ≤ low p k (x ∷ xs))
    (λ _. more (x.0 == p) (int_lt k x.1) (low p k (filter kept xs)) (low p k xs) less)
    (λ b. dropped (x.0 == p) (int_lt k x.1) (low p k (filter kept xs)) (low p k xs) (ne_eqb x.0 p (λ e. true≢false (sym (h.0 e) ∙ b))) less)

-- and leaves them there.
pub filter_has : (p : ℕ) (kept : ℕ × ℤ → Bool) (l : List (ℕ × ℤ)) → AllByRecursion (λ e. e.0 ≡ p → kept e ≡ true) l → 0 < entries_of p l
    → 0 < entries_of p (filter kept l)
filter_has p kept [] h = λ n. n
filter_has p kept (x ∷ xs) h =
    let c = entries_of p (filter kept xs) in
    cond_both (x.0 == p) (suc (entries_of p xs)) (entries_of p xs) (λ n. 0 < n → 0 < entries_of p (filter kept (x ∷ xs)))
    (λ b n. subst (λ l. 0 < entries_of p l) (sym (kept_first x xs (h.0 (eqb-true x.0 p b))))
    (subst (λ a. 0 < cond a (suc c) c) (sym b) (omega arith)))
    (λ b n. cond_both (kept x) (x ∷ filter kept xs) (filter kept xs) (λ l. 0 < entries_of p l)
    (λ _. subst (λ a. 0 < cond a (suc c) c) (sym b) (filter_has p kept xs h.1 n)) (λ _. filter_has p kept xs h.1 n))
  where
    kept_first : (x : ℕ × ℤ) (xs : List (ℕ × ℤ)) → kept x ≡ true → filter kept (x ∷ xs) ≡ x ∷ filter kept xs
    kept_first x xs e = ap (λ b. cond b (x ∷ filter kept xs) (filter kept xs)) e

-- What comes after p's entry doesn't count;
low_first : (p : ℕ) (k : ℤ) (xs ys : List (ℕ × ℤ)) → 0 < entries_of p xs → low p k (xs ++ ys) ≡ low p k xs
low_first p k [] ys h = absurd (omega arith)
low_first p k (x ∷ xs) ys h =
    found (x.0 == p) (int_lt k x.1) (low p k (xs ++ ys)) (low p k xs) (entries_of p xs) (λ n. low_first p k xs ys n) h

-- nor do keys above k.
low_last : (p : ℕ) (k : ℤ) (xs ys : List (ℕ × ℤ)) → AllByRecursion (λ e. (e.0 ≢ p) × (int_lt k e.1 ≡ true)) xs
    → low p k (xs ++ ys) ≡ low p k ys
low_last p k [] ys h = refl
low_last p k (x ∷ xs) ys h =
    skipped (x.0 == p) (int_lt k x.1) (low p k (xs ++ ys)) (ne_eqb x.0 p h.0.0) h.0.1 ∙ low_last p k xs ys h.1

-- a key above k, and one that isn't below it
over : (a b k : ℤ) → int_lt k a ≡ true → not (int_lt b a) ≡ true → int_lt k b ≡ true
over a b k h i = let e = not-true (int_lt b a) i in by_test (int_lt k b) refl e
  where
    low_key : int_lt k b ≡ false → int_lt b a ≡ false → ⊥
    low_key f g = grind (arith, ints)

    by_test : (c : Bool) → int_lt k b ≡ c → int_lt b a ≡ false → c ≡ true
    by_test true f g = refl
    by_test false f g = absurd (low_key f g)

-- Another process comes into the list: no more are low.
low_insert : (p x : ℕ) (k key : ℤ) (l : List (ℕ × ℤ)) → p ≢ x → HasKey p k l → 0 < entries_of p l
    → low p k (ready_insert x key l) ≤ low p k l
low_insert p x k key l n keys here = by_key (int_lt k key) refl
  where
    goes_before : ℕ × ℤ → Bool
    goes_before e = not (int_lt e.1 key)

    first : List (ℕ × ℤ)
    first = filter goes_before l

    others : List (ℕ × ℤ)
    others = filter (λ e. not (goes_before e)) l

    by_key : (b : Bool) → int_lt k key ≡ b → low p k (first ++ (x, key) ∷ others) ≤ low p k l
    by_key false b =
        let passes = all_weaker (λ e. e.0 ≡ p → e.1 ≡ k) (λ e. e.0 ≡ p → goes_before e ≡ true)
        (λ e h f. ap (λ a. not (int_lt a key)) (h f) ∙ ap not b) l keys in
        subst (λ m. m ≤ low p k l) (sym (low_first p k first ((x, key) ∷ others) (filter_has p goes_before l passes here)))
        (low_filter p k goes_before l passes)
    by_key true b =
        let passes = all_weaker (λ e. e.0 ≡ p → e.1 ≡ k) (λ e. e.0 ≡ p → not (goes_before e) ≡ true)
        (λ e h f. ap (λ a. not (not (int_lt a key))) (h f) ∙ ap (λ a. not (not a)) b) l keys in
        let high = all_weaker (λ e. (goes_before e ≡ true) × (e.0 ≡ p → e.1 ≡ k)) (λ e. (e.0 ≢ p) × (int_lt k e.1 ≡ true))
        (λ e h. ((λ f. true≢false (sym h.0 ∙ ap (λ a. not (int_lt a key)) (h.1 f) ∙ ap not b)), over key e.1 k b h.0)) first
        (all_both (λ e. goes_before e ≡ true) (λ e. e.0 ≡ p → e.1 ≡ k) first (all_passes goes_before l)
        (all_filter (λ e. e.0 ≡ p → e.1 ≡ k) goes_before l keys)) in
        subst (λ m. m ≤ low p k l)
        (sym (low_last p k first ((x, key) ∷ others) high
        ∙ skipped (x == p) (int_lt k key) (low p k others) (ne_eqb x p (λ e. n (sym e))) b))
        (low_filter p k (λ e. not (goes_before e)) l passes)

-- p's entries stay as another process leaves
pub key_without : (p x : ℕ) (k : ℤ) (l : List (ℕ × ℤ)) → HasKey p k l → HasKey p k (entries_without x l)
key_without p x k l h = all_filter (λ e. e.0 ≡ p → e.1 ≡ k) (λ e. not (e.0 == x)) l h

pub low_without : (p x : ℕ) (k : ℤ) (l : List (ℕ × ℤ)) → p ≢ x → low p k (entries_without x l) ≤ low p k l
low_without p x k l n =
    low_filter p k (λ e. not (e.0 == x)) l (all_of (λ e f. ap not (ne_eqb e.0 x (λ g. n (sym f ∙ g)))) l)
  where
    all_of : {P : ℕ × ℤ → Type 0} → ((e : ℕ × ℤ) → P e) → (l : List (ℕ × ℤ)) → AllByRecursion P l
    all_of f [] = tt
    all_of f (e ∷ l) = (f e, all_of f l)

-- Another process leaves the list, and goes to a place.
pub low_moved : (place : Place) (p x : ℕ) (k key : ℤ) (l : List (ℕ × ℤ)) → p ≢ x → HasKey p k l → 0 < entries_of p l
    → low p k (ready_in place x key (entries_without x l)) ≤ low p k l
low_moved Nowhere p x k key l n keys here = low_without p x k l n
low_moved (InSemaphore sem) p x k key l n keys here = low_without p x k l n
low_moved (InSleepers wake) p x k key l n keys here = low_without p x k l n
low_moved InReady p x k key l n keys here =
    let others = entries_without x l in
    let a = low_insert p x k key others n (key_without p x k l keys) (subst (λ m. 0 < m) (sym (entries_without_other p x l n)) here) in
    let b = low_without p x k l n in
    omega arith
