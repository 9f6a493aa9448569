-- The order of names.
use Rattle.std.proofs.Common.{◌≡◌, ◌⊎◌, ℕ, ◌<◌, ◌≤◌, true, false, cond, ◌&&◌, List, [], ◌∷◌, bytes_eq, refl, sym, ap, ◌∙◌, subst, arith, inl, inr, ⊎_elim}
use Rattle.std.specs.Prelude.{nat_eq, nat_lt}
use Rattle.std.proofs.lemmas.Bool.{cond_both, cases_lt, false≢true, false_from_ne_true}
use Rattle.std.proofs.lemmas.Bool.Decides.{nat_tests}
use Rattle.std.proofs.lemmas.Slice.Eq.{bytes_eq-Decides}
use Rattle.xinu_model.specs.Files.Stored.{precedes}

-- names that begin alike go by what is left, and others by their first bytes
by_first : (x y : ℕ) (xs ys : List ℕ) → precedes (x ∷ xs) (y ∷ ys) ≡ true → (x < y) ⊎ ((x ≡ y) × (precedes xs ys ≡ true))
by_first x y xs ys e =
    cond_both (nat_eq x y) (precedes xs ys) (nat_lt x y) (λ v. v ≡ true → (x < y) ⊎ ((x ≡ y) × (precedes xs ys ≡ true)))
    (λ s t. inr (let q : x ≡ y = grind (arith, nat_tests) in q, t)) (λ s t. inl (let q : x < y = grind (arith, nat_tests) in q)) e

first_less : (x y : ℕ) (xs ys : List ℕ) → x < y → precedes (x ∷ xs) (y ∷ ys) ≡ true
first_less x y xs ys h =
    let e : nat_eq x y ≡ false = grind (arith, nat_tests) in
    let l : nat_lt x y ≡ true = grind (arith, nat_tests) in
    ap (λ v. cond v (precedes xs ys) (nat_lt x y)) e ∙ l

first_same : (x y : ℕ) (xs ys : List ℕ) → x ≡ y → precedes (x ∷ xs) (y ∷ ys) ≡ precedes xs ys
first_same x y xs ys h = let e : nat_eq x y ≡ true = grind (arith, nat_tests) in ap (λ v. cond v (precedes xs ys) (nat_lt x y)) e

-- no name comes before itself
pub precedes-self : (a : List ℕ) → precedes a a ≡ false
precedes-self [] = refl
precedes-self (x ∷ a) = first_same x x a a refl ∙ precedes-self a

pub precedes-trans : (a b c : List ℕ) → precedes a b ≡ true → precedes b c ≡ true → precedes a c ≡ true
precedes-trans a b [] p q = absurd (no_end b q)
  where
    no_end : (b : List ℕ) → precedes b [] ≡ true → ⊥
    no_end [] q = false≢true q
    no_end (y ∷ b) q = false≢true q
precedes-trans [] b (z ∷ c) p q = refl
precedes-trans (x ∷ a) [] (z ∷ c) p q = absurd (false≢true p)
precedes-trans (x ∷ a) (y ∷ b) (z ∷ c) p q =
    ⊎_elim
    (λ (h : x < y). ⊎_elim (λ (k : y < z). first_less x z a c (omega arith))
    (λ (k : (y ≡ z) × (precedes b c ≡ true)). first_less x z a c (let e = k.0 in omega arith)) (by_first y z b c q))
    (λ (h : (x ≡ y) × (precedes a b ≡ true)).
    ⊎_elim (λ (k : y < z). first_less x z a c (let e = h.0 in omega arith))
    (λ (k : (y ≡ z) × (precedes b c ≡ true)). first_same x z a c (h.0 ∙ k.0) ∙ precedes-trans a b c h.1 k.1) (by_first y z b c q))
    (by_first x y a b p)

-- of two names that differ one comes before the other
pub precedes-total : (a b : List ℕ) → precedes a b ≡ false → bytes_eq a b ≡ false → precedes b a ≡ true
precedes-total [] [] p e = absurd (false≢true (sym e))
precedes-total [] (y ∷ b) p e = absurd (false≢true (sym p))
precedes-total (x ∷ a) [] p e = refl
precedes-total (x ∷ a) (y ∷ b) p e =
    ⊎_elim (λ (h : y < x). first_less y x b a h)
    (λ (h : x ≤ y). ⊎_elim (λ (k : x < y). absurd (false≢true (sym p ∙ first_less x y a b k)))
    (λ (k : y ≤ x). (let s : x ≡ y = omega arith in let t : nat_eq x y ≡ true = grind (arith, nat_tests) in
    first_same y x b a (sym s) ∙ precedes-total a b (sym (first_same x y a b s) ∙ p) (sym (ap (λ v. v && bytes_eq a b) t) ∙ e)))
    (cases_lt x y))
    (cases_lt y x)

-- equal names, and names that differ
pub same_bytes : (a b : List ℕ) → bytes_eq a b ≡ true → a ≡ b
same_bytes a b e = (bytes_eq-Decides a b).0 e

pub equal_bytes : (a b : List ℕ) → a ≡ b → bytes_eq a b ≡ true
equal_bytes a b e = (bytes_eq-Decides a b).1 e

pub own_bytes : (a : List ℕ) → bytes_eq a a ≡ true
own_bytes a = equal_bytes a a refl

pub differ : (a b : List ℕ) → bytes_eq a b ≡ false → bytes_eq b a ≡ false
differ a b e = false_from_ne_true (bytes_eq b a) (λ t. false≢true (sym e ∙ equal_bytes a b (sym (same_bytes b a t))))

-- a name before another isn't equal to it
pub before_differs : (a b : List ℕ) → precedes a b ≡ true → bytes_eq b a ≡ false
before_differs a b e =
    false_from_ne_true (bytes_eq b a)
    (λ t. false≢true (sym (precedes-self a) ∙ subst (λ n. precedes a n ≡ true) (same_bytes b a t) e))
