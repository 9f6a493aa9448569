-- Lists seen through a function, and how many of a list pass a test after a write.
use Rattle.std.proofs.Common.{◌≡◌, ℕ, zero, suc, ◌+◌, ◌≤◌, Bool, true, false, cond, List, [], ◌∷◌, map, set, get_or, refl, ap, ◌∙◌, arith}
use Rattle.std.specs.Prelude.{replicate}
use Rattle.xinu_model.specs.Sound.Tables.{times}

-- one if a test holds
abbrev pub one : Bool → ℕ
one b = cond b 1 0

-- how many pass a test counts one more for an element that passes
pub times_first : {A : Type 0} (test : A → Bool) (x : A) (l : List A) → times test (x ∷ l) ≡ one (test x) + times test l
times_first test x l = by_test (test x) (times test l)
  where
    by_test : (b : Bool) (n : ℕ) → cond b (suc n) n ≡ one b + n
    by_test true n = omega arith
    by_test false n = omega arith

-- how many pass a test after a function
pub times-map : {A B : Type 0} (f : A → B) (test : B → Bool) (l : List A) → times test (map f l) ≡ times (λ x. test (f x)) l
times-map f test [] = refl
times-map f test (x ∷ l) = ap (λ n. cond (test (f x)) (suc n) n) (times-map f test l)

-- how many pass a test that each element fails
pub times_none : {A : Type 0} (test : A → Bool) (n : ℕ) (x : A) → test x ≡ false → times test (replicate n x) ≡ 0
times_none test zero x e = refl
times_none test (suc n) x e = ap (λ b. cond b (suc (times test (replicate n x))) (times test (replicate n x))) e ∙ times_none test n x e

-- a write that a function doesn't see
pub map_set_same : {A B : Type 0} (f : A → B) (l : List A) (i : ℕ) (x d : A) → f x ≡ f (get_or l i d) → map f (set l i x) ≡ map f l
map_set_same f [] i x d e = refl
map_set_same f (y ∷ l) zero x d e = ap (λ z. z ∷ map f l) e
map_set_same f (y ∷ l) (suc i) x d e = ap (λ m. f y ∷ m) (map_set_same f l i x d e)

-- an element seen through a function
pub get_or_seen : {A B : Type 0} (f : A → B) (l : List A) (i : ℕ) (d : A) → f (get_or l i d) ≡ get_or (map f l) i (f d)
get_or_seen f [] i d = refl
get_or_seen f (x ∷ l) zero d = refl
get_or_seen f (x ∷ l) (suc i) d = get_or_seen f l i d

-- A write counts what is written in place of what was there, at most.
pub times_set : {A : Type 0} (test : A → Bool) (l : List A) (i : ℕ) (x d : A) → test d ≡ false
    → times test (set l i x) + one (test (get_or l i d)) ≤ times test l + one (test x)
times_set test [] i x d e = let none = ap one e in omega arith
times_set test (y ∷ l) zero x d e =
    let was = times_first test y l in
    let is = times_first test x l in
    omega arith
times_set test (y ∷ l) (suc i) x d e =
    let more = times_set test l i x d e in
    let was = times_first test y l in
    let is = times_first test y (set l i x) in
    omega arith

-- what is written twice at a place is what was written last
pub set_twice : {A : Type 0} (l : List A) (i : ℕ) (x y : A) → set (set l i x) i y ≡ set l i y
set_twice [] i x y = refl
set_twice (a ∷ l) zero x y = refl
set_twice (a ∷ l) (suc i) x y = ap (λ m. a ∷ m) (set_twice l i x y)
