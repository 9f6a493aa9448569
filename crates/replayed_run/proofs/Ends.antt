-- Which event comes next, and whether one does.
use Rattle.std.proofs.Common.{◌≡◌, ◌≢◌, ◌∙◌, ◌≤◌, ◌<◌, ◌+◌, ◌++◌, replicate, ◌==◌, ◌||◌, ℕ, zero, suc, Bool, true, false, List, [], ◌∷◌, length, drop, Option, Some, None, refl, sym, ap, arith, ne_eqb}
use Rattle.std.proofs.lemmas.Option.{slice_get_within}
use Rattle.std.specs.Prelude.{MatchOption, slice_get}

-- a number is itself
eqb-same : (m n : ℕ) → m ≤ n → n ≤ m → (m == n) ≡ true
eqb-same m n low high = grind arith

-- a disjunction
either-right : (a b : Bool) → b ≡ true → (a || b) ≡ true
either-right true b is = refl
either-right false b is = is

-- the first element after some
get-dropped : {X : Type 0} (n : ℕ) (xs : List X) → slice_get (drop n xs) 0 ≡ slice_get xs n
get-dropped zero [] = refl
get-dropped zero (x ∷ xs) = refl
get-dropped (suc n) [] = refl
get-dropped (suc n) (x ∷ xs) = get-dropped n xs

-- no element is there
past-end : {X : Type 0} (xs : List X) (n : ℕ) → slice_get xs n ≡ None → length xs ≤ n
past-end [] n none = omega arith
past-end (x ∷ xs) zero none = absurd (cc)
past-end (x ∷ xs) (suc n) none = let more = past-end xs n none in omega (arith, more)

-- the element after those that were taken, if there is one
pub next-of : {X : Type 0} (over : Bool) (xs left : List X) (n : ℕ) (result : Option X) → n ≤ length xs → left ≡ drop n xs
    → result ≡ slice_get left 0 → MatchOption result ((over || (n == length xs)) ≡ true) (λ x. slice_get xs n ≡ Some x)
next-of {X = X} over xs left n None within is next =
    let none : slice_get xs n ≡ None = sym (next ∙ ap (λ (l : List X). slice_get l 0) is ∙ get-dropped n xs) in
    either-right over (n == length xs) (eqb-same n (length xs) within (past-end xs n none))
next-of {X = X} over xs left n (Some x) within is next = sym (next ∙ ap (λ (l : List X). slice_get l 0) is ∙ get-dropped n xs)

-- an element comes next
pub comes-next : {X : Type 0} (over : Bool) (xs : List X) (n : ℕ) (x : X) → over ≡ false → slice_get xs n ≡ Some x → (over || (n == length xs)) ≡ false
comes-next over xs n x goes is =
    let within = slice_get_within xs n x is in
    let few : n ≢ length xs = λ same. absurd (omega (arith, within, same)) in
    ap (λ (b : Bool). b || (n == length xs)) goes ∙ ne_eqb n (length xs) few

-- one of the elements of which there are so many
get-copy : {X : Type 0} (x : X) (n k : ℕ) (xs : List X) → k < n → slice_get (replicate n x ++ xs) k ≡ Some x
get-copy x zero k xs within = absurd (omega (arith, within))
get-copy x (suc n) zero xs within = refl
get-copy x (suc n) (suc k) xs within = get-copy x n k xs (omega (arith, within))

-- an element after those that come first
get-later : {X : Type 0} (n k : ℕ) (xs : List X) → slice_get (drop n xs) k ≡ slice_get xs (n + k)
get-later {X = X} zero k xs = ap (slice_get xs) (let e : k ≡ 0 + k = omega arith in e)
get-later (suc n) k [] = refl
get-later {X = X} (suc n) k (x ∷ xs) = get-later n k xs ∙ ap (λ (m : ℕ). slice_get (x ∷ xs) m) (let e : suc (n + k) ≡ suc n + k = omega arith in e)

-- one of the elements that come next, if there are so many
pub next-copy : {X : Type 0} (x : X) (n k m : ℕ) (xs rest : List X) → drop n xs ≡ replicate m x ++ rest → k < m → slice_get xs (n + k) ≡ Some x
next-copy {X = X} x n k m xs rest is within = sym (get-later n k xs) ∙ ap (λ (l : List X). slice_get l k) is ∙ get-copy x m k rest within
