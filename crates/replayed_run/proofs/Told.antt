-- What is known of what events print.
use Rattle.std.proofs.Common.{◌≡◌, ◌∙◌, ◌+◌, ◌≤◌, ◌<◌, ℕ, zero, suc, List, [], ◌∷◌, ◌++◌, length, take, drop, drop-cons, append-nil, refl, sym, ap, arith}
use Rattle.std.proofs.Math.Seq.{take-add}
use Rattle.std.proofs.lemmas.List.{length-take}
use Rattle.std.proofs.lemmas.List.Folds.{concat-append}
use Rattle.std.specs.List.{concat}
use Rattle.replayed_run.specs.Told.{Grows, text_at, text_of_first}

-- the first of the first
pub take-less : {X : Type 0} (n k : ℕ) (xs : List X) → n ≤ k → take n (take k xs) ≡ take n xs
take-less zero k xs less = refl
take-less (suc n) zero xs less = absurd (omega (arith, less))
take-less (suc n) (suc k) [] less = refl
take-less {X = X} (suc n) (suc k) (x ∷ xs) less = ap (λ (ys : List X). x ∷ ys) (take-less n k xs (omega (arith, less)))

-- nothing is longer than what it grows to
pub grows-further : (old new : List (List ℕ)) → Grows old new → length old ≤ length new
grows-further old new grows =
    let same : length (take (length old) new) ≡ length old = ap length grows.same in
    let least = length-take (length old) new in
    omega (arith, same, least)

-- one event more
pub first-more : (told : List (List ℕ)) (n : ℕ) → n < length told → text_of_first told (n + 1) ≡ text_of_first told n ++ text_at told n
first-more told n within =
    let more : take 1 (drop n told) ≡ text_at told n ∷ [] = ap (take 1) (drop-cons told n [] within) in
    ap concat (take-add n 1 told ∙ ap (λ (l : List (List ℕ)). take n told ++ l) more)
    ∙ concat-append (take n told) (text_at told n ∷ [])
    ∙ ap (λ (l : List ℕ). text_of_first told n ++ l) (append-nil (text_at told n))

-- what was known stays
pub first-kept : (old new : List (List ℕ)) (n : ℕ) → Grows old new → n ≤ length old → text_of_first new n ≡ text_of_first old n
first-kept old new n grows within = ap concat (sym (take-less n (length old) new within) ∙ ap (take n) grows.same)

-- the sum of a number and none
add-none : (n : ℕ) → n + 0 ≡ n
add-none n = grind arith

-- the sum of a number and the next one
add-suc : (n k : ℕ) → n + suc k ≡ n + k + 1
add-suc n k = grind arith

-- events that printed nothing
pub first-silent : (told : List (List ℕ)) (n k : ℕ) → n + k ≤ length told → ((m : ℕ) → n ≤ m → m < n + k → text_at told m ≡ [])
    → text_of_first told (n + k) ≡ text_of_first told n
first-silent told n zero within silent = ap (text_of_first told) (add-none n)
first-silent told n (suc k) within silent =
    ap (text_of_first told) (add-suc n k)
    ∙ first-more told (n + k) (omega (arith, within))
    ∙ ap (λ (l : List ℕ). text_of_first told (n + k) ++ l) (silent (n + k) (omega arith) (omega arith))
    ∙ append-nil (text_of_first told (n + k))
    ∙ first-silent told n k (omega (arith, within)) (λ m low high. silent m low (omega (arith, high)))
