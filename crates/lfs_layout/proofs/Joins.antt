-- Lemmas on lists that are joined at numbers, and on numbers that go upwards.
use Rattle.std.proofs.Common.{◌≡◌, ℕ, zero, suc, ◌+◌, ◌*◌, ◌<◌, List, [], ◌∷◌, ◌++◌, length, take, drop, refl, sym, ap, ◌∙◌, arith, length-append}
use Rattle.std.proofs.lemmas.List.{take_at, drop-drop}
use Rattle.std.specs.List.{flat_map}
use Rattle.lfs_check.specs.Fields.{joined}
use Rattle.lfs_check.specs.Empty.{upwards}
use Rattle.lfs_format.proofs.Joins.{drop_past}

-- nothing is taken from nothing
take-none : {A : Type 0} → (n : ℕ) → take {A = A} n [] ≡ []
take-none zero = refl
take-none (suc n) = refl

-- what is taken in two steps
take-add : {A : Type 0} → (m n : ℕ) (xs : List A) → take (m + n) xs ≡ take m xs ++ take n (drop m xs)
take-add zero n xs = ap (λ k. take k xs) (let e : 0 + n ≡ n = omega arith in e)
take-add (suc m) n [] = ap (λ k. take k []) (let e : suc m + n ≡ suc (m + n) = omega arith in e) ∙ sym (take-none n)
take-add (suc m) n (x ∷ xs) = ap (λ k. take k (x ∷ xs)) (let e : suc m + n ≡ suc (m + n) = omega arith in e) ∙ ap (λ t. x ∷ t) (take-add m n xs)

-- the pieces of a list, joined
pub joined_pieces : {A : Type 0} → (w n : ℕ) (xs : List A) → joined (λ d. take w (drop (w * d) xs)) n ≡ take (w * n) xs
unfolding joined
joined_pieces w zero xs = ap (λ k. take k xs) (let e : 0 ≡ w * 0 = omega arith in e)
joined_pieces w (suc n) xs =
    ap (λ x. x ++ take w (drop (w * n) xs)) (joined_pieces w n xs) ∙ sym (take-add (w * n) w xs) ∙ ap (λ k. take k xs) (let e : w * n + w ≡ w * suc n = grind arith in e)

-- one number more upwards
pub upwards_more : (low many : ℕ) → upwards low (suc many) ≡ upwards low many ++ (low + many) ∷ []
upwards_more low zero = ap (λ k. k ∷ []) (let e : low ≡ low + 0 = omega arith in e)
upwards_more low (suc many) = ap (λ t. low ∷ t) (upwards_more (suc low) many ∙ ap (λ k. upwards (suc low) many ++ k ∷ []) (let e : suc low + many ≡ low + suc many = omega arith in e))

-- what numbers that go upwards give, and where
pub length_flat_upwards : (f : ℕ → List ℕ) (w low many : ℕ) → ((k : ℕ) → length (f k) ≡ w) → length (flat_map f (upwards low many)) ≡ w * many
length_flat_upwards f w low zero all = let e : 0 ≡ w * 0 = omega arith in e
length_flat_upwards f w low (suc many) all =
    let i = length_flat_upwards f w (suc low) many all in let l = all low in let a = length-append (f low) (flat_map f (upwards (suc low) many)) in
    let e : w * suc many ≡ w + w * many = grind arith in omega (arith, i, l, a, e)

-- block j of the blocks of numbers upwards
pub flat_upwards_at : (f : ℕ → List ℕ) (w low many j : ℕ) → ((k : ℕ) → length (f k) ≡ w) → j < many → take w (drop (w * j) (flat_map f (upwards low many))) ≡ f (low + j)
flat_upwards_at f w low zero j all h = absurd (omega (arith, h))
flat_upwards_at f w low (suc many) zero all h =
    ap (λ k. take w (drop k (flat_map f (upwards low (suc many))))) (let e : w * 0 ≡ 0 = omega arith in e)
    ∙ take_at (f low) (flat_map f (upwards (suc low) many)) w (all low) ∙ ap f (let e : low ≡ low + 0 = omega arith in e)
flat_upwards_at f w low (suc many) (suc j) all h =
    ap (take w) (drop_past (f low) (flat_map f (upwards (suc low) many)) w (w * suc j) (w * j) (all low) (let e : w * suc j ≡ w + w * j = grind arith in e))
    ∙ flat_upwards_at f w (suc low) many j all (omega arith) ∙ ap f (let e : suc low + j ≡ low + suc j = omega arith in e)

-- blocks that come one after another are one part of the bytes
pub blocks_upwards : (w : ℕ) (xs : List ℕ) (low many : ℕ) → flat_map (λ n. take w (drop (w * n) xs)) (upwards low many) ≡ take (w * many) (drop (w * low) xs)
blocks_upwards w xs low zero = ap (λ k. take k (drop (w * low) xs)) (let e : 0 ≡ w * 0 = omega arith in e)
blocks_upwards w xs low (suc many) =
    ap (λ t. take w (drop (w * low) xs) ++ t) (blocks_upwards w xs (suc low) many ∙ ap (λ t. take (w * many) t) (ap (λ k. drop k xs) (let e : w * suc low ≡ w * low + w = grind arith in e) ∙ sym (drop-drop w (w * low) xs)))
    ∙ sym (take-add w (w * many) (drop (w * low) xs)) ∙ ap (λ k. take k (drop (w * low) xs)) (let e : w + w * many ≡ w * suc many = grind arith in e)
