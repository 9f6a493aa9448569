-- The first chunks of n elements, one by one.
use Rattle.std.proofs.Common.{◌≡◌, ◌∙◌, ℕ, zero, suc, ◌+◌, ◌*◌, List, [], ◌∷◌, ◌++◌, length, take, drop, refl, sym, ap, arith}
use Rattle.std.proofs.Math.Nat.{mul-suc, mul-zero}
use Rattle.std.proofs.lemmas.List.{drop-drop}
use Rattle.std.specs.Simd.{first_chunks}

-- one chunk more comes last
next_chunk : {X : Type 0} (n k : ℕ) (xs : List X) → first_chunks n (suc k) xs ≡ first_chunks n k xs ++ take n (drop (n * k) xs) ∷ []
next_chunk n zero xs = rw (mul-zero n) refl
next_chunk n (suc k) xs =
    let at : n * suc k ≡ n + n * k = (let e = mul-suc n k in omega (arith, e)) in
    let rest : drop (n * k) (drop n xs) ≡ drop (n * suc k) xs = drop-drop (n * k) n xs ∙ ap (λ m. drop m xs) (sym at) in
    ap (λ l. take n xs ∷ l) (next_chunk n k (drop n xs)) ∙ ap (λ r. take n xs ∷ (first_chunks n k (drop n xs) ++ take n r ∷ [])) rest

pub chunk_more : {X : Type 0} (n k : ℕ) (xs : List X) → first_chunks n (k + 1) xs ≡ first_chunks n k xs ++ take n (drop (n * k) xs) ∷ []
chunk_more n k xs = ap (λ m. first_chunks n m xs) (let e : k + 1 ≡ suc k = omega arith in e) ∙ next_chunk n k xs

-- there are as many as are asked for
pub count_chunks : {X : Type 0} (n k : ℕ) (xs : List X) → length (first_chunks n k xs) ≡ k
count_chunks n zero xs = refl
count_chunks n (suc k) xs = ap suc (count_chunks n k (drop n xs))

-- after the first n blocks comes the next
pub block_more : (bytes : List ℕ) (blocks : List (List ℕ)) (n k : ℕ) (block : List ℕ) → blocks ≡ first_chunks 512 n bytes
    → block ≡ take k (drop (512 * n) bytes) → k ≡ 512 → blocks ++ block ∷ [] ≡ first_chunks 512 (n + 1) bytes
block_more bytes blocks n k block is next whole =
    ap (λ l. l ++ block ∷ []) is ∙ ap (λ b. first_chunks 512 n bytes ++ b ∷ []) (next ∙ ap (λ m. take m (drop (512 * n) bytes)) whole)
    ∙ sym (chunk_more 512 n bytes)
