-- The first k chunks of n elements: how many they are, one of them, one of them changed, and all of them joined.
use Rattle.std.proofs.Common.{◌≡◌, ℕ, zero, suc, ◌+◌, ◌*◌, ◌<◌, ◌≤◌, List, ◌∷◌, ◌++◌, length, get_or, set, take, drop, refl, sym, ap, ◌∙◌, arith, length-drop, append_assoc}
use Rattle.std.proofs.Math.Nat.{mul-zero, mul-suc}
use Rattle.std.proofs.Math.Seq.{take-add, take-append_seam, drop-append_seam}
use Rattle.std.proofs.lemmas.List.{drop-drop, length-take-le}
use Rattle.std.specs.List.{concat}
use Rattle.std.specs.Simd.{first_chunks}

-- there are k
pub length_chunks : {X : Type 0} (n k : ℕ) (xs : List X) → length (first_chunks n k xs) ≡ k
length_chunks n zero xs = refl
length_chunks n (suc k) xs = ap suc (length_chunks n k (drop n xs))

-- a place in chunk i + 1 is one in chunk i after the first n elements
next_place : (n i : ℕ) → n * suc i ≡ n + n * i
next_place n i = let e = mul-suc n i in omega (arith, e)

-- chunk i begins after n * i elements
pub chunk_at : {X : Type 0} (n k : ℕ) (xs : List X) (i : ℕ) (d : List X) → i < k →
    get_or (first_chunks n k xs) i d ≡ take n (drop (n * i) xs)
chunk_at n zero xs i d h = absurd (omega arith)
chunk_at n (suc k) xs zero d h = rw (mul-zero n) refl
chunk_at n (suc k) xs (suc i) d h =
    chunk_at n k (drop n xs) i d (omega arith)
    ∙ ap (take n) (drop-drop (n * i) n xs ∙ ap (λ m. drop m xs) (sym (next_place n i)))

-- if chunk 0 is changed, the first n elements are
changed_first : {X : Type 0} (n : ℕ) (b xs : List X) → take (n * zero) xs ++ (b ++ drop (n * zero + n) xs) ≡ b ++ drop n xs
changed_first n b xs = rw (mul-zero n) (let e : 0 + n ≡ n = omega arith in rw e refl)

-- if a later chunk is changed, the first stays, and of the others the one before is changed
changed_later : {X : Type 0} (n i : ℕ) (b xs : List X) →
    take (n * suc i) xs ++ (b ++ drop (n * suc i + n) xs) ≡ take n xs ++ (take (n * i) (drop n xs) ++ (b ++ drop (n * i + n) (drop n xs)))
changed_later n i b xs =
    let a : take (n * suc i) xs ≡ take n xs ++ take (n * i) (drop n xs) = ap (λ m. take m xs) (next_place n i) ∙ take-add n (n * i) xs in
    let e : n * suc i + n ≡ n + (n * i + n) = let f = next_place n i in omega (arith, f) in
    let c : drop (n * suc i + n) xs ≡ drop (n * i + n) (drop n xs) = ap (λ m. drop m xs) e ∙ sym (drop-drop (n * i + n) n xs) in
    rw (a, c, append_assoc) refl

-- a first chunk of n elements and the chunks of the rest
chunks_after : {X : Type 0} (n k : ℕ) (a rest : List X) → length a ≡ n → first_chunks n (suc k) (a ++ rest) ≡ a ∷ first_chunks n k rest
chunks_after n k a rest e =
    let t : take n (a ++ rest) ≡ a = ap (λ m. take m (a ++ rest)) (sym e) ∙ take-append_seam a rest in
    let d : drop n (a ++ rest) ≡ rest = ap (λ m. drop m (a ++ rest)) (sym e) ∙ drop-append_seam a rest in
    rw (t, d) refl

-- if n elements are put in the place of chunk i, it is these, and the other chunks stay
pub chunks_changed : {X : Type 0} (n k : ℕ) (xs : List X) (i : ℕ) (b : List X) → length b ≡ n → i < k → n * k ≤ length xs →
    first_chunks n k (take (n * i) xs ++ (b ++ drop (n * i + n) xs)) ≡ set (first_chunks n k xs) i b
chunks_changed n zero xs i b e h w = absurd (omega arith)
chunks_changed n (suc k) xs zero b e h w = ap (first_chunks n (suc k)) (changed_first n b xs) ∙ chunks_after n k b (drop n xs) e
chunks_changed n (suc k) xs (suc i) b e h w =
    let m = next_place n k in
    let short : n ≤ length xs = omega (arith, m) in
    let rest : n * k ≤ length (drop n xs) = omega (arith, m, length-drop n xs) in
    ap (first_chunks n (suc k)) (changed_later n i b xs)
    ∙ chunks_after n k (take n xs) (take (n * i) (drop n xs) ++ (b ++ drop (n * i + n) (drop n xs))) (length-take-le n xs short)
    ∙ ap (λ cs. take n xs ∷ cs) (chunks_changed n k (drop n xs) i b e (omega arith) rest)

-- the chunks joined are the first n * k elements
pub chunks_joined : (n k : ℕ) (xs : List ℕ) → concat (first_chunks n k xs) ≡ take (n * k) xs
chunks_joined n zero xs = rw (mul-zero n) refl
chunks_joined n (suc k) xs =
    ap (λ r. take n xs ++ r) (chunks_joined n k (drop n xs)) ∙ sym (take-add n (n * k) xs) ∙ ap (λ m. take m xs) (sym (next_place n k))
