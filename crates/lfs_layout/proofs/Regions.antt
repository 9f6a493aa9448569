-- Words that fit their bytes, and the bytes of index blocks.
use Rattle.std.proofs.Common.{◌≡◌, ℕ, zero, suc, ◌+◌, ◌*◌, ◌^◌, ◌<◌, List, [], ◌∷◌, ◌++◌, length, get_or, slice_index, take, drop, replicate, refl, sym, ap, ◌∙◌, arith, append_assoc, length-append}
use Rattle.std.specs.List.{flat_map}
use Rattle.lfs_format.specs.declared.Index.{Index}
use Rattle.lfs_format.specs.Words.{words_of}
use Rattle.lfs_format.specs.Indexes.{index_of_words, index_words, index_bytes}
use Rattle.lfs_format.proofs.Words.{length-word_bytes, words_of-bytes}
use Rattle.lfs_format.proofs.Joins.{drop_past}
use Rattle.lfs_check.specs.Laid.{no_index}

-- each word of a list fits
abbrev pub AllFit : List ℕ → Type 0
AllFit xs = (k : ℕ) → slice_index xs k < 2 ^ 32

-- two lists of words are one
pub fit_append : (xs ys : List ℕ) → AllFit xs → AllFit ys → AllFit (xs ++ ys)
fit_append [] ys p q k = q k
fit_append (x ∷ xs) ys p q zero = p 0
fit_append (x ∷ xs) ys p q (suc k) = fit_append xs ys (λ j. p (suc j)) q k

-- a beginning of words is words
pub fit_take : (n : ℕ) (xs : List ℕ) → AllFit xs → AllFit (take n xs)
fit_take zero xs p k = omega arith
fit_take (suc n) [] p k = omega arith
fit_take (suc n) (x ∷ xs) p zero = p 0
fit_take (suc n) (x ∷ xs) p (suc k) = fit_take n xs (λ j. p (suc j)) k

-- an end of words is words
pub fit_drop : (n : ℕ) (xs : List ℕ) → AllFit xs → AllFit (drop n xs)
fit_drop zero xs p k = p k
fit_drop (suc n) [] p k = omega arith
fit_drop (suc n) (x ∷ xs) p k = fit_drop n xs (λ j. p (suc j)) k

-- a word repeated is words
pub fit_replicate : (n x : ℕ) → x < 2 ^ 32 → AllFit (replicate n x)
fit_replicate zero x h k = omega arith
fit_replicate (suc n) x h zero = h
fit_replicate (suc n) x h (suc k) = fit_replicate n x h k

-- an index block of 18 words
pub record IndexFits (index : Index) : Type 0 where
  pub words : AllFit (index_words index)
  pub wide : length index.blocks ≡ 16

-- an index block has 18 words
length-index_words : (index : Index) → IndexFits index → length (index_words index) ≡ 18
length-index_words index f = let w = f.wide in omega (arith, w)

-- an index block has 72 bytes
pub length_index_bytes : (index : Index) → IndexFits index → length (index_bytes index) ≡ 72
length_index_bytes index f = length-word_bytes (index_words index) ∙ (let w = length-index_words index f in omega (arith, w))

-- index blocks that were written one after another are read again
pub index_read : (ys : List Index) (rest : List ℕ) (k : ℕ) → ((k : ℕ) → k < length ys → IndexFits (get_or ys k no_index)) → k < length ys
    → index_of_words (words_of 18 (drop (72 * k) (flat_map index_bytes ys ++ rest))) ≡ get_or ys k no_index
index_read [] rest k all h = absurd (omega (arith, h))
index_read (y ∷ ys) rest zero all h =
    let f = all 0 (omega arith) in
    ap (λ x. index_of_words (words_of 18 x)) (ap (λ j. drop j (flat_map index_bytes (y ∷ ys) ++ rest)) (let e : 72 * 0 ≡ 0 = omega arith in e) ∙ append_assoc (index_bytes y) (flat_map index_bytes ys) rest)
    ∙ ap (λ n. index_of_words (words_of n (index_bytes y ++ (flat_map index_bytes ys ++ rest)))) (sym (length-index_words y f))
    ∙ ap index_of_words (words_of-bytes (index_words y) (flat_map index_bytes ys ++ rest) f.words)
index_read (y ∷ ys) rest (suc k) all h =
    let f = all 0 (omega arith) in
    ap (λ x. index_of_words (words_of 18 x)) (ap (drop (72 * suc k)) (append_assoc (index_bytes y) (flat_map index_bytes ys) rest)
    ∙ drop_past (index_bytes y) (flat_map index_bytes ys ++ rest) 72 (72 * suc k) (72 * k) (length_index_bytes y f) (let e : 72 * suc k ≡ 72 + 72 * k = omega arith in e))
    ∙ index_read ys rest k (λ j m. all (suc j) (omega (arith, m))) (omega (arith, h))

-- index blocks have 72 bytes each
pub length_indexes : (ys : List Index) → ((k : ℕ) → k < length ys → IndexFits (get_or ys k no_index)) → length (flat_map index_bytes ys) ≡ 72 * length ys
length_indexes [] all = refl
length_indexes (y ∷ ys) all =
    let i = length_indexes ys (λ j m. all (suc j) (omega (arith, m))) in let l = length_index_bytes y (all 0 (omega arith)) in
    let a = length-append (index_bytes y) (flat_map index_bytes ys) in omega (arith, i, l, a)
