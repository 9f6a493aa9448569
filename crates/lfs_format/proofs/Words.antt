-- Lemmas on words of four bytes.
use Rattle.std.proofs.Common.{◌≡◌, ℕ, zero, suc, ◌+◌, ◌*◌, ◌^◌, ◌<◌, ◌≤◌, ◌-◌, List, [], ◌∷◌, ◌++◌, length, get_or, slice_index, take, drop, refl, sym, ap, ◌∙◌, arith, append_assoc}
use Rattle.std.proofs.lemmas.List.{same_lists, get_or_default, drop_at, drop-take}
use Rattle.std.proofs.Math.Seq.{drop-drop}
use Rattle.byteorder.specs.Endian.{little_number, little_bytes, IsRead}
use Rattle.byteorder.specs.Numbers.{little_from-take, little_number-reads_back, length-bytes_low_first}
use Rattle.lfs_format.specs.Words.{word_of, words_of, word_bytes}

pub length-words_of : (n : ℕ) (bytes : List ℕ) → length (words_of n bytes) ≡ n
unfolding words_of
length-words_of zero bytes = refl
length-words_of (suc n) bytes = let i = length-words_of n (drop 4 bytes) in omega (arith, i)

pub get_or-words_of : (n : ℕ) (bytes : List ℕ) (k d : ℕ) → k < n → get_or (words_of n bytes) k d ≡ word_of (drop (4 * k) bytes)
unfolding words_of
get_or-words_of zero bytes k d h = absurd (omega arith)
get_or-words_of (suc n) bytes zero d h = refl
get_or-words_of (suc n) bytes (suc k) d h =
    let i = get_or-words_of n (drop 4 bytes) k d (omega arith) in
    let e : 4 + 4 * k ≡ 4 * suc k = omega arith in
    i ∙ ap word_of (drop-drop (4 * k) 4 bytes) ∙ ap (λ j. word_of (drop j bytes)) e

-- what byteorder read into an array of n words is the words
pub words_of-read : (n : ℕ) (src dst : List ℕ) → length dst ≡ n → IsRead little_number 4 src dst → dst ≡ words_of n src
words_of-read n src dst l r =
    same_lists dst (words_of n src) (l ∙ sym (length-words_of n src))
    (λ k d h. (let lt : k < n = omega arith in get_or_default dst k d 0 h ∙ r k h ∙ sym (get_or-words_of n src k d lt)))

-- no word after the range is read
pub words_of-take : (n m : ℕ) (bytes : List ℕ) → 4 * n ≤ m → words_of n (take m bytes) ≡ words_of n bytes
words_of-take n m bytes h =
    same_lists (words_of n (take m bytes)) (words_of n bytes) (length-words_of n (take m bytes) ∙ sym (length-words_of n bytes))
    (λ k d lt. (let low : k < n = omega (arith, lt, length-words_of n (take m bytes)) in
    let split : (4 * k) + (m - 4 * k) ≡ m = omega arith in
    get_or-words_of n (take m bytes) k d low
    ∙ ap (λ j. word_of (drop (4 * k) (take j bytes))) (sym split)
    ∙ ap word_of (drop-take (4 * k) (m - 4 * k) bytes)
    ∙ little_from-take 0 4 (m - 4 * k) (drop (4 * k) bytes) (omega arith)
    ∙ sym (get_or-words_of n bytes k d low)))

pub length-little : (x : ℕ) → length (little_bytes 4 x) ≡ 4
length-little x = length-bytes_low_first 0 4 x

-- a word that was written is read again
pub word_of-bytes : (x : ℕ) (rest : List ℕ) → x < 2 ^ 32 → word_of (little_bytes 4 x ++ rest) ≡ x
word_of-bytes x rest h = little_number-reads_back 4 x rest (omega arith)

pub drop-word : (x : ℕ) (rest : List ℕ) → drop 4 (little_bytes 4 x ++ rest) ≡ rest
drop-word x rest = drop_at (little_bytes 4 x) rest 4 (length-little x)

pub length-word_bytes : (words : List ℕ) → length (word_bytes words) ≡ 4 * length words
unfolding word_bytes
length-word_bytes [] = refl
length-word_bytes (x ∷ words) = let i = length-word_bytes words in omega (arith, i)

-- words that were written are read again
pub words_of-bytes : (words rest : List ℕ) → ((k : ℕ) → slice_index words k < 2 ^ 32) → words_of (length words) (word_bytes words ++ rest) ≡ words
unfolding words_of word_bytes
words_of-bytes [] rest h = refl
words_of-bytes (x ∷ words) rest h =
    let i = words_of-bytes words rest (λ k. h (suc k)) in
    let split : word_bytes (x ∷ words) ++ rest ≡ little_bytes 4 x ++ (word_bytes words ++ rest) = append_assoc (little_bytes 4 x) (word_bytes words) rest in
    let head : word_of (word_bytes (x ∷ words) ++ rest) ≡ x = ap word_of split ∙ word_of-bytes x (word_bytes words ++ rest) (h 0) in
    let tail : words_of (length words) (drop 4 (word_bytes (x ∷ words) ++ rest)) ≡ words = ap (λ b. words_of (length words) (drop 4 b)) split ∙ ap (words_of (length words)) (drop-word x (word_bytes words ++ rest)) ∙ i in
    ap (λ v. v ∷ words_of (length words) (drop 4 (word_bytes (x ∷ words) ++ rest))) head ∙ ap (λ v. x ∷ v) tail

-- an index block that was written between other bytes is read again
pub words_of-between : (words front rest : List ℕ) (n at : ℕ) → ((k : ℕ) → slice_index words k < 2 ^ 32) → length words ≡ n → length front ≡ at → words_of n (drop at (front ++ (word_bytes words ++ rest))) ≡ words
words_of-between words front rest n at h l f =
    ap (words_of n) (drop_at front (word_bytes words ++ rest) at f)
    ∙ ap (λ m. words_of m (word_bytes words ++ rest)) (sym l) ∙ words_of-bytes words rest h
