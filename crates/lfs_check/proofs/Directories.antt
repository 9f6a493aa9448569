-- The directory of a disk of version 2, by its blocks.
use Rattle.std.proofs.Common.{◌≡◌, ℕ, zero, suc, ◌+◌, ◌*◌, ◌/◌, ◌<◌, ◌≤◌, true, cond, List, [], ◌∷◌, ◌++◌, length, get_or, slice_index, slice_index_or, take, drop, refl, sym, ap, ◌∙◌, arith, append_assoc, length-append, length-take, length-drop, ⊎_elim}
use Rattle.std.proofs.lemmas.List.{append-nil, drop_at, take_at, drop-drop}
use Rattle.std.proofs.lemmas.Bool.{cases_lt}
use Rattle.lfs_format.specs.declared.Entry.{Entry}
use Rattle.lfs_format.specs.Words.{word_of, words_of}
use Rattle.lfs_format.specs.Pieces.{pieces_of}
use Rattle.lfs_format.specs.Directory.{entry_of, dir_of, void_entry}
use Rattle.lfs_format.proofs.Words.{words_of-take}
use Rattle.lfs_check.specs.declared.geometry.Geometry.{Geometry}
use Rattle.lfs_check.specs.Rules.{block_in}
use Rattle.lfs_check.specs.Fields.{is_version_2, geometry_of, directory_entries, joined, numbered_values}
use Rattle.lfs_check.specs.Disks.{disk_geometry, entries, entry_at}

-- lists that are joined at numbers, each as long as the others
pub length_joined : {A : Type 0} → (f : ℕ → List A) (w n : ℕ) → ((k : ℕ) → k < n → length (f k) ≡ w) → length (joined f n) ≡ w * n
unfolding joined
length_joined f w zero all = let e : 0 ≡ w * 0 = omega arith in e
length_joined f w (suc n) all =
    let i = length_joined f w n (λ k h. all k (omega arith)) in let l = all n (omega arith) in let a = length-append (joined f n) (f n) in
    let e : w * suc n ≡ w * n + w = grind arith in omega (arith, i, l, a, e)

-- the list at a number is read again
pub joined_at : {A : Type 0} → (f : ℕ → List A) (w n k : ℕ) (rest : List A) → ((k : ℕ) → k < n → length (f k) ≡ w) → k < n
    → take w (drop (w * k) (joined f n ++ rest)) ≡ f k
unfolding joined
joined_at f w zero k rest all h = absurd (omega (arith, h))
joined_at f w (suc n) k rest all h =
    ap (λ x. take w (drop (w * k) x)) (append_assoc (joined f n) (f n) rest) ∙
    ⊎_elim (λ lt. joined_at f w n k (f n ++ rest) (λ j m. all j (omega (arith, m))) lt)
    (λ ge. (let e : k ≡ n = omega (arith, ge, h) in
    let l = length_joined f w n (λ j m. all j (omega (arith, m))) in
    ap (take w) (drop_at (joined f n) (f n ++ rest) (w * k) (l ∙ ap (λ j. w * j) (sym e))) ∙ take_at (f n) rest w (all n (omega arith))
    ∙ ap f (sym e)))
    (cases_lt k n)

-- lists that are the same at each number are the same joined
pub joined_same : {A : Type 0} → (f g : ℕ → List A) (n : ℕ) → ((k : ℕ) → k < n → f k ≡ g k) → joined f n ≡ joined g n
unfolding joined
joined_same f g zero all = refl
joined_same f g (suc n) all = ap (λ x. x ++ f n) (joined_same f g n (λ k h. all k (omega arith)))
    ∙ ap (λ x. joined g n ++ x) (all n (omega arith))

-- values that are the same at each number are the same list
pub numbered_same : {A : Type 0} → (f g : ℕ → A) (n : ℕ) → ((k : ℕ) → k < n → f k ≡ g k) → numbered_values f n ≡ numbered_values g n
unfolding numbered_values
numbered_same f g zero all = refl
numbered_same f g (suc n) all = ap (λ x. x ++ f n ∷ []) (numbered_same f g n (λ k h. all k (omega arith)))
    ∙ ap (λ x. numbered_values g n ++ x ∷ []) (all n (omega arith))

-- the word that a disk begins with is read off its first block
pub word_in_block : (xs : List ℕ) → word_of (take 512 xs) ≡ word_of xs
unfolding words_of
word_in_block xs = ap (λ ws. slice_index ws 0) (words_of-take 1 512 xs (omega arith))

-- Entries.

-- as many values are read as there are pieces
pub length_pieces : {A : Type 0} → (read : List ℕ → A) (w n : ℕ) (bytes : List ℕ) → length (pieces_of read w n bytes) ≡ n
unfolding pieces_of
length_pieces read w zero bytes = refl
length_pieces read w (suc n) bytes = let i = length_pieces read w n (drop w bytes) in omega (arith, i)

-- each is read from its piece
pub pieces_at : {A : Type 0} → (read : List ℕ → A) (w n : ℕ) (bytes : List ℕ) (k : ℕ) (d : A) → k < n
    → get_or (pieces_of read w n bytes) k d ≡ read (drop (w * k) bytes)
unfolding pieces_of
pieces_at read w zero bytes k d h = absurd (omega (arith, h))
pieces_at read w (suc n) bytes zero d h = ap (λ j. read (drop j bytes)) (let e : 0 ≡ w * 0 = omega arith in e)
pieces_at read w (suc n) bytes (suc k) d h =
    pieces_at read w n (drop w bytes) k d (omega arith) ∙ ap read (drop-drop (w * k) w bytes
    ∙ ap (λ j. drop j bytes) (let e : w + w * k ≡ w * suc k = grind arith in e))

-- a name has its whole width in the block
pub name_length : (size at : ℕ) (block : List ℕ) → length block ≡ 512 → 20 + at + size ≤ 512
    → length (take size (drop 8 (drop at (drop 12 block)))) ≡ size
name_length size at block l h =
    let a = length-drop 12 block in let b = length-drop at (drop 12 block) in let c = length-drop 8 (drop at (drop 12 block)) in
    let t = length-take size (drop 8 (drop at (drop 12 block))) in omega (arith, a, b, c, t, l, h)

-- a block has 512 bytes
pub length_block : (image : List ℕ) (n b : ℕ) → length image ≡ 512 * n → b < n → length (block_in image b) ≡ 512
length_block image n b l h = let t = length-take 512 (drop (512 * b) image) in let d = length-drop (512 * b) image in
    omega (arith, t, d, l, h)

-- what holds of each element of two lists holds of each of both
pub each_append : {A : Type 0} → (P : A → Type 0) (xs ys : List A) (d : A) → ((k : ℕ) → k < length xs → P (get_or xs k d))
    → ((k : ℕ) → k < length ys → P (get_or ys k d))
    → (k : ℕ) → k < length (xs ++ ys) → P (get_or (xs ++ ys) k d)
each_append P [] ys d p q k h = q k h
each_append P (x ∷ xs) ys d p q zero h = p 0 (omega arith)
each_append P (x ∷ xs) ys d p q (suc k) h = each_append P xs ys d (λ j m. p (suc j) (omega (arith, m))) q k (omega (arith, h))

-- a directory block has 13 entries, each with a name of 28 bytes
pub block_wide : (image : List ℕ) (n d : ℕ) → length image ≡ 512 * n → d < n
    → (length (dir_of (block_in image d)).entries ≡ 13) × ((k : ℕ) → k < length (dir_of (block_in image d)).entries
    → length (get_or (dir_of (block_in image d)).entries k void_entry).name ≡ 28)
unfolding dir_of
block_wide image n d l h =
    let b = block_in image d in let bl = length_block image n d l h in
    let len = length_pieces entry_of 36 13 (drop 12 b) in (
      len,
      λ k lt. ap (λ (e : Entry). length e.name) (pieces_at entry_of 36 13 (drop 12 b) k void_entry (omega (arith, lt, len)))
          ∙ name_length 28 (36 * k) b bl (omega (arith, lt, len)),
    )

-- what holds of each element of the lists holds of each element of them joined
joined_each : (P : Entry → Type 0) (f : ℕ → List Entry) (n : ℕ)
    → ((d : ℕ) → d < n → (k : ℕ) → k < length (f d) → P (get_or (f d) k void_entry)) → (k : ℕ) → k < length (joined f n)
    → P (get_or (joined f n) k void_entry)
unfolding joined
joined_each P f zero all k h = absurd (omega (arith, h))
joined_each P f (suc n) all k h = each_append P (joined f n) (f n) void_entry (joined_each P f n (λ d m.
    all d (omega (arith, m)))) (all n (omega arith)) k h

-- a disk of at least six blocks has 78 entries, each with a name of 28 bytes
pub entries_wide : (disk : List ℕ) (n : ℕ) → length disk ≡ 512 * n → 6 ≤ n
    → (length (entries disk) ≡ 78) × ((k : ℕ) → k < length (entries disk) → length (entry_at disk k).name ≡ 28)
unfolding entries
entries_wide disk n l h =
    let f : ℕ → List Entry = λ d. (dir_of (block_in disk d)).entries in
    let P : Entry → Type 0 = λ e. length e.name ≡ 28 in (
      length_joined f 13 6 (λ d m. (block_wide disk n d l (omega (arith, m, h))).0),
      joined_each P f 6 (λ d m.
          (block_wide disk n d l (omega (arith, m, h))).1),
    )

-- an element after those that are dropped
get_drop : (xs : List Entry) (a k : ℕ) (z : Entry) → slice_index_or (drop a xs) k z ≡ slice_index_or xs (a + k) z
get_drop xs zero k z = ap (λ n. slice_index_or xs n z) (let e : k ≡ 0 + k = omega arith in e)
get_drop [] (suc a) k z = refl
get_drop (x ∷ xs) (suc a) k z = get_drop xs a k z ∙ ap (λ n. slice_index_or (x ∷ xs) n z) (let e : suc (a + k) ≡ suc a + k = omega arith in
    e)

-- an element among those that are taken
get_take : (xs : List Entry) (n k : ℕ) (z : Entry) → k < n → slice_index_or (take n xs) k z ≡ slice_index_or xs k z
get_take xs zero k z h = absurd (omega (arith, h))
get_take [] (suc n) k z h = refl
get_take (x ∷ xs) (suc n) zero z h = refl
get_take (x ∷ xs) (suc n) (suc k) z h = get_take xs n k z (omega (arith, h))

-- the entries of a directory block are those of the directory
pub entry_of_block : (base : List ℕ) (n d k : ℕ) → length base ≡ 512 * n → 6 ≤ n → d < 6 → k < 13
    → slice_index_or (dir_of (block_in base d)).entries k void_entry ≡ entry_at base (13 * d + k)
unfolding entries
entry_of_block base n d k l six h j =
    let f : ℕ → List Entry = λ m. (dir_of (block_in base m)).entries in
    let at : take 13 (drop (13 * d) (joined f 6)) ≡ f d = ap (λ x. take 13 (drop (13 * d) x)) (sym (append-nil (joined f 6)))
    ∙ joined_at f 13 6 d [] (λ m q. (block_wide base n m l (omega (arith, q, six))).0) h in
    ap (λ es. slice_index_or es k void_entry) (sym at) ∙ get_take (drop (13 * d) (joined f 6)) 13 k void_entry j
    ∙ get_drop (joined f 6) (13 * d) k void_entry

-- A disk of version 2.

-- its geometry
pub geometry_is : (disk : List ℕ) → is_version_2 disk ≡ true → geometry_of disk ≡ disk_geometry (length disk / 512)
geometry_is disk v = ap (λ b. let g : Geometry = record { dirs = cond b 6 1; blocks = length disk / 512 } in g) v

-- its entries
pub entries_are : (disk : List ℕ) → is_version_2 disk ≡ true → directory_entries (geometry_of disk) disk ≡ entries disk
unfolding entries
entries_are disk v = ap (λ g. directory_entries g disk) (geometry_is disk v)
