-- The fields of a disk of which a data block or an index block is written.
use Rattle.std.proofs.Common.{◌≡◌, ◌≢◌, ℕ, suc, ◌+◌, ◌-◌, ◌*◌, ◌/◌, ◌%◌, ◌<◌, ◌≤◌, List, [], ◌∷◌, length, take, drop, refl, sym, ap, ◌∙◌, arith, slice_index_or, slice_set, get_or-set_same, get_or-set_other, length-set, ⊎_elim}
use Rattle.std.proofs.lemmas.List.{drop-drop, drop-take, take-take}
use Rattle.std.proofs.lemmas.Bool.{cases_eq}
use Rattle.lfs_format.specs.declared.Index.{Index}
use Rattle.lfs_format.specs.Words.{word_of, words_of}
use Rattle.lfs_format.specs.Indexes.{index_at, index_of_words, IsIndexPut}
use Rattle.lfs_format.specs.Directory.{dir_of}
use Rattle.lfs_format.proofs.Words.{words_of-take}
use Rattle.lfs_check.specs.Geometries.{index_count, first_data}
use Rattle.lfs_check.specs.Rules.{block_in}
use Rattle.lfs_check.specs.Fields.{numbered_values, index_in_bytes, link_in_bytes}
use Rattle.lfs_check.proofs.Numbered.{numbered-at, length_numbered}
use Rattle.lfs_check.specs.Disks.{disk_geometry, block_put, entries}
use Rattle.lfs_check.proofs.BlockPuts.{put_same, put_other}
use Rattle.lfs_check.proofs.Directories.{joined_same, numbered_same, word_in_block}

-- an index block is read off its disk block
pub index_read : (n : ℕ) (disk : List ℕ) (i : ℕ) → index_in_bytes (disk_geometry n) disk i ≡ index_at (i % 7) (block_in disk (6 + i / 7))
index_read n disk i =
    let b = 6 + i / 7 in let k = i % 7 in
    let cut : take 72 (drop (72 * k) (block_in disk b)) ≡ take 72 (drop (512 * b + 72 * k) disk) =
    ap (λ m. take 72 (drop (72 * k) (take m (drop (512 * b) disk)))) (let e : 512 ≡ 72 * k + (512 - 72 * k) = omega arith in e)
    ∙ ap (take 72) (drop-take (72 * k) (512 - 72 * k) (drop (512 * b) disk))
    ∙ take-take 72 (512 - 72 * k) (drop (72 * k) (drop (512 * b) disk)) (omega arith)
    ∙ ap (take 72) (drop-drop (72 * k) (512 * b) disk) in
    ap index_of_words (sym (words_of-take 18 72 (drop (512 * b + 72 * k) disk) (omega arith)) ∙ ap (words_of 18) (sym cut)
    ∙ words_of-take 18 72 (drop (72 * k) (block_in disk b)) (omega arith))

-- a link is read off its disk block
pub link_read : (disk : List ℕ) (b : ℕ) → link_in_bytes disk b ≡ word_of (block_in disk b)
link_read disk b = sym (word_in_block (drop (512 * b) disk))

-- numbered values of which one changes
numbered_put : {A : Type 0} → (f g : ℕ → A) (n i : ℕ) (x : A) → i < n → g i ≡ x → ((k : ℕ) → k < n → k ≢ i → g k ≡ f k)
    → numbered_values g n ≡ slice_set (numbered_values f n) i x
numbered_put {A} f g n i x h here there =
    let a = length_numbered g n in let b = length_numbered f n in
    same (numbered_values g n) (slice_set (numbered_values f n) i x) x (a ∙ sym (length-set (numbered_values f n) i x ∙ b)) (λ k l. (
    ⊎_elim
    (λ q. ap (λ m. slice_index_or (numbered_values g n) m x) q ∙ numbered-at g n i x h ∙ here
    ∙ sym (ap (λ m. slice_index_or (slice_set (numbered_values f n) i x) m x) q
    ∙ get_or-set_same (numbered_values f n) i x x (omega (arith, h, b))))
    (λ q. numbered-at g n k x (omega (arith, l, a)) ∙ there k (omega (arith, l, a)) q
    ∙ sym (get_or-set_other (numbered_values f n) i k x x q ∙ numbered-at f n k x (omega (arith, l, a))))
    (cases_eq k i)))
  where
    same : {A : Type 0} → (xs ys : List A) (z : A) → length xs ≡ length ys
        → ((k : ℕ) → k < length xs → slice_index_or xs k z ≡ slice_index_or ys k z) → xs ≡ ys
    same [] [] z l e = refl
    same [] (y ∷ ys) z l e = absurd (omega (arith, l))
    same (x ∷ xs) [] z l e = absurd (omega (arith, l))
    same (x ∷ xs) (y ∷ ys) z l e = ap (λ h. h ∷ xs) (e 0 (omega arith))
        ∙ ap (λ t. y ∷ t) (same xs ys z (omega (arith, l)) (λ k h. e (suc k) (omega (arith, h))))

-- the directory stays if a later block is written
pub entries_kept : (disk : List ℕ) (n b : ℕ) (block : List ℕ) → length disk ≡ 512 * n → b < n → length block ≡ 512 → 6 ≤ b
    → entries (block_put disk b block) ≡ entries disk
unfolding entries
entries_kept disk n b block l h w low =
    joined_same (λ d. (dir_of (block_in (block_put disk b block) d)).entries) (λ d. (dir_of (block_in disk d)).entries) 6
    (λ d k. ap (λ x. (dir_of x).entries) (put_other disk b n block d l h w (λ e. omega (arith, e, k, low))))

-- the links: one of them changes
pub links_put : (disk : List ℕ) (n b : ℕ) (block : List ℕ) → length disk ≡ 512 * n → b < n → length block ≡ 512
    → numbered_values (link_in_bytes (block_put disk b block)) n ≡ slice_set (numbered_values (link_in_bytes disk) n) b (word_of block)
links_put disk n b block l h w =
    numbered_put (link_in_bytes disk) (link_in_bytes (block_put disk b block)) n b (word_of block) h
    (link_read (block_put disk b block) b ∙ ap word_of (put_same disk b n block l h w))
    (λ k m ne. link_read (block_put disk b block) k ∙ ap word_of (put_other disk b n block k l h w ne) ∙ sym (link_read disk k))

-- the index blocks: those of other disk blocks stay
pub indexes_kept : (disk : List ℕ) (n b : ℕ) (block : List ℕ) → length disk ≡ 512 * n → b < n → length block ≡ 512
    → first_data (disk_geometry n) ≤ b
    → numbered_values (index_in_bytes (disk_geometry n) (block_put disk b block)) (index_count (disk_geometry n)) ≡ numbered_values
    (index_in_bytes (disk_geometry n) disk) (index_count (disk_geometry n))
indexes_kept disk n b block l h w low =
    numbered_same (index_in_bytes (disk_geometry n) (block_put disk b block)) (index_in_bytes (disk_geometry n) disk)
    (index_count (disk_geometry n))
    (λ i k. index_read n (block_put disk b block) i ∙ ap (index_at (i % 7)) (put_other disk b n block (6 + i / 7) l h w (λ e.
    omega (arith, e, k, low))) ∙ sym (index_read n disk i))

-- the index blocks: one of a disk block is written
pub indexes_put : (disk : List ℕ) (n i : ℕ) (index : Index) (block : List ℕ) → length disk ≡ 512 * n → 6 + i / 7 < n
    → i < index_count (disk_geometry n) → IsIndexPut (block_in disk (6 + i / 7)) (i % 7) index block
    → numbered_values (index_in_bytes (disk_geometry n) (block_put disk (6 + i / 7) block)) (index_count (disk_geometry n)) ≡ slice_set
    (numbered_values (index_in_bytes (disk_geometry n) disk) (index_count (disk_geometry n))) i index
indexes_put disk n i index block l h below q =
    let b = 6 + i / 7 in let made = block_put disk b block in
    let same : block_in made b ≡ block = put_same disk b n block l h q.long in
    numbered_put (index_in_bytes (disk_geometry n) disk) (index_in_bytes (disk_geometry n) made)
    (index_count (disk_geometry n)) i index below
    (index_read n made i ∙ ap (index_at (i % 7)) same ∙ q.here)
    (λ k m ne. index_read n made k ∙
    ⊎_elim
    (λ (e : 6 + k / 7 ≡ b). ap (λ x. index_at (k % 7) (block_in made x)) e ∙ ap (index_at (k % 7)) same
    ∙ q.there (k % 7) (omega arith) (λ r. ne (omega (arith, e, r))) ∙ ap (λ x. index_at (k % 7) (block_in disk x)) (sym e))
    (λ (e : 6 + k / 7 ≢ b). ap (index_at (k % 7)) (put_other disk b n block (6 + k / 7) l h q.long e))
    (cases_eq (6 + k / 7) b)
    ∙ sym (index_read n disk k))
