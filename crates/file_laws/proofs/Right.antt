-- The bytes of the directory outside its entries stay when it is written.
use Rattle.std.proofs.Common.{◌≡◌, ◌≢◌, ℕ, ◌*◌, ◌/◌, ◌<◌, Bool, true, false, cond, not, nat_eq, List, [], ◌∷◌, length, take, drop, replicate, refl, sym, ap, ◌∙◌, subst, arith, slice_index, length-take, length-drop, ⊎_elim, None, count_by}
use Rattle.std.proofs.lemmas.Bool.{cases_eq, and_parts, not-false}
use Rattle.std.proofs.lemmas.Bool.Decides.{nat_tests}
use Rattle.std.proofs.lemmas.Slice.Eq.{bytes_eq-Decides}
use Rattle.lfs_format.specs.declared.Entry.{Entry}
use Rattle.lfs_format.specs.Words.{words_of, word_bytes}
use Rattle.lfs_format.specs.Directory.{dir_of, dir_ending, dir_words}
use Rattle.lfs_format.proofs.Words.{words_of-take}
use Rattle.lfs_check.specs.declared.geometry.Geometry.{Geometry}
use Rattle.lfs_check.specs.declared.fields.Header.{Header}
use Rattle.lfs_check.specs.Rules.{entry_is_used, are_zeros, rule_2, block_in, begins_right, ends_right, is_dir_block}
use Rattle.lfs_check.specs.Laid.{Places}
use Rattle.lfs_check.specs.Fields.{geometry_of, fields_of, directory_entries}
use Rattle.lfs_check.proofs.Nones.{first_from-each}
use Rattle.lfs_check.proofs.Images.{image_counts}
use Rattle.lfs_check.specs.Disks.{block_put, disk_geometry, IsDirectory, IsRight}
use Rattle.lfs_check.proofs.Directories.{geometry_is}
use Rattle.lfs_check.proofs.BlockPuts.{put_same, put_other}
use Rattle.lfs_check.proofs.Right.{right_clean as right_no_fault}
use Rattle.lfs_layout.specs.Images.{IsCleanImage}
use Rattle.file_laws.specs.Rewriting.{IsRewriting, rewritten}
use Rattle.file_laws.proofs.Rewritten.{rewritten_long}

-- the directory of a clean disk
pub base_directory : (base : List ℕ) → IsCleanImage base → IsDirectory base
base_directory base c =
    let g = geometry_of base in let h = (fields_of g base).header in let es = directory_entries g base in
    let six : g ≡ disk_geometry (length base / 512) = geometry_is base c.version in
    let P : Geometry → Type 0 = λ x. rule_2 x h es base ≡ None in
    let none = subst P six (image_counts base c.faultless) in
    let each : (d : ℕ) → d < 6 → is_dir_block (disk_geometry (length base / 512)) h es base d ≡ true = λ d l.
    not-false (is_dir_block (disk_geometry (length base / 512)) h es base d) (first_from-each (λ d.
    not (is_dir_block (disk_geometry (length base / 512)) h es base d)) 0 6 none d (omega arith) (omega (arith, l))) in
    let two : (d : ℕ) → d < 6 → (begins_right h es (block_in base d) d ≡ true)
    × (ends_right (disk_geometry (length base / 512)) (block_in base d) ≡ true) = λ d l.
    and_parts (begins_right h es (block_in base d) d) (ends_right (disk_geometry (length base / 512)) (block_in base d)) (each d l) in
    record {
      begins = λ d p l. (let t : nat_eq d 0 ≡ false = grind (arith, nat_tests) in
          sym (ap (λ v. cond v (nat_eq (count_by entry_is_used es) h.files) (are_zeros (take 12 (block_in base d)))) t) ∙ (two d l).0);
      ends = λ d l. (bytes_eq-Decides (drop 480 (block_in base d)) dir_ending).0 (two d l).1;
    }

-- bytes that are all zeros
pub zeros_are : (xs : List ℕ) → are_zeros xs ≡ true → xs ≡ replicate (length xs) 0
zeros_are [] e = refl
zeros_are (x ∷ xs) e =
    let p = and_parts (nat_eq x 0) (are_zeros xs) e in let t = p.0 in
    let z : x ≡ 0 = grind (arith, nat_tests) in
    ap (λ k. k ∷ xs) z ∙ ap (λ l. 0 ∷ l) (zeros_are xs p.1)

-- words of zeros
zero_words : words_of 3 (replicate 12 0) ≡ 0 ∷ 0 ∷ 0 ∷ []
unfolding words_of
zero_words = refl

-- and their bytes
zero_bytes : are_zeros (word_bytes (0 ∷ 0 ∷ 0 ∷ [])) ≡ true
unfolding word_bytes
zero_bytes = refl

-- a block that begins with zeros has no counts
dir_zero : (block : List ℕ) → length block ≡ 512 → are_zeros (take 12 block) ≡ true → dir_words (dir_of block) ≡ 0 ∷ 0 ∷ 0 ∷ []
unfolding dir_of
dir_zero block l z =
    let short : length (take 12 block) ≡ 12 = (let t = length-take 12 block in omega (arith, t, l)) in
    let ws : words_of 3 block ≡ 0 ∷ 0 ∷ 0 ∷ [] = sym (words_of-take 3 12 block (omega arith))
    ∙ ap (words_of 3) (zeros_are (take 12 block) z ∙ ap (λ k. replicate k 0) short) ∙ zero_words in
    ap (λ w. slice_index w 0 ∷ slice_index w 1 ∷ slice_index w 2 ∷ []) ws

-- the directory is written as it must be outside its entries
pub rewritten_directory : (disk : List ℕ) (n slot : ℕ) (entry : Entry) (header : Header) (eb hb : List ℕ) → IsDirectory disk
    → IsRewriting disk n slot entry header eb hb → IsDirectory (rewritten disk slot eb hb)
rewritten_directory disk n slot entry header eb hb i r =
    let b = slot / 13 in let mid = block_put disk b eb in
    let long = (rewritten_long disk n slot entry header eb hb r).0 in let room = r.room in let s = r.slot_is in
    let block_long : length (block_in disk b) ≡ 512 = (let l = r.long in let t = length-take 512 (drop (512 * b) disk) in
    let d = length-drop (512 * b) disk in omega (arith, l, t, d, room, s)) in
    let at : (d : ℕ) → d ≢ 0 → block_in (rewritten disk slot eb hb) d ≡ block_in mid d = λ d ne.
    put_other mid 0 n hb d long (omega (arith, room)) r.header_block.long ne in
    let same : block_in mid b ≡ eb = put_same disk b n eb r.long (omega (arith, room, s)) r.entry_block.long in
    let other : (d : ℕ) → d ≢ b → block_in mid d ≡ block_in disk d = λ d ne.
    put_other disk b n eb d r.long (omega (arith, room, s)) r.entry_block.long ne in
    record {
      begins = λ d p l. (let Z : List ℕ → Bool = λ x. are_zeros (take 12 x) in
          ap Z (at d (λ e. omega (arith, e, p))) ∙
          ⊎_elim
          (λ q. (let mine : are_zeros (take 12 (block_in disk b)) ≡ true = i.begins b (omega (arith, q, p)) (omega (arith, s)) in
          ap (λ m. Z (block_in mid m)) q ∙ ap Z same ∙ ap are_zeros r.entry_block.begins
          ∙ ap (λ w. are_zeros (word_bytes w)) (dir_zero (block_in disk b) block_long mine) ∙ zero_bytes))
          (λ q. ap Z (other d q) ∙ i.begins d p l)
          (cases_eq d b));
      ends = λ d l. ⊎_elim
          (λ q. ap (λ m. drop 480 (block_in (rewritten disk slot eb hb) m)) q
          ∙ ap (drop 480) (put_same mid 0 n hb long (omega (arith, room)) r.header_block.long) ∙ r.header_block.ends)
          (λ q. ap (drop 480) (at d q) ∙ ⊎_elim
          (λ p. ap (λ m. drop 480 (block_in mid m)) p ∙ ap (drop 480) same ∙ r.entry_block.ends)
          (λ p. ap (drop 480) (other d p) ∙ i.ends d l)
          (cases_eq d b))
          (cases_eq d 0);
    }

-- a disk that is right is clean
pub right_clean : (made : List ℕ) (n : ℕ) (p : Places) → IsRight made n p → IsCleanImage made
right_clean made n p r = let two = right_no_fault made n p r in record { faultless = two.0; version = two.1 }
