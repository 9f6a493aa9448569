-- The parts of an image that is made: the entries, the index blocks and the data blocks that it is made of.
use Rattle.std.proofs.Common.{◌≡◌, ℕ, zero, suc, ◌+◌, ◌-◌, ◌*◌, ◌^◌, ◌<◌, ◌≤◌, true, false, cond, nat_lt, List, [], ◌∷◌, ◌++◌, length, get_or, slice_index_or, take, drop, map, replicate, refl, sym, ap, ◌∙◌, subst, arith, length-append, length-take, ⊎_elim}
use Rattle.lfs_check.proofs.Empties.{length-upwards, upwards-at}
use Rattle.std.proofs.lemmas.List.{length-replicate, length-map, get_or_past}
use Rattle.std.proofs.lemmas.Bool.{cases_lt}
use Rattle.std.proofs.lemmas.Bool.Decides.{nat_tests}
use Rattle.std.specs.List.{flat_map}
use Rattle.lfs_format.specs.declared.Entry.{Entry}
use Rattle.lfs_format.specs.declared.Index.{Index}
use Rattle.lfs_format.specs.Directory.{EntryFits, void_entry}
use Rattle.lfs_check.specs.declared.geometry.Geometry.{Geometry}
use Rattle.lfs_check.specs.Geometries.{index_count, first_data}
use Rattle.lfs_check.specs.Meets.{null}
use Rattle.lfs_check.specs.Laid.{no_index}
use Rattle.lfs_check.specs.Fields.{numbered_values}
use Rattle.lfs_check.specs.Empty.{upwards, next_upwards}
use Rattle.lfs_check.specs.Built.{chain_head}
use Rattle.lfs_check.proofs.Numbered.{length_numbered, numbered-at}
use Rattle.lfs_check.proofs.Directories.{each_append}
use Rattle.lfs_layout.specs.Files.{File, total_for}
use Rattle.lfs_layout.specs.Made.{indexes_needed, data_needed, entries_for, no_entry, all_entries, index_end, file_index, indexes_for, free_index, all_indexes, padded, no_file}
use Rattle.lfs_layout.proofs.Regions.{AllFit, fit_append, fit_take, fit_drop, fit_replicate, IndexFits}

-- numbers that fit in a word
pub head_fits : (low high : ℕ) → high < 2 ^ 32 → chain_head low high < 2 ^ 32
head_fits low high h = ⊎_elim
    (λ (lt : low < high). (let t : nat_lt low high ≡ true = grind (arith, nat_tests) in let e : chain_head low high ≡ low = ap (λ b. cond b low null) t in omega (arith, e, lt, h)))
    (λ (ge : high ≤ low). (let t : nat_lt low high ≡ false = grind (arith, nat_tests) in let e : chain_head low high ≡ null = ap (λ b. cond b low null) t in omega (arith, e)))
    (cases_lt low high)

-- the next number upwards fits a word
pub next_fits : (end n : ℕ) → end < 2 ^ 32 → next_upwards end n < 2 ^ 32
next_fits end n h = ⊎_elim
    (λ (lt : suc n < end). (let t : nat_lt (suc n) end ≡ true = grind (arith, nat_tests) in let e : next_upwards end n ≡ suc n = ap (λ b. cond b (suc n) null) t in omega (arith, e, lt, h)))
    (λ (ge : end ≤ suc n). (let t : nat_lt (suc n) end ≡ false = grind (arith, nat_tests) in let e : next_upwards end n ≡ null = ap (λ b. cond b (suc n) null) t in omega (arith, e)))
    (cases_lt (suc n) end)

-- numbers upwards fit words
upwards_fit : (low many d k : ℕ) → low + many < 2 ^ 32 → d < 2 ^ 32 → get_or (upwards low many) k d < 2 ^ 32
upwards_fit low many d k h e = ⊎_elim
    (λ lt. (let a = upwards-at low many k d lt in omega (arith, a, h, lt)))
    (λ ge. (let a = get_or_past (upwards low many) k d (let l = length-upwards low many in omega (arith, l, ge)) in omega (arith, a, e)))
    (cases_lt k many)

-- the entries of files
pub length_entries_for : (a : ℕ) (files : List File) → length (entries_for a files) ≡ length files
length_entries_for a [] = refl
length_entries_for a (f ∷ files) = let i = length_entries_for (a + indexes_needed f) files in omega (arith, i)

-- there are 78 entries
pub length_all_entries : (files : List File) → length files ≤ 78 → length (all_entries files) ≡ 78
length_all_entries files h =
    let l = length_entries_for 0 files in let r = length-replicate (78 - length files) no_entry in
    let a = length-append (entries_for 0 files) (replicate (78 - length files) no_entry) in omega (arith, l, r, a, h)

-- the size of a file with room fits a word
size_fits : (f : File) (most : ℕ) → data_needed f ≤ most → most ≤ 65542 → length f.bytes < 2 ^ 32
size_fits f most h k = omega (arith, h, k)

-- the entries of files with room fit their bytes
entries_for_fit : (a : ℕ) (files : List File) → total_for 512 files ≤ 65542 → a + total_for 8192 files ≤ 65542 → ((k : ℕ) → k < length files → length (get_or files k no_file).name ≡ 28)
    → (k : ℕ) → k < length (entries_for a files) → EntryFits (get_or (entries_for a files) k void_entry)
entries_for_fit a [] p q wide k h = absurd (omega (arith, h))
entries_for_fit a (f ∷ files) p q wide zero h = record {
  size = size_fits f 65542 (omega (arith, p)) (omega arith);
  first = head_fits a (a + indexes_needed f) (omega (arith, q));
  name = wide 0 (omega arith);
}
entries_for_fit a (f ∷ files) p q wide (suc k) h =
    entries_for_fit (a + indexes_needed f) files (omega (arith, p)) (omega (arith, q)) (λ j m. wide (suc j) (omega (arith, m))) k (omega (arith, h))

-- an entry without a file fits its bytes
no_entry_fits : EntryFits no_entry
no_entry_fits = record { size = omega arith; first = omega arith; name = length-replicate {A = ℕ} 28 0 }

-- so do several
none_fit : (n k : ℕ) → k < length (replicate n no_entry) → EntryFits (get_or (replicate n no_entry) k void_entry)
none_fit zero k h = absurd (omega (arith, h))
none_fit (suc n) zero h = no_entry_fits
none_fit (suc n) (suc k) h = none_fit n k (omega (arith, h))

-- all 78 entries fit their bytes
pub all_entries_fit : (files : List File) → total_for 512 files ≤ 65542 → total_for 8192 files ≤ 65542 → ((k : ℕ) → k < length files → length (get_or files k no_file).name ≡ 28)
    → (k : ℕ) → k < length (all_entries files) → EntryFits (get_or (all_entries files) k void_entry)
all_entries_fit files p q wide =
    let P : Entry → Type 0 = λ e. EntryFits e in
    each_append P (entries_for 0 files) (replicate (78 - length files) no_entry) void_entry (entries_for_fit 0 files p (omega (arith, q)) wide) (none_fit (78 - length files))

-- the index blocks of files
pub length_indexes_for : (a b : ℕ) (files : List File) → length (indexes_for a b files) ≡ total_for 8192 files
length_indexes_for a b [] = refl
length_indexes_for a b (f ∷ files) =
    let i = length_indexes_for (a + indexes_needed f) (b + data_needed f) files in let n = length_numbered (file_index a b f) (indexes_needed f) in
    let l = length-append (numbered_values (file_index a b f) (indexes_needed f)) (indexes_for (a + indexes_needed f) (b + data_needed f) files) in omega (arith, i, n, l)

-- there are as many index blocks as the disk has
pub length_all_indexes : (g : Geometry) (files : List File) → total_for 8192 files ≤ index_count g → length (all_indexes g files) ≡ index_count g
length_all_indexes g files h =
    let rest = upwards (index_end files) (index_count g - index_end files) in
    let i = length_indexes_for 0 (first_data g) files in let m = length-map rest (free_index g) in let u = length-upwards (index_end files) (index_count g - index_end files) in
    let l = length-append (indexes_for 0 (first_data g) files) (map (free_index g) rest) in omega (arith, i, m, u, l, h)

-- an index block whose three parts fit words does
words_fit : (next offset : ℕ) (blocks : List ℕ) → next < 2 ^ 32 → offset < 2 ^ 32 → AllFit blocks → AllFit (next ∷ offset ∷ blocks)
words_fit next offset blocks p q r zero = p
words_fit next offset blocks p q r (suc zero) = q
words_fit next offset blocks p q r (suc (suc k)) = r k

-- an index block of a file with room fits its bytes
file_index_fits : (a b : ℕ) (f : File) (j : ℕ) → a + indexes_needed f ≤ 65542 → b + data_needed f ≤ 65542 → j < indexes_needed f → IndexFits (file_index a b f j)
file_index_fits a b f j p q h =
    let chain = upwards a (indexes_needed f) in let blocks = upwards b (data_needed f) in
    let row = drop (16 * j) blocks ++ replicate 16 null in
    record {
      words = words_fit (slice_index_or chain (suc j) null) (8192 * j) (take 16 row)
          (upwards_fit a (indexes_needed f) null (suc j) (omega (arith, p)) (omega arith)) (omega (arith, h, p))
          (fit_take 16 row (fit_append (drop (16 * j) blocks) (replicate 16 null)
          (fit_drop (16 * j) blocks (λ k. upwards_fit b (data_needed f) 0 k (omega (arith, q)) (omega arith))) (fit_replicate 16 null (omega arith))));
      wide = (let t = length-take 16 row in let l = length-append (drop (16 * j) blocks) (replicate 16 null) in let r = length-replicate {A = ℕ} 16 null in omega (arith, t, l, r));
    }

-- the index blocks of files with room fit their bytes
indexes_for_fit : (a b : ℕ) (files : List File) → a + total_for 8192 files ≤ 65542 → b + total_for 512 files ≤ 65542
    → (k : ℕ) → k < length (indexes_for a b files) → IndexFits (get_or (indexes_for a b files) k no_index)
indexes_for_fit a b [] p q k h = absurd (omega (arith, h))
indexes_for_fit a b (f ∷ files) p q k h =
    let P : Index → Type 0 = λ i. IndexFits i in
    each_append P (numbered_values (file_index a b f) (indexes_needed f)) (indexes_for (a + indexes_needed f) (b + data_needed f) files) no_index
    (λ k h. (let l = length_numbered (file_index a b f) (indexes_needed f) in let lt : k < indexes_needed f = omega (arith, l, h) in
    subst P (sym (numbered-at (file_index a b f) (indexes_needed f) k no_index lt)) (file_index_fits a b f k (omega (arith, p)) (omega (arith, q)) lt)))
    (indexes_for_fit (a + indexes_needed f) (b + data_needed f) files (omega (arith, p)) (omega (arith, q))) k h

-- a free index block fits its bytes
free_index_fits : (g : Geometry) (i : ℕ) → index_count g ≤ 65542 → IndexFits (free_index g i)
free_index_fits g i h = record {
  words = words_fit (next_upwards (index_count g) i) 0 (replicate 16 0) (next_fits (index_count g) i (omega (arith, h))) (omega arith) (fit_replicate 16 0 (omega arith));
  wide = length-replicate {A = ℕ} 16 0;
}

-- the free ones at their numbers
pub free_index_at : (g : Geometry) (low many k : ℕ) → k < many → get_or (map (free_index g) (upwards low many)) k no_index ≡ free_index g (low + k)
free_index_at g low zero k h = absurd (omega (arith, h))
free_index_at g low (suc many) zero h = ap (free_index g) (let e : low ≡ low + 0 = omega arith in e)
free_index_at g low (suc many) (suc k) h = free_index_at g (suc low) many k (omega arith) ∙ ap (free_index g) (let e : suc low + k ≡ low + suc k = omega arith in e)

-- all index blocks fit their bytes
pub all_indexes_fit : (g : Geometry) (files : List File) → index_count g ≤ 65542 → total_for 8192 files ≤ index_count g → first_data g + total_for 512 files ≤ 65542
    → (k : ℕ) → k < length (all_indexes g files) → IndexFits (get_or (all_indexes g files) k no_index)
all_indexes_fit g files c p q =
    let P : Index → Type 0 = λ i. IndexFits i in
    let many = index_count g - index_end files in
    each_append P (indexes_for 0 (first_data g) files) (map (free_index g) (upwards (index_end files) many)) no_index
    (indexes_for_fit 0 (first_data g) files (omega (arith, c, p)) (omega (arith, q)))
    (λ k h. (let m = length-map (upwards (index_end files) many) (free_index g) in let u = length-upwards (index_end files) many in
    subst P (sym (free_index_at g (index_end files) many k (omega (arith, m, u, h)))) (free_index_fits g (index_end files + k) c)))

-- the data blocks of files
pub length_padded : (f : File) → length (padded f) ≡ 512 * data_needed f
length_padded f =
    let r = length-replicate {A = ℕ} (512 * data_needed f - length f.bytes) 0 in let a = length-append f.bytes (replicate (512 * data_needed f - length f.bytes) 0) in
    omega (arith, r, a)

-- the data blocks of files have 512 bytes each
pub length_files_data : (files : List File) → length (flat_map padded files) ≡ 512 * total_for 512 files
length_files_data [] = refl
length_files_data (f ∷ files) =
    let i = length_files_data files in let p = length_padded f in let a = length-append (padded f) (flat_map padded files) in
    omega (arith, i, p, a)
