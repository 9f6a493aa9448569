-- The fields of an image that is made: read off its bytes, they are those that it was made of.
use Rattle.std.proofs.Common.{◌≡◌, ℕ, zero, suc, ◌+◌, ◌-◌, ◌*◌, ◌/◌, ◌%◌, ◌^◌, ◌<◌, ◌≤◌, false, cond, nat_eq, List, ◌++◌, length, get_or, take, drop, replicate, sym, ap, ◌∙◌, subst, arith, length-append, length-take, length-drop}
use Rattle.std.proofs.lemmas.List.{take_all, drop-drop, drop-take, length-replicate, same_lists, get_or_default, get_or-take, get_or-drop}
use Rattle.std.proofs.lemmas.Bool.Decides.{nat_tests}
use Rattle.std.specs.List.{flat_map}
use Rattle.byteorder.specs.Endian.{little_bytes}
use Rattle.lfs_format.specs.declared.Entry.{Entry}
use Rattle.lfs_format.specs.declared.Index.{Index}
use Rattle.lfs_format.specs.declared.Dir.{Dir}
use Rattle.lfs_format.specs.Words.{word_of, words_of}
use Rattle.lfs_format.specs.Indexes.{index_of, index_of_words, index_bytes}
use Rattle.lfs_format.specs.Directory.{dir_of, dir_bytes, dir_ending, EntryFits, void_entry}
use Rattle.lfs_format.proofs.Words.{words_of-take, length-little, word_of-bytes}
use Rattle.lfs_format.proofs.Entries.{dir_of-bytes}
use Rattle.lfs_format.proofs.Joins.{drop_past}
use Rattle.lfs_format.proofs.DirBlocks.{length_dir_bytes, dir_bytes_end}
use Rattle.lfs_check.specs.declared.geometry.Geometry.{Geometry}
use Rattle.lfs_check.specs.Geometries.{index_count, index_disks, first_data}
use Rattle.lfs_check.specs.Rules.{block_in}
use Rattle.lfs_check.specs.Laid.{no_index}
use Rattle.lfs_check.specs.Fields.{numbered_values, directory_header, header_2, directory_entries, index_in_bytes, link_in_bytes}
use Rattle.lfs_check.specs.Empty.{upwards, next_upwards}
use Rattle.lfs_check.specs.Built.{chain_head}
use Rattle.lfs_check.proofs.Numbered.{length_numbered, numbered-at}
use Rattle.lfs_check.proofs.Directories.{length_joined, joined_at, joined_same, word_in_block}
use Rattle.lfs_layout.specs.Files.{File, total_for}
use Rattle.lfs_layout.specs.Made.{all_entries, index_end, data_end, header_for, dir_for, all_indexes, index_disk, free_data, padded, all_data, dirs_bytes, indexes_bytes, image_with, geometry_2, Room}
use Rattle.lfs_layout.proofs.Joins.{joined_pieces, flat_upwards_at, length_flat_upwards}
use Rattle.lfs_layout.proofs.Regions.{IndexFits, index_read, length_indexes}
use Rattle.lfs_layout.proofs.MadeParts.{head_fits, next_fits, length_all_entries, all_entries_fit, length_all_indexes, all_indexes_fit, length_files_data}

-- a count fits a word in the first directory block, and is zero in the others
dir_number_fits : (d x : ℕ) → x < 2 ^ 32 → cond (nat_eq d 0) x 0 < 2 ^ 32
dir_number_fits zero x h = h
dir_number_fits (suc d) x h = let t : nat_eq (suc d) 0 ≡ false = grind (arith, nat_tests) in let e : cond (nat_eq (suc d) 0) x 0 ≡ 0 = ap (λ b. cond b x 0) t in omega (arith, e)

-- each directory block has 13 entries
dir_entries_length : (n : ℕ) (files : List File) (d : ℕ) → Room n files → d < 6 → length (take 13 (drop (13 * d) (all_entries files))) ≡ 13
dir_entries_length n files d r h =
    let f = r.few in let l = length_all_entries files f in let e = length-drop (13 * d) (all_entries files) in let t = length-take 13 (drop (13 * d) (all_entries files)) in
    omega (arith, l, e, t, h)

-- each entry fits its bytes
entries_fit : (n : ℕ) (files : List File) → Room n files → (k : ℕ) → k < 78 → EntryFits (get_or (all_entries files) k void_entry)
entries_fit n files r k h =
    let f = r.few in let l = length_all_entries files f in let p = r.data_room in let q = r.index_room in let hi = r.high in
    all_entries_fit files (omega (arith, p, hi)) (omega (arith, q, hi)) r.wide k (omega (arith, l, h))

-- each entry of a directory block fits its bytes
dir_entries_fit : (n : ℕ) (files : List File) (d : ℕ) → Room n files → d < 6 → (k : ℕ) → k < 13 → EntryFits (get_or (take 13 (drop (13 * d) (all_entries files))) k void_entry)
dir_entries_fit n files d r h k m =
    let P : Entry → Type 0 = λ e. EntryFits e in
    let e : get_or (all_entries files) (13 * d + k) void_entry ≡ get_or (take 13 (drop (13 * d) (all_entries files))) k void_entry =
    sym (get_or-take 13 (drop (13 * d) (all_entries files)) k void_entry m ∙ get_or-drop (13 * d) (all_entries files) k void_entry) in
    subst P e (entries_fit n files r (13 * d + k) (omega (arith, h, m)))

-- directory block d of an image that is made
abbrev dir_at : ℕ → List File → ℕ → Dir
dir_at n files d = dir_for (header_for (geometry_2 n) files) (all_entries files) d

-- it has 512 bytes
length_dir_at : (n : ℕ) (files : List File) → Room n files → (d : ℕ) → d < 6 → length (dir_bytes (dir_at n files d)) ≡ 512
length_dir_at n files r d h = length_dir_bytes (dir_at n files d) (dir_entries_length n files d r h) (dir_entries_fit n files d r h)

-- the directory blocks have 3,072 bytes
pub length_dirs : (n : ℕ) (files : List File) → Room n files → length (dirs_bytes (geometry_2 n) files) ≡ 3072
length_dirs n files r = length_joined (λ d. dir_bytes (dir_at n files d)) 512 6 (length_dir_at n files r)

-- the directory blocks
pub dir_block : (n : ℕ) (files : List File) → Room n files → (d : ℕ) → d < 6 → block_in (image_with n files) d ≡ dir_bytes (dir_at n files d)
unfolding image_with
dir_block n files r d h = joined_at (λ d. dir_bytes (dir_at n files d)) 512 6 d _ (length_dir_at n files r) h

-- directory block d is read as it was made
pub dir_read : (n : ℕ) (files : List File) → Room n files → (d : ℕ) → d < 6 → dir_of (block_in (image_with n files) d) ≡ dir_at n files d
dir_read n files r d h =
    let hi = r.high in let few = r.few in
    ap dir_of (dir_block n files r d h)
    ∙ dir_of-bytes (dir_at n files d)
    (dir_number_fits d (chain_head (data_end (geometry_2 n) files) n) (head_fits (data_end (geometry_2 n) files) n (omega (arith, hi))))
    (dir_number_fits d (chain_head (index_end files) (index_count (geometry_2 n))) (head_fits (index_end files) (index_count (geometry_2 n)) (omega (arith, hi))))
    (dir_number_fits d (length files) (omega (arith, few)))
    (dir_entries_length n files d r h) (dir_entries_fit n files d r h)

-- the counts are read as they were made
pub header_read : (n : ℕ) (files : List File) → Room n files → directory_header (geometry_2 n) (image_with n files) ≡ header_for (geometry_2 n) files
header_read n files r = ap header_2 (dir_read n files r 0 (omega arith))

-- the entries are read as they were made
pub entries_read : (n : ℕ) (files : List File) → Room n files → directory_entries (geometry_2 n) (image_with n files) ≡ all_entries files
entries_read n files r =
    let few = r.few in
    joined_same (λ d. (dir_of (block_in (image_with n files) d)).entries) (λ d. take 13 (drop (13 * d) (all_entries files))) 6 (λ d h. ap (λ (x : Dir). x.entries) (dir_read n files r d h))
    ∙ joined_pieces 13 6 (all_entries files) ∙ take_all 78 (all_entries files) (let l = length_all_entries files few in omega (arith, l))

-- the blocks of index blocks
indexes_fit : (n : ℕ) (files : List File) → Room n files → (k : ℕ) → k < length (all_indexes (geometry_2 n) files) → IndexFits (get_or (all_indexes (geometry_2 n) files) k no_index)
indexes_fit n files r =
    let hi = r.high in let p = r.data_room in let lo = r.low in
    all_indexes_fit (geometry_2 n) files (omega (arith, hi)) r.index_room (omega (arith, p, hi, lo))

-- the index blocks of disk block d are seven of all of them
disk_part : (n : ℕ) (files : List File) → Room n files → (d : ℕ) → d < index_disks (geometry_2 n)
    → (length (take 7 (drop (7 * d) (all_indexes (geometry_2 n) files))) ≡ 7) × ((k : ℕ) → k < 7 → IndexFits (get_or (take 7 (drop (7 * d) (all_indexes (geometry_2 n) files))) k no_index))
disk_part n files r d h =
    let ixs = all_indexes (geometry_2 n) files in
    let l = length_all_indexes (geometry_2 n) files r.index_room in
    let P : Index → Type 0 = λ i. IndexFits i in (
      (let e = length-drop (7 * d) ixs in let t = length-take 7 (drop (7 * d) ixs) in omega (arith, l, e, t, h)),
      λ k m. subst P (sym (get_or-take 7 (drop (7 * d) ixs) k no_index m ∙ get_or-drop (7 * d) ixs k no_index)) (indexes_fit n files r (7 * d + k) (omega (arith, l, h, m))),
    )

-- a disk block of index blocks has 512 bytes
length_index_disk : (n : ℕ) (files : List File) → Room n files → (d : ℕ) → d < index_disks (geometry_2 n) → length (index_disk (all_indexes (geometry_2 n) files) d) ≡ 512
length_index_disk n files r d h =
    let part = take 7 (drop (7 * d) (all_indexes (geometry_2 n) files)) in
    let p = disk_part n files r d h in let seven = p.0 in
    let l = length_indexes part (λ k m. p.1 k (omega (arith, m, seven))) in
    let z = length-replicate {A = ℕ} 8 0 in let a = length-append (flat_map index_bytes part) (replicate 8 0) in omega (arith, seven, l, z, a)

-- all disk blocks of index blocks have 512 bytes each
pub length_index_disks : (n : ℕ) (files : List File) → Room n files → length (indexes_bytes (geometry_2 n) files) ≡ 512 * index_disks (geometry_2 n)
length_index_disks n files r = length_joined (index_disk (all_indexes (geometry_2 n) files)) 512 (index_disks (geometry_2 n)) (length_index_disk n files r)

-- disk block 6 + d is that of index blocks d
index_disk_block : (n : ℕ) (files : List File) → Room n files → (d : ℕ) → d < index_disks (geometry_2 n) → take 512 (drop (512 * (6 + d)) (image_with n files)) ≡ index_disk (all_indexes (geometry_2 n) files) d
unfolding image_with
index_disk_block n files r d h =
    let g = geometry_2 n in
    ap (take 512) (drop_past (dirs_bytes g files) (indexes_bytes g files ++ all_data g files) 3072 (512 * (6 + d)) (512 * d) (length_dirs n files r) (omega arith))
    ∙ joined_at (index_disk (all_indexes g files)) 512 (index_disks g) d (all_data g files) (length_index_disk n files r) h

-- index block i is read as it was made
index_is_read : (n : ℕ) (files : List File) → Room n files → (i : ℕ) → i < index_count (geometry_2 n) → index_in_bytes (geometry_2 n) (image_with n files) i ≡ get_or (all_indexes (geometry_2 n) files) i no_index
index_is_read n files r i h =
    let image = image_with n files in let ixs = all_indexes (geometry_2 n) files in
    let d = i / 7 in let k = i % 7 in
    let low : d < index_disks (geometry_2 n) = omega (arith, h) in
    let seven : k < 7 = omega arith in
    let x = drop (512 * (6 + d)) image in
    let part = take 7 (drop (7 * d) ixs) in
    let p = disk_part n files r d low in let wide = p.0 in
    let split : 512 ≡ 72 * k + (512 - 72 * k) = omega (arith, seven) in
    let place : drop (512 * (6 + d) + 72 * k) image ≡ drop (72 * k) x = sym (drop-drop (72 * k) (512 * (6 + d)) image) in
    let cut : words_of 18 (drop (72 * k) (take 512 x)) ≡ words_of 18 (drop (72 * k) x) =
    ap (λ m. words_of 18 (drop (72 * k) (take m x))) split ∙ ap (words_of 18) (drop-take (72 * k) (512 - 72 * k) x) ∙ words_of-take 18 (512 - 72 * k) (drop (72 * k) x) (omega (arith, seven)) in
    ap index_of place ∙ ap index_of_words (sym cut) ∙ ap (λ b. index_of_words (words_of 18 (drop (72 * k) b))) (index_disk_block n files r d low)
    ∙ index_read part (replicate 8 0) k (λ j m. p.1 j (omega (arith, m, wide))) (omega (arith, wide, seven))
    ∙ get_or-take 7 (drop (7 * d) ixs) k no_index seven ∙ get_or-drop (7 * d) ixs k no_index ∙ ap (λ m. get_or ixs m no_index) (let e : 7 * d + k ≡ i = omega arith in e)

-- the index blocks are read as they were made
pub indexes_read : (n : ℕ) (files : List File) → Room n files → numbered_values (index_in_bytes (geometry_2 n) (image_with n files)) (index_count (geometry_2 n)) ≡ all_indexes (geometry_2 n) files
indexes_read n files r =
    let f = index_in_bytes (geometry_2 n) (image_with n files) in let m = index_count (geometry_2 n) in let ixs = all_indexes (geometry_2 n) files in
    let a = length_numbered f m in let b = length_all_indexes (geometry_2 n) files r.index_room in
    same_lists (numbered_values f m) ixs (a ∙ sym b)
    (λ k d h. (let lt : k < m = omega (arith, a, h) in numbered-at f m k d lt ∙ index_is_read n files r k lt ∙ get_or_default ixs k no_index d (omega (arith, b, lt))))

-- the data blocks
pub data_region : (n : ℕ) (files : List File) → Room n files → (q : ℕ) → drop (512 * (first_data (geometry_2 n) + q)) (image_with n files) ≡ drop (512 * q) (all_data (geometry_2 n) files)
unfolding image_with
data_region n files r q =
    let g = geometry_2 n in let k = index_disks g in
    drop_past (dirs_bytes g files) (indexes_bytes g files ++ all_data g files) 3072 (512 * (first_data g + q)) (512 * (k + q)) (length_dirs n files r) (omega arith)
    ∙ drop_past (indexes_bytes g files) (all_data g files) (512 * k) (512 * (k + q)) (512 * q) (length_index_disks n files r) (omega arith)

-- a free data block has 512 bytes
length_free_data : (g : Geometry) (b : ℕ) → length (free_data g b) ≡ 512
length_free_data g b =
    let l = length-little (next_upwards g.blocks b) in let r = length-replicate {A = ℕ} 508 0 in let a = length-append (little_bytes 4 (next_upwards g.blocks b)) (replicate 508 0) in omega (arith, l, r, a)

-- an image that is made has as many blocks as it should
pub length_image : (n : ℕ) (files : List File) → Room n files → length (image_with n files) ≡ 512 * n
unfolding image_with
length_image n files r =
    let g = geometry_2 n in let B = data_end g files in
    let p = r.data_room in let lo = r.low in
    let one = length_dirs n files r in let two = length_index_disks n files r in
    let three = length_files_data files in let four = length_flat_upwards (free_data g) 512 B (n - B) (length_free_data g) in
    let a = length-append (flat_map padded files) (flat_map (free_data g) (upwards B (n - B))) in
    let b = length-append (indexes_bytes g files) (all_data g files) in
    let c = length-append (dirs_bytes g files) (indexes_bytes g files ++ all_data g files) in
    omega (arith, p, lo, one, two, three, four, a, b, c)

-- a free data block names the next
pub link_read : (n : ℕ) (files : List File) → Room n files → (b : ℕ) → data_end (geometry_2 n) files ≤ b → b < n → link_in_bytes (image_with n files) b ≡ next_upwards n b
link_read n files r b low high =
    let g = geometry_2 n in let B = data_end g files in let t = total_for 512 files in
    let tail = flat_map (free_data g) (upwards B (n - B)) in
    let at : b ≡ first_data g + (t + (b - B)) = omega (arith, low) in
    let here : drop (512 * b) (image_with n files) ≡ drop (512 * (b - B)) tail =
    ap (λ k. drop (512 * k) (image_with n files)) at ∙ data_region n files r (t + (b - B))
    ∙ drop_past (flat_map padded files) tail (512 * t) (512 * (t + (b - B))) (512 * (b - B)) (length_files_data files) (omega arith) in
    let lo = r.low in let hi = r.high in
    sym (word_in_block (drop (512 * b) (image_with n files))) ∙ ap (λ x. word_of (take 512 x)) here
    ∙ ap word_of (flat_upwards_at (free_data g) 512 B (n - B) (b - B) (length_free_data g) (omega (arith, low, high)))
    ∙ word_of-bytes (next_upwards n (B + (b - B))) (replicate 508 0) (next_fits n (B + (b - B)) (omega (arith, hi)))
    ∙ ap (next_upwards n) (let e : B + (b - B) ≡ b = omega (arith, low) in e)

-- a directory block ends with the number of the version between zeros
pub dir_block_end : (n : ℕ) (files : List File) → Room n files → (d : ℕ) → d < 6 → drop 480 (block_in (image_with n files) d) ≡ dir_ending
dir_block_end n files r d h = ap (drop 480) (dir_block n files r d h) ∙ dir_bytes_end (dir_at n files d) (dir_entries_length n files d r h) (dir_entries_fit n files d r h)
