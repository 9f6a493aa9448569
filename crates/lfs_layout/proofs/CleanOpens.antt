-- The files of a clean image have room on it, and on the image of version 2 that is six blocks larger.
use Rattle.std.proofs.Common.{◌≡◌, ℕ, ◌+◌, ◌-◌, ◌*◌, ◌/◌, ◌<◌, ◌≤◌, Bool, true, false, cond, not, ◌&&◌, nat_eq, nat_lt, List, [], ◌∷◌, length, get_or, slice_index, take, drop, map, replicate, refl, sym, ap, ◌∙◌, subst, arith, length-append, None, ⊎_elim}
use Rattle.lfs_check.proofs.KeepsAll.{none-failing}
use Rattle.std.proofs.Math.Bool.{and-true}
use Rattle.std.specs.List.{flat_map}
use Rattle.std.proofs.lemmas.List.{get_or-map, length-map, length-replicate}
use Rattle.std.proofs.lemmas.Bool.{cases_lt}
use Rattle.std.proofs.lemmas.Bool.Decides.{nat_tests}
use Rattle.lfs_format.specs.declared.Entry.{Entry}
use Rattle.lfs_format.specs.declared.Entry1.{Entry1}
use Rattle.lfs_format.specs.Pieces.{pieces_of}
use Rattle.lfs_format.specs.Directory.{entry_1_of, dir_1_of, void_entry}
use Rattle.lfs_check.specs.declared.geometry.Geometry.{Geometry}
use Rattle.lfs_check.specs.Geometries.{index_count, first_data, longest_name}
use Rattle.lfs_check.specs.Meets.{times_met}
use Rattle.lfs_check.specs.Rules.{block_in, first_failing, has_bad_name}
use Rattle.lfs_check.specs.Laid.{Shape, numbers_at, times_in}
use Rattle.lfs_check.specs.Clean.{chain_in, data_in, places_of}
use Rattle.lfs_check.specs.Fields.{is_version_2, geometry_of, fields_of, directory_entries, entries_1, entries_2, widened}
use Rattle.lfs_check.specs.Faults.{fault}
use Rattle.lfs_check.proofs.Steps.{times-append, times-at, times_in-part}
use Rattle.lfs_check.proofs.Counting.{in_range, length-most}
use Rattle.lfs_check.proofs.Theorems.{migration_room}
use Rattle.lfs_check.proofs.Images.{image_lies, image_names, whole_blocks, image_blocks}
use Rattle.lfs_check.proofs.Directories.{length_pieces, pieces_at, name_length, length_block, entries_wide}
use Rattle.lfs_check.specs.Disks.{entries}
use Rattle.lfs_layout.specs.Files.{placed_files, total_for, names_right, names_of}
use Rattle.lfs_layout.specs.Made.{geometry_2, Room}
use Rattle.lfs_layout.proofs.CleanRoom.{AllWhole, totals, names_from, names_longer, files_few, files_wide}
use Rattle.lfs_layout.proofs.MadeRules.{no_names}

-- the fields of an image
abbrev shape_of : List ℕ → Shape
shape_of image = fields_of (geometry_of image) image

-- each file is whole
pub all_whole : (image : List ℕ) → fault image ≡ None → AllWhole (geometry_of image) (shape_of image).indexes (length image / 512) (shape_of image).entries
all_whole image e k h u =
    let g = geometry_of image in let d = shape_of image in
    let ix = d.indexes in let es = d.entries in let p = places_of g d in
    let x = get_or es k void_entry in
    let l = image_lies image e in
    let f = l.file k h u in
    let chain : numbers_at p.chains k ≡ chain_in g ix x = get_or-map (chain_in g ix) es k void_entry [] h in
    let data_list : numbers_at p.datas k ≡ data_in g ix x = get_or-map (data_in g ix) es k void_entry [] h in
    record {
      indexes = sym (ap length chain) ∙ f.indexes;
      datas = sym (ap length data_list) ∙ f.datas;
      below = λ j m. (let b = slice_index (data_in g ix x) j in
          let t = times-at (data_in g ix x) j b m refl in
          let s : times_met b (numbers_at p.datas k) ≡ times_met b (data_in g ix x) = ap (times_met b) data_list in
          let part = times_in-part b p.datas k in let one = l.one_data b in
          ⊎_elim (λ (lt : b < g.blocks). lt)
          (λ (ge : g.blocks ≤ b). (let out : nat_lt b g.blocks ≡ false = grind (arith, nat_tests) in
          let z : ◌≡◌ {A = ℕ} (cond (nat_lt b g.blocks && not (nat_lt b (first_data g))) 1 0) 0 = ap (λ v. cond (v && not (nat_lt b (first_data g))) 1 0) out in
          absurd (omega (arith, t, s, part, one, z))))
          (cases_lt b g.blocks));
    }

-- a number is in the lists of entries one after another as often as in each of them together
times_flat : (n : ℕ) (f : Entry → List ℕ) (es : List Entry) → times_met n (flat_map f es) ≡ times_in n (map f es)
times_flat n f [] = refl
times_flat n f (e ∷ es) = let i = times_flat n f es in let a = times-append n (f e) (flat_map f es) in omega (arith, i, a)

-- no more data blocks and index blocks than there are
pub clean_totals : (image : List ℕ) → fault image ≡ None
    → (total_for 512 (placed_files image) ≤ (geometry_of image).blocks - first_data (geometry_of image)) × (total_for 8192 (placed_files image) ≤ index_count (geometry_of image))
clean_totals image e =
    let g = geometry_of image in let d = shape_of image in let ix = d.indexes in let es = d.entries in
    let l = image_lies image e in
    let t = totals g ix image (length image / 512) es (whole_blocks image e) (all_whole image e) in
    let datas = length-most (first_data g) g.blocks (flat_map (data_in g ix) es)
    (λ b. (let one = l.one_data b in let s = times_flat b (data_in g ix) es in omega (arith, one, s))) in
    let chains = length-most 0 (index_count g) (flat_map (chain_in g ix) es)
    (λ i. (let one = l.one_index i in let s = times_flat i (chain_in g ix) es in let z = low_range (index_count g) i in omega (arith, one, s, z))) in
    let one = t.0 in let two = t.1 in
    (omega (arith, one, datas), omega (arith, two, chains))
  where
    low_range : (many i : ℕ) → in_range 0 many i ≡ cond (nat_lt i many) 1 0
    low_range many i = let f : nat_lt i 0 ≡ false = grind (arith, nat_tests) in ap (λ v. cond (nat_lt i many && not v) 1 0) f ∙ ap (λ v. cond v 1 0) (and-true (nat_lt i many))

-- no version has names of more than 27 bytes
pub longest_most : (g : Geometry) → longest_name g ≤ 27
longest_most g =
    let P : Bool → Type 0 = λ v. cond v 15 27 ≤ 27 in
    let all : (v : Bool) → P v = λ v. elim v as (λ v. P v) [ true ↦ omega arith | false ↦ omega arith ] in
    all (nat_eq g.dirs 1)

-- the names of an image without a fault can be, and no two are the same
pub placed_names : (image : List ℕ) → fault image ≡ None → names_right 27 [] (names_of (placed_files image)) ≡ true
placed_names image e =
    let g = geometry_of image in let d = shape_of image in
    let r = none-failing g (first_failing (has_bad_name g) [] d.entries) (image_names image e) in
    names_longer (longest_name g) 27 [] (names_of (placed_files image)) (longest_most g) (names_from g d.indexes image [] [] d.entries no_names r)

-- an entry of version 1 that stands for one that isn't there
abbrev no_entry_1 : Entry1
no_entry_1 = record { size = 0; first = 0; name = [] }

-- version 1 has 20 entries, each with a name of 28 bytes
pub wide_1 : (image : List ℕ) (n : ℕ) → length image ≡ 512 * n → 1 ≤ n → (length (entries_1 image) ≡ 20) × ((k : ℕ) → k < length (entries_1 image) → length (get_or (entries_1 image) k void_entry).name ≡ 28)
unfolding dir_1_of
wide_1 image n l h =
    let b = block_in image 0 in let bl = length_block image n 0 l (omega arith) in
    let ps = pieces_of entry_1_of 24 20 (drop 12 b) in
    let len = length_pieces entry_1_of 24 20 (drop 12 b) in
    let m = length-map ps widened in (
      omega (arith, len, m),
      λ k lt. (let low : k < length ps = omega (arith, m, lt) in
          let at = get_or-map widened ps k no_entry_1 void_entry low ∙ ap widened (pieces_at entry_1_of 24 20 (drop 12 b) k no_entry_1 (omega (arith, low, len))) in
          let nm = name_length 16 (24 * k) b bl (omega (arith, low, len)) in
          let a = length-append (take 16 (drop 8 (drop (24 * k) (drop 12 b)))) (replicate 12 0) in let r = length-replicate {A = ℕ} 12 0 in
          ap (λ (e : Entry). length e.name) at ∙ (omega (arith, nm, a, r))),
    )

-- version 2 has 78 entries, each with a name of 28 bytes
pub wide_2 : (image : List ℕ) (n : ℕ) → length image ≡ 512 * n → 6 ≤ n → (length (entries_2 image) ≡ 78) × ((k : ℕ) → k < length (entries_2 image) → length (get_or (entries_2 image) k void_entry).name ≡ 28)
unfolding entries
wide_2 image n l h = entries_wide image n l h

-- the files of an image of version 1 have room on a disk of six blocks more, and those of version 2 on one of as many
pub migrated_room : (image : List ℕ) → fault image ≡ None → is_version_2 image ≡ false → Room (length image / 512 + 6) (placed_files image)
migrated_room image e v =
    let n = length image / 512 in let d = shape_of image in
    let old : Geometry = record { dirs = 1; blocks = n } in
    let geo : geometry_of image ≡ old = ap (λ b. let g : Geometry = record { dirs = cond b 6 1; blocks = n } in g) v in
    let t = clean_totals image e in
    let one : total_for 512 (placed_files image) ≤ n - first_data old = (let P : Geometry → Type 0 = λ g. total_for 512 (placed_files image) ≤ g.blocks - first_data g in subst P geo t.0) in
    let two : total_for 8192 (placed_files image) ≤ index_count old = (let P : Geometry → Type 0 = λ g. total_for 8192 (placed_files image) ≤ index_count g in subst P geo t.1) in
    let size = image_blocks image e in
    let low : 8 ≤ n = (let P : Bool → Type 0 = λ b. cond b 14 8 ≤ n in subst P v size.0) in
    let high : n ≤ 65536 = (let P : Bool → Type 0 = λ b. n ≤ cond b 65542 65536 in subst P v size.1) in
    let w = wide_1 image n (whole_blocks image e) (omega (arith, low)) in
    let es : d.entries ≡ entries_1 image = ap (λ g. directory_entries g image) geo in
    let few : length d.entries ≡ 20 = ap length es ∙ w.0 in
    let Q : List Entry → Type 0 = λ xs. (k : ℕ) → k < length xs → length (get_or xs k void_entry).name ≡ 28 in
    let m = migration_room n in
    record {
      low = omega (arith, low);
      high = omega (arith, high);
      data_room = omega (arith, one, m);
      index_room = omega (arith, two);
      few = (let f = files_few (geometry_of image) d.indexes image d.entries in omega (arith, f, few));
      wide = files_wide (geometry_of image) d.indexes image d.entries (subst Q (sym es) w.1);
    }

-- the files of a clean image of version 2 have room on it
pub placed_room : (image : List ℕ) → fault image ≡ None → is_version_2 image ≡ true → Room (length image / 512) (placed_files image)
placed_room image e v =
    let n = length image / 512 in let d = shape_of image in
    let geo : geometry_of image ≡ geometry_2 n = ap (λ b. let g : Geometry = record { dirs = cond b 6 1; blocks = n } in g) v in
    let t = clean_totals image e in
    let size = image_blocks image e in
    let low : 14 ≤ n = (let P : Bool → Type 0 = λ b. cond b 14 8 ≤ n in subst P v size.0) in
    let high : n ≤ 65542 = (let P : Bool → Type 0 = λ b. n ≤ cond b 65542 65536 in subst P v size.1) in
    let w = wide_2 image n (whole_blocks image e) (omega (arith, low)) in
    let es : d.entries ≡ entries_2 image = ap (λ g. directory_entries g image) geo in
    let few : length d.entries ≡ 78 = ap length es ∙ w.0 in
    let Q : List Entry → Type 0 = λ xs. (k : ℕ) → k < length xs → length (get_or xs k void_entry).name ≡ 28 in
    record {
      low = low;
      high = high;
      data_room = (let P : Geometry → Type 0 = λ g. total_for 512 (placed_files image) ≤ g.blocks - first_data g in subst P geo t.0);
      index_room = (let P : Geometry → Type 0 = λ g. total_for 8192 (placed_files image) ≤ index_count g in subst P geo t.1);
      few = (let f = files_few (geometry_of image) d.indexes image d.entries in omega (arith, f, few));
      wide = files_wide (geometry_of image) d.indexes image d.entries (subst Q (sym es) w.1);
    }
