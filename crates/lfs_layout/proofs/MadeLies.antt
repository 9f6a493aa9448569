-- On an image that is made files lie: each takes the lowest free blocks in the order of the entries.
use Rattle.std.proofs.Common.{◌≡◌, ℕ, zero, suc, ◌+◌, ◌-◌, ◌<◌, ◌≤◌, true, false, cond, nat_lt, List, [], ◌∷◌, ◌++◌, length, get_or, slice_index_or, map, replicate, refl, sym, ap, ◌∙◌, subst, arith}
use Rattle.lfs_check.proofs.Empties.{length-upwards, upwards-at}
use Rattle.std.proofs.lemmas.List.{get_or-append-add}
use Rattle.std.proofs.Math.ListN.{get_or-append}
use Rattle.std.proofs.lemmas.Bool.{false≢true}
use Rattle.std.proofs.lemmas.Bool.Decides.{nat_tests}
use Rattle.lfs_format.specs.declared.Entry.{Entry}
use Rattle.lfs_format.specs.declared.Index.{Index}
use Rattle.lfs_check.specs.declared.fields.Header.{Header}
use Rattle.lfs_check.specs.Geometries.{index_count, first_data, IsGeometry}
use Rattle.lfs_check.specs.Rules.{entry_is_used}
use Rattle.lfs_check.specs.Meets.{null}
use Rattle.lfs_check.specs.Checks.{need_index, need_data}
use Rattle.lfs_check.specs.Laid.{Shape, no_index, index_in}
use Rattle.lfs_check.specs.Fields.{numbered_values, fields_of, link_in_bytes}
use Rattle.lfs_check.specs.Clean.{Passes, places_of}
use Rattle.lfs_check.specs.Empty.{upwards, next_upwards}
use Rattle.lfs_check.specs.Built.{index_need, data_need, run_end, LieFrom, chain_head, IsBuilt, built_places}
use Rattle.lfs_check.proofs.Numbered.{length_numbered, numbered-at}
use Rattle.lfs_check.proofs.Images.{fields_shape}
use Rattle.lfs_check.proofs.Theorems.{built_passes}
use Rattle.lfs_layout.specs.Files.{File, total_for}
use Rattle.lfs_layout.specs.Made.{indexes_needed, data_needed, entry_for, entries_for, no_entry, index_end, data_end, file_index, indexes_for, free_index, all_indexes, image_with, geometry_2, no_file, Room}
use Rattle.lfs_layout.proofs.MadeParts.{length_indexes_for, free_index_at}
use Rattle.lfs_layout.proofs.MadeFields.{header_read, entries_read, indexes_read, link_read}

-- the first byte of each name isn't zero
abbrev pub AreUsed : List File → Type 0
AreUsed files = (k : ℕ) → k < length files → entry_is_used (entry_for 0 (get_or files k no_file)) ≡ true

-- the needs of entries are those of their files
run_end-none : (need : Entry → ℕ) (a m : ℕ) → need no_entry ≡ 0 → run_end need a (replicate m no_entry) ≡ a
run_end-none need a zero z = refl
run_end-none need a (suc m) z = ap (λ k. run_end need k (replicate m no_entry)) (let e : a + need no_entry ≡ a = omega (arith, z) in e) ∙ run_end-none need a m z

-- the files need as many index blocks as all of them together
pub index_run : (a i : ℕ) (files : List File) (m : ℕ) → AreUsed files → run_end index_need a (entries_for i files ++ replicate m no_entry) ≡ a + total_for 8192 files
index_run a i [] m used = run_end-none index_need a m refl ∙ (let e : a ≡ a + 0 = omega arith in e)
index_run a i (f ∷ files) m used =
    let e : index_need (entry_for i f) ≡ indexes_needed f = ap (λ b. cond b (need_index (entry_for i f)) 0) (used 0 (omega arith)) in
    ap (λ k. run_end index_need (a + k) (entries_for (i + indexes_needed f) files ++ replicate m no_entry)) e
    ∙ index_run (a + indexes_needed f) (i + indexes_needed f) files m (λ k h. used (suc k) (omega (arith, h)))
    ∙ (let q : a + indexes_needed f + total_for 8192 files ≡ a + total_for 8192 (f ∷ files) = omega arith in q)

-- the files need as many data blocks as all of them together
pub data_run : (b i : ℕ) (files : List File) (m : ℕ) → AreUsed files → run_end data_need b (entries_for i files ++ replicate m no_entry) ≡ b + total_for 512 files
data_run b i [] m used = run_end-none data_need b m refl ∙ (let e : b ≡ b + 0 = omega arith in e)
data_run b i (f ∷ files) m used =
    let e : data_need (entry_for i f) ≡ data_needed f = ap (λ c. cond c (need_data (entry_for i f)) 0) (used 0 (omega arith)) in
    ap (λ k. run_end data_need (b + k) (entries_for (i + indexes_needed f) files ++ replicate m no_entry)) e
    ∙ data_run (b + data_needed f) (i + indexes_needed f) files m (λ k h. used (suc k) (omega (arith, h)))
    ∙ (let q : b + data_needed f + total_for 512 files ≡ b + total_for 512 (f ∷ files) = omega arith in q)

-- the first of numbers upwards, or null
first_is : (a n : ℕ) → chain_head a (a + n) ≡ slice_index_or (upwards a n) 0 null
first_is a zero = (let t : nat_lt a (a + 0) ≡ false = (let h : a + 0 ≤ a = omega arith in grind (arith, nat_tests)) in ap (λ b. cond b a null) t)
first_is a (suc n) = (let t : nat_lt a (a + suc n) ≡ true = (let h : a < a + suc n = omega arith in grind (arith, nat_tests)) in ap (λ b. cond b a null) t)

-- entries without a file lie anywhere
lie-none : (d : Shape) (a b m : ℕ) → LieFrom d a b (replicate m no_entry)
lie-none d a b zero = tt
lie-none d a b (suc m) =
    let P : ℕ → Type 0 = λ k. LieFrom d k (b + data_need no_entry) (replicate m no_entry) in
    let Q : ℕ → Type 0 = λ k. LieFrom d a k (replicate m no_entry) in
    ((λ u. absurd (false≢true u)), subst P (let e : a ≡ a + index_need no_entry = omega arith in e) (subst Q (let e : b ≡ b + data_need no_entry = omega arith in e) (lie-none d a b m)))

-- the files lie in the index blocks that they were given
lie-files : (d : Shape) (a b : ℕ) (files : List File) (m : ℕ) → AreUsed files
    → ((j : ℕ) → j < total_for 8192 files → index_in d (a + j) ≡ get_or (indexes_for a b files) j no_index)
    → LieFrom d a b (entries_for a files ++ replicate m no_entry)
lie-files d a b [] m used all = lie-none d a b m
lie-files d a b (f ∷ files) m used all =
    let n = indexes_needed f in let w = data_needed f in
    let chain = upwards a n in let blocks = upwards b w in
    let mine = numbered_values (file_index a b f) n in
    let len = length_numbered (file_index a b f) n in
    let u = used 0 (omega arith) in
    let P : ℕ → Type 0 = λ k. LieFrom d k (b + data_need (entry_for a f)) (entries_for (a + n) files ++ replicate m no_entry) in
    let Q : ℕ → Type 0 = λ k. LieFrom d (a + n) k (entries_for (a + n) files ++ replicate m no_entry) in
    let en : n ≡ index_need (entry_for a f) = sym (ap (λ c. cond c (need_index (entry_for a f)) 0) u) in
    let ew : w ≡ data_need (entry_for a f) = sym (ap (λ c. cond c (need_data (entry_for a f)) 0) u) in
    let rest = lie-files d (a + n) (b + w) files m (λ k h. used (suc k) (omega (arith, h)))
    (λ j h. ap (index_in d) (let e : a + n + j ≡ a + (n + j) = omega arith in e) ∙ all (n + j) (omega (arith, h))
    ∙ ap (λ k. get_or (mine ++ indexes_for (a + n) (b + w) files) k no_index) (let e : n + j ≡ length mine + j = omega (arith, len) in e)
    ∙ get_or-append-add mine (indexes_for (a + n) (b + w) files) j no_index) in (
      (λ v. record {
        indexes = length-upwards a n;
        datas = length-upwards b w;
        first = first_is a n;
        each = λ j h. (let lt : j < n = (let l = length-upwards a n in omega (arith, l, h)) in
            ap (index_in d) (upwards-at a n j 0 lt) ∙ all j (omega (arith, lt))
            ∙ get_or-append mine (indexes_for (a + n) (b + w) files) no_index j (omega (arith, len, lt)) ∙ numbered-at (file_index a b f) n j no_index lt);
      }),
      subst P (ap (λ k. a + k) en) (subst Q (ap (λ k. b + k) ew) rest),
    )

-- the fields of an image that is made
abbrev pub shape_made : ℕ → List File → Shape
shape_made n files = fields_of (geometry_2 n) (image_with n files)

-- the image is built of its files
pub made_built : (n : ℕ) (files : List File) → Room n files → AreUsed files → IsBuilt (geometry_2 n) (shape_made n files)
made_built n files r used =
    let g = geometry_2 n in let d = shape_made n files in
    let es = entries_read n files r in let hs = header_read n files r in let ixs = indexes_read n files r in
    let m = 78 - length files in
    let all = entries_for 0 files ++ replicate m no_entry in
    let ir : run_end index_need 0 d.entries ≡ index_end files = ap (run_end index_need 0) es ∙ index_run 0 0 files m used in
    let dr : run_end data_need (first_data g) d.entries ≡ data_end g files = ap (run_end data_need (first_data g)) es ∙ data_run (first_data g) 0 files m used in
    let len = length_indexes_for 0 (first_data g) files in
    let iroom = r.index_room in let droom = r.data_room in let low = r.low in
    let P : List Entry → Type 0 = λ es. LieFrom d 0 (first_data g) es in
    let rest = map (free_index g) (upwards (index_end files) (index_count g - index_end files)) in
    let in_list : (i : ℕ) → index_in d i ≡ get_or (all_indexes g files) i no_index = λ i. ap (λ xs. get_or xs i no_index) ixs in
    record {
      files = subst P (sym es) (lie-files d 0 (first_data g) files m used
          (λ j h. in_list (0 + j) ∙ ap (λ k. get_or (all_indexes g files) k no_index) (let e : 0 + j ≡ j = omega arith in e)
          ∙ get_or-append (indexes_for 0 (first_data g) files) rest no_index j (omega (arith, len, h))));
      index_room = omega (arith, ir, iroom);
      data_room = omega (arith, dr, droom, low);
      index_head = ap (λ (h : Header). h.free_index) hs ∙ ap (λ k. chain_head k (index_count g)) (sym ir);
      data_head = ap (λ (h : Header). h.free_data) hs ∙ ap (λ k. chain_head k n) (sym dr);
      nexts = λ i lo hi. (let k = i - index_end files in let at : index_end files + k ≡ i = omega (arith, lo, ir) in
          let past : i ≡ length (indexes_for 0 (first_data g) files) + k = omega (arith, at, len) in
          ap (λ (x : Index). x.next) (in_list i ∙ ap (λ j. get_or (all_indexes g files) j no_index) past ∙ get_or-append-add (indexes_for 0 (first_data g) files) rest k no_index
          ∙ free_index_at g (index_end files) (index_count g - index_end files) k (omega (arith, lo, hi, ir)))
          ∙ ap (next_upwards (index_count g)) at);
      links = λ b lo hi. numbered-at (link_in_bytes (image_with n files)) n b 0 hi ∙ link_read n files r b (omega (arith, lo, dr)) hi;
    }

-- an image that is made has room for a directory, index blocks and data
pub made_geometry : (n : ℕ) (files : List File) → Room n files → IsGeometry (geometry_2 n)
made_geometry n files r = record { dirs = omega arith; few = (let l = r.low in omega (arith, l)); many = r.high }

-- so it breaks no rule from 4 to 7, and whose its blocks are is known
pub made_passes : (n : ℕ) (files : List File) → Room n files → AreUsed files → Passes (geometry_2 n) (shape_made n files) × (places_of (geometry_2 n) (shape_made n files) ≡ built_places (geometry_2 n) (shape_made n files))
made_passes n files r used =
    built_passes (geometry_2 n) (shape_made n files) (made_geometry n files r) (fields_shape (geometry_2 n) (image_with n files)) (made_built n files r used)
