-- Of an image without a fault all used entries are kept.
use Rattle.std.proofs.Common.{◌≡◌, ℕ, zero, suc, ◌-◌, ◌<◌, ◌≤◌, Bool, true, false, cond, not, ◌&&◌, ◌||◌, nat_eq, nat_lt, List, [], ◌∷◌, ◌++◌, length, get_or, slice_index, map, filter, refl, sym, ap, ◌∙◌, arith, append_assoc, length-append, Option, Some, None, bytes_eq}
use Rattle.std.specs.List.{flat_map, list_any}
use Rattle.std.proofs.Math.ListN.{get_or-map}
use Rattle.std.proofs.lemmas.List.{get_or-append_right}
use Rattle.std.proofs.lemmas.Bool.{false≢true, and_parts, and_from, or_parts}
use Rattle.std.proofs.lemmas.Bool.Decides.{nat_tests}
use Rattle.lfs_format.specs.declared.Entry.{Entry}
use Rattle.lfs_format.specs.declared.Index.{Index}
use Rattle.lfs_format.specs.Directory.{void_entry}
use Rattle.lfs_check.specs.declared.geometry.Geometry.{Geometry}
use Rattle.lfs_check.specs.Geometries.{index_count, first_data, longest_name, room}
use Rattle.lfs_check.specs.Meets.{times_met, null}
use Rattle.lfs_check.specs.Rules.{entry_is_used, is_name, has_name, is_larger, has_bad_name, first_failing, in_entry_block}
use Rattle.lfs_check.specs.Laid.{Shape, numbers_at, times_in}
use Rattle.lfs_check.specs.Checks.{met_of, end_of_walk, need_index, need_data, rows_fault, offsets_fault}
use Rattle.lfs_check.specs.Clean.{chain_in, data_in}
use Rattle.lfs_check.specs.Faults.{fault}
use Rattle.lfs_check.specs.Fields.{geometry_of, fields_of, directory_entries}
use Rattle.lfs_check.specs.Kept.{is_none, stand_once, has_sound_fields, has_sound_walk, is_whole, whole_chains, whole_datas, is_hidden, is_kept, kept_from, kept_entries}
use Rattle.lfs_check.proofs.Nones.{rows-none, offsets-none}
use Rattle.lfs_check.proofs.Steps.{times-at, times-append, times_in-part, at_most_one}
use Rattle.lfs_check.proofs.Cleans.{FileFacts, file_facts, times-flat}
use Rattle.lfs_check.proofs.Images.{image_passes, image_lies, image_names, image_sizes}

-- a proof by the two values of a test
pub either-way : (b : Bool) (P : Bool → Type 0) → (b ≡ true → P true) → (b ≡ false → P false) → P b
either-way true P t f = t refl
either-way false P t f = f refl

-- rules 1 and 3 at an entry

-- no entry failed if no block was named
pub none-failing : (g : Geometry) (o : Option ℕ) → in_entry_block g o ≡ None → o ≡ None
none-failing g None e = refl
none-failing g (Some k) e = absurd (cc (e))

-- a search that found none passed its first entry and found none after it
pub passed : (b : Bool) (k : ℕ) (o : Option ℕ) → cond b (Some k) o ≡ None → (b ≡ false) × (o ≡ None)
passed true k o e = absurd (cc (e))
passed false k o e = (refl, e)

-- a search that found none passed each entry
passed-at : (f : List Entry → Entry → Bool) (before es : List Entry) → first_failing f before es ≡ None → (k : ℕ) → k < length es → (seen : List Entry) × (f seen (get_or es k void_entry) ≡ false)
unfolding first_failing
passed-at f before [] e k h = absurd (omega (arith, h))
passed-at f before (x ∷ es) e zero h = (before, (passed (f before x) (length before) (first_failing f (before ++ x ∷ []) es) e).0)
passed-at f before (x ∷ es) e (suc k) h = passed-at f (before ++ x ∷ []) es (passed (f before x) (length before) (first_failing f (before ++ x ∷ []) es) e).1 k (omega (arith, h))

-- a used entry that passes rule 1 has a name, which no earlier one has
name-right : (g : Geometry) (before : List Entry) (e : Entry) → entry_is_used e ≡ true → has_bad_name g before e ≡ false → (is_name (longest_name g) e.name ≡ true) × (has_name before e.name ≡ false)
name-right g before e u b = not_or_parts (is_name (longest_name g) e.name) (has_name before e.name) (sym (ap (λ v. v && (not (is_name (longest_name g) e.name) || has_name before e.name)) u) ∙ b)
  where
    not_or_parts : (a c : Bool) → not a || c ≡ false → (a ≡ true) × (c ≡ false)
    not_or_parts true c q = (refl, q)
    not_or_parts false c q = absurd (false≢true (sym q))

-- each number of a list is met once
once-all : (xs all : List ℕ) → ((j : ℕ) → j < length xs → times_met (slice_index xs j) all ≡ 1) → stand_once xs all ≡ true
once-all [] all h = refl
once-all (x ∷ xs) all h =
    let o = h 0 (omega arith) in let t : nat_eq (times_met x all) 1 ≡ true = grind (arith, nat_tests) in
    and_from (nat_eq (times_met x all) 1) (stand_once xs all) t (once-all xs all (λ j m. h (suc j) (omega (arith, m))))

-- those of whole entries are no more than those of all
part-most : (g : Geometry) (ix : List Index) (n : ℕ) (f : Entry → List ℕ) (es : List Entry) → times_met n (flat_map (λ e. cond (is_whole g ix e) (f e) []) es) ≤ times_in n (map f es)
part-most g ix n f [] = omega arith
part-most g ix n f (e ∷ es) =
    let i = part-most g ix n f es in let t = times-append n (cond (is_whole g ix e) (f e) []) (flat_map (λ e. cond (is_whole g ix e) (f e) []) es) in
    let c : times_met n (cond (is_whole g ix e) (f e) []) ≤ times_met n (f e) = either-way (is_whole g ix e) (λ v. times_met n (cond v (f e) []) ≤ times_met n (f e)) (λ _. omega arith) (λ _. omega arith) in
    omega (arith, i, t, c)

-- what is known of an image without a fault
record Clear (g : Geometry) (d : Shape) : Type 0 where
  facts : (k : ℕ) → k < length d.entries → entry_is_used (get_or d.entries k void_entry) ≡ true → FileFacts g d.indexes (get_or d.entries k void_entry)
  names : first_failing (has_bad_name g) [] d.entries ≡ None
  sizes : first_failing (λ before e. is_larger (room g) e) [] d.entries ≡ None
  one_index : (i : ℕ) → times_in i (map (chain_in g d.indexes) d.entries) ≤ 1
  one_data : (b : ℕ) → times_in b (map (data_in g d.indexes) d.entries) ≤ 1

-- what an image without a fault gives for its entries
clear_image : (image : List ℕ) → fault image ≡ None → Clear (geometry_of image) (fields_of (geometry_of image) image)
clear_image image e =
    let g = geometry_of image in let d = fields_of g image in let l = image_lies image e in
    record {
      facts = file_facts g d (image_passes image e);
      names = none-failing g (first_failing (has_bad_name g) [] d.entries) (image_names image e);
      sizes = none-failing g (first_failing (λ before e. is_larger (room g) e) [] d.entries) (image_sizes image e);
      one_index = λ i. (let o = l.one_index i in let m = at_most_one (nat_lt i (index_count g)) in omega (arith, o, m));
      one_data = λ b. (let o = l.one_data b in let m = at_most_one (nat_lt b g.blocks && not (nat_lt b (first_data g))) in omega (arith, o, m));
    }

module _ (g : Geometry) (d : Shape) (c : Clear g d) where
  -- a used entry is whole
  used_whole : (k : ℕ) → k < length d.entries → entry_is_used (get_or d.entries k void_entry) ≡ true → is_whole g d.indexes (get_or d.entries k void_entry) ≡ true
  used_whole k h u =
      let ix = d.indexes in let e = get_or d.entries k void_entry in let f = c.facts k h u in
      let n = passed-at (has_bad_name g) [] d.entries c.names k h in
      let s = passed-at (λ before e. is_larger (room g) e) [] d.entries c.sizes k h in
      let name = (name-right g n.0 e u n.1).0 in
      let small : not (is_larger (room g) e) ≡ true = ap not s.1 in
      let fields = and_from (entry_is_used e && is_name (longest_name g) e.name) (not (is_larger (room g) e)) (and_from (entry_is_used e) (is_name (longest_name g) e.name) u name) small in
      let len = f.len in let end = f.end in
      let a : nat_eq (length (met_of g ix e)) (need_index e) ≡ true = grind (arith, nat_tests) in
      let b : nat_eq (end_of_walk g ix e) null ≡ true = grind (arith, nat_tests) in
      let r : is_none (rows_fault g ix (need_data e) (met_of g ix e)) ≡ true = ap is_none (rows-none g ix (need_data e) (met_of g ix e) f.rows) in
      let o : is_none (offsets_fault g ix 0 (met_of g ix e)) ≡ true = ap is_none (offsets-none g ix 0 (met_of g ix e) f.offsets) in
      let walk = and_from _ _ (and_from _ _ (and_from _ _ a b) r) o in
      let once : (j : ℕ) → j < length (data_in g ix e) → times_met (slice_index (data_in g ix e) j) (data_in g ix e) ≡ 1 = λ j m.
      (let n = slice_index (data_in g ix e) j in let low = times-at (data_in g ix e) j n m refl in let most = c.one_data n in
      let part = times_in-part n (map (data_in g ix) d.entries) k in
      let mine : times_met n (numbers_at (map (data_in g ix) d.entries) k) ≡ times_met n (data_in g ix e) = ap (times_met n) (get_or-map (data_in g ix) d.entries k void_entry) in
      omega (arith, low, most, part, mine)) in
      and_from (has_sound_fields g e && has_sound_walk g ix e) (stand_once (data_in g ix e) (data_in g ix e)) (and_from (has_sound_fields g e) (has_sound_walk g ix e) fields walk) (once-all (data_in g ix e) (data_in g ix e) once)

  -- its numbers are once in those of all whole entries
  used_once : (f : Entry → List ℕ) → ((n : ℕ) → times_in n (map f d.entries) ≤ 1) → (k : ℕ) → k < length d.entries → entry_is_used (get_or d.entries k void_entry) ≡ true
      → stand_once (f (get_or d.entries k void_entry)) (flat_map (λ e. cond (is_whole g d.indexes e) (f e) []) d.entries) ≡ true
  used_once f one k h u =
      let ix = d.indexes in let e = get_or d.entries k void_entry in
      let all = flat_map (λ e. cond (is_whole g ix e) (f e) []) d.entries in
      once-all (f e) all (λ j m. (let n = slice_index (f e) j in let low = times-at (f e) j n m refl in
      let mine : times_met n (cond (is_whole g ix e) (f e) []) ≡ times_met n (f e) = ap (λ v. times_met n (cond v (f e) [])) (used_whole k h u) in
      let part = times-flat n (λ e. cond (is_whole g ix e) (f e) []) d.entries k h in
      let most = part-most g ix n f d.entries in let o = one n in omega (arith, low, mine, part, most, o)))

  whole_used : (e : Entry) → is_whole g d.indexes e ≡ true → entry_is_used e ≡ true
  whole_used e w = (and_parts (entry_is_used e) _ (and_parts (entry_is_used e && is_name (longest_name g) e.name) _ (and_parts (has_sound_fields g e) _ (and_parts (has_sound_fields g e && has_sound_walk g d.indexes e) _ w).0).0).0).0

  not_hidden : (before : List Entry) (name : List ℕ) → has_name before name ≡ false → list_any (λ f. is_whole g d.indexes f && bytes_eq f.name name) before ≡ false
  unfolding has_name
  not_hidden [] name e = refl
  not_hidden (x ∷ before) name e =
      let two = or_parts (entry_is_used x && bytes_eq x.name name) (list_any (λ f. entry_is_used f && bytes_eq f.name name) before) e in
      let here : is_whole g d.indexes x && bytes_eq x.name name ≡ false = either-way (is_whole g d.indexes x) (λ v. is_whole g d.indexes x ≡ v → v && bytes_eq x.name name ≡ false)
      (λ _ w. sym (ap (λ v. v && bytes_eq x.name name) (whole_used x w)) ∙ two.0) (λ _ w. refl) refl in
      ap (λ v. v || list_any (λ f. is_whole g d.indexes f && bytes_eq f.name name) before) here ∙ not_hidden before name two.1

  -- so the entries that are kept are those that are used
  keeps_from : (before rest : List Entry) → d.entries ≡ before ++ rest → first_failing (has_bad_name g) before rest ≡ None → kept_from g d.indexes d.entries before rest ≡ filter entry_is_used rest
  unfolding first_failing
  keeps_from before [] is n = refl
  keeps_from before (e ∷ rest) is n =
      let ix = d.indexes in let es = d.entries in
      let p = passed (has_bad_name g before e) (length before) (first_failing (has_bad_name g) (before ++ e ∷ []) rest) n in
      let i = keeps_from (before ++ e ∷ []) rest (is ∙ sym (append_assoc before (e ∷ []) rest)) p.1 in
      let K = kept_from g ix es (before ++ e ∷ []) rest in
      let at : get_or es (length before) void_entry ≡ e = ap (λ xs. get_or xs (length before) void_entry) is ∙ get_or-append_right before (e ∷ rest) (length before) (length before) void_entry refl (omega arith)
      ∙ ap (λ m. get_or (e ∷ rest) m void_entry) (let z : length before - length before ≡ 0 = omega arith in z) in
      let h : length before < length es = (let l = ap length is in let a = length-append before (e ∷ rest) in omega (arith, l, a)) in
      let same : is_kept g ix es before e ≡ entry_is_used e = either-way (entry_is_used e) (λ v. entry_is_used e ≡ v → is_kept g ix es before e ≡ v)
      (λ _ u. (let w = is_kept_at before e u p.0 (length before) h at in w))
      (λ _ u. either-way (is_kept g ix es before e) (λ v. is_kept g ix es before e ≡ v → v ≡ false)
      (λ _ s. absurd (false≢true (sym u ∙ whole_used e (and_parts (is_whole g ix e) _ (and_parts (is_whole g ix e && not (is_hidden g ix before e)) _ (and_parts _ _ s).0).0).0))) (λ _ s. refl) refl)
      refl in
      ap (λ v. cond v (e ∷ K) K) same ∙ ap (λ xs. cond (entry_is_used e) (e ∷ xs) xs) i
    where
      is_kept_at : (before : List Entry) (e : Entry) → entry_is_used e ≡ true → has_bad_name g before e ≡ false → (k : ℕ) → k < length d.entries → get_or d.entries k void_entry ≡ e
          → is_kept g d.indexes d.entries before e ≡ true
      is_kept_at before e u b k h at =
          let ix = d.indexes in let es = d.entries in
          let x = get_or es k void_entry in
          let ux : entry_is_used x ≡ true = ap entry_is_used at ∙ u in
          let w : is_whole g ix e ≡ true = sym (ap (is_whole g ix) at) ∙ used_whole k h ux in
          let hid : not (is_hidden g ix before e) ≡ true = ap not (not_hidden before e.name (name-right g before e u b).1) in
          let chain : stand_once (chain_in g ix e) (whole_chains g ix es) ≡ true = sym (ap (λ y. stand_once (chain_in g ix y) (whole_chains g ix es)) at) ∙ used_once (chain_in g ix) c.one_index k h ux in
          let blocks : stand_once (data_in g ix e) (whole_datas g ix es) ≡ true = sym (ap (λ y. stand_once (data_in g ix y) (whole_datas g ix es)) at) ∙ used_once (data_in g ix) c.one_data k h ux in
          and_from _ _ (and_from _ _ (and_from _ _ w hid) chain) blocks

-- of an image without a fault all used entries are kept
pub keeps_all : (image : List ℕ) → fault image ≡ None
    → kept_entries (geometry_of image) (fields_of (geometry_of image) image).indexes (directory_entries (geometry_of image) image) ≡ filter entry_is_used (directory_entries (geometry_of image) image)
keeps_all image e =
    let g = geometry_of image in let d = fields_of g image in let c = clear_image image e in
    keeps_from g d c [] d.entries refl c.names
