-- The files of the entries that are kept have room, and names that are apart.
use Rattle.std.proofs.Common.{◌≡◌, ℕ, zero, suc, ◌+◌, ◌-◌, ◌*◌, ◌<◌, ◌≤◌, Bool, true, false, cond, not, ◌&&◌, ◌||◌, nat_eq, nat_lt, nat_le, List, [], ◌∷◌, ◌++◌, length, get_or, slice_index, take, refl, sym, ap, ◌∙◌, arith, length-take, None, ⊎_elim, bytes_eq}
use Rattle.std.proofs.Math.Bool.{and-true}
use Rattle.lfs_check.proofs.KeptRead.{none-is, or_or_false, Rows}
use Rattle.std.specs.List.{flat_map, list_any}
use Rattle.std.proofs.lemmas.List.Folds.{list_any-append}
use Rattle.std.proofs.lemmas.Bool.{cases_lt, and_parts, not-true, or_parts}
use Rattle.std.proofs.lemmas.Bool.Decides.{nat_tests}
use Rattle.lfs_format.specs.declared.Entry.{Entry}
use Rattle.lfs_format.specs.declared.Index.{Index}
use Rattle.lfs_format.specs.Directory.{void_entry}
use Rattle.lfs_check.specs.declared.geometry.Geometry.{Geometry}
use Rattle.lfs_check.specs.Geometries.{index_count, first_data, longest_name, room}
use Rattle.lfs_check.specs.Meets.{times_met, null}
use Rattle.lfs_check.specs.Rules.{entry_is_used, is_name, is_larger}
use Rattle.lfs_check.specs.Checks.{met_of, end_of_walk, need_index, need_data, nexts_of, data_row, row_fits, rows_fault, offsets_fault, is_between}
use Rattle.lfs_check.specs.Clean.{chain_in, data_in}
use Rattle.lfs_check.specs.Kept.{is_none, stand_once, has_sound_fields, has_sound_walk, is_whole, whole_chains, whole_datas, is_hidden, is_kept, kept_from, kept_entries}
use Rattle.lfs_check.proofs.Walking.{walk-within}
use Rattle.lfs_check.proofs.Nones.{rows-each}
use Rattle.lfs_check.proofs.Rows.{fits-range, length-rows, rows-fit}
use Rattle.lfs_check.proofs.Steps.{times-append, times-at}
use Rattle.lfs_check.proofs.Counting.{in_range, length-most}
use Rattle.lfs_check.proofs.Keeping.{kept_apart}
use Rattle.lfs_layout.specs.Files.{File, content_of, files_in, total_for, is_among, names_right, names_of}
use Rattle.lfs_layout.proofs.CleanRoom.{Whole, totals}
use Rattle.lfs_layout.proofs.FilesSet.{among_push}

-- what is known of a whole entry
record WholeFacts (g : Geometry) (ix : List Index) (e : Entry) : Type 0 where
  used : entry_is_used e ≡ true
  name : is_name (longest_name g) e.name ≡ true
  as_needed : length (met_of g ix e) ≡ need_index e
  rows : rows_fault g ix (need_data e) (met_of g ix e) ≡ None

-- the tests of a whole entry, one by one
whole_facts : (g : Geometry) (ix : List Index) (e : Entry) → is_whole g ix e ≡ true → WholeFacts g ix e
whole_facts g ix e w =
    let a = entry_is_used e in let b = is_name (longest_name g) e.name in let c = not (is_larger (room g) e) in
    let d = nat_eq (length (met_of g ix e)) (need_index e) in let f = nat_eq (end_of_walk g ix e) null in
    let h = is_none (rows_fault g ix (need_data e) (met_of g ix e)) in let i = is_none (offsets_fault g ix 0 (met_of g ix e)) in
    let sound = and_parts (has_sound_fields g e && has_sound_walk g ix e) (stand_once (data_in g ix e) (data_in g ix e)) w in
    let s = and_parts (has_sound_fields g e) (has_sound_walk g ix e) sound.0 in
    let m = and_parts a b (and_parts (a && b) c s.0).0 in
    let q = and_parts (d && f && h) i s.1 in
    let p = and_parts (d && f) h q.0 in
    let o = and_parts d f p.0 in
    record {
      used = m.0;
      name = m.1;
      as_needed = (let t = o.0 in grind (arith, nat_tests));
      rows = none-is (rows_fault g ix (need_data e) (met_of g ix e)) p.1;
    }

-- each index block of a file has 16 numbers
rows_of : (g : Geometry) (ix : List Index) (e : Entry) → Rows g ix → (j : ℕ) → j < length (met_of g ix e) → length (data_row ix (slice_index (met_of g ix e) j)) ≡ 16
rows_of g ix e r j h = r (slice_index (met_of g ix e) j) (walk-within (nexts_of ix) 0 (index_count g) (need_index e) e.first j h).1

-- the data numbers of a whole entry fit what it needs
data_fits : (g : Geometry) (ix : List Index) (e : Entry) → Rows g ix → WholeFacts g ix e → row_fits g (need_data e) (flat_map (data_row ix) (met_of g ix e)) ≡ true
data_fits g ix e r f = rows-fit g ix (need_data e) (met_of g ix e) (rows_of g ix e r) (rows-each g ix (need_data e) (met_of g ix e) f.rows)

-- no number out of range is among its data blocks, or its index blocks
data_none : (g : Geometry) (ix : List Index) (e : Entry) (b : ℕ) → Rows g ix → is_whole g ix e ≡ true → is_between (first_data g) g.blocks b ≡ false → times_met b (data_in g ix e) ≡ 0
data_none g ix e b r w out =
    let f = whole_facts g ix e w in
    ap (λ v. times_met b (cond v (take (need_data e) (flat_map (data_row ix) (met_of g ix e))) [])) f.used ∙ fits-range g (need_data e) (flat_map (data_row ix) (met_of g ix e)) (data_fits g ix e r f) b out

-- a number that is no smaller than all of a list isn't in it
times_none : (i high : ℕ) (xs : List ℕ) → high ≤ i → ((j : ℕ) → j < length xs → slice_index xs j < high) → times_met i xs ≡ 0
times_none i high [] h all = refl
times_none i high (x ∷ xs) h all =
    let low = all 0 (omega arith) in let t : nat_eq x i ≡ false = grind (arith, nat_tests) in
    let n = times_none i high xs h (λ j m. all (suc j) (omega (arith, m))) in
    ap (λ v. cond v 1 0 + times_met i xs) t ∙ (omega (arith, n))

-- a number beyond the index blocks isn't in a chain
chain_none : (g : Geometry) (ix : List Index) (e : Entry) (i : ℕ) → index_count g ≤ i → times_met i (chain_in g ix e) ≡ 0
chain_none g ix e i h =
    let P : Bool → Type 0 = λ v. times_met i (cond v (met_of g ix e) []) ≡ 0 in
    let all : (v : Bool) → P v = λ v. elim v as (λ v. P v)
    [ true ↦ times_none i (index_count g) (met_of g ix e) h (λ j m. (walk-within (nexts_of ix) 0 (index_count g) (need_index e) e.first j m).1) | false ↦ refl ] in
    all (entry_is_used e)

-- a whole entry's blocks are as many as its size needs
pub whole_is : (g : Geometry) (ix : List Index) (e : Entry) → Rows g ix → is_whole g ix e ≡ true → Whole g ix g.blocks e
whole_is g ix e r w =
    let f = whole_facts g ix e w in
    let all = flat_map (data_row ix) (met_of g ix e) in
    let l = length-rows ix (met_of g ix e) (rows_of g ix e r) in let n = f.as_needed in
    let t = length-take (need_data e) all in
    let d : length (data_in g ix e) ≡ length (take (need_data e) all) = ap (λ v. length (cond v (take (need_data e) all) [])) f.used in
    record {
      indexes = ap (λ v. length (cond v (met_of g ix e) [])) f.used ∙ n;
      datas = omega (arith, d, t, l, n);
      below = λ j h. (let b = slice_index (data_in g ix e) j in let here = times-at (data_in g ix e) j b h refl in
          ⊎_elim (λ (lt : b < g.blocks). lt)
          (λ (ge : g.blocks ≤ b). (let t : nat_lt b g.blocks ≡ false = grind (arith, nat_tests) in
          let out : is_between (first_data g) g.blocks b ≡ false = within_no (nat_le (first_data g) b) (nat_lt b g.blocks) t in
          let z = data_none g ix e b r w out in absurd (omega (arith, here, z))))
          (cases_lt b g.blocks));
    }
  where
    within_no : (x y : Bool) → y ≡ false → x && y ≡ false
    within_no true y e = e
    within_no false y e = refl

-- the entries that are kept are whole
pub kept_whole : (g : Geometry) (ix : List Index) (es before rest : List Entry) → (k : ℕ) → k < length (kept_from g ix es before rest) → is_whole g ix (get_or (kept_from g ix es before rest) k void_entry) ≡ true
kept_whole g ix es before [] k h = absurd (omega (arith, h))
kept_whole g ix es before (e ∷ rest) k h =
    let K = kept_from g ix es (before ++ e ∷ []) rest in
    let i = kept_whole g ix es (before ++ e ∷ []) rest in
    let Q : List Entry → Type 0 = λ xs. (k : ℕ) → k < length xs → is_whole g ix (get_or xs k void_entry) ≡ true in
    let P : Bool → Type 0 = λ b. is_kept g ix es before e ≡ b → Q (cond b (e ∷ K) K) in
    let yes : P true = λ s. push e K (whole_of s) i in
    let no : P false = λ s. i in
    let all : (b : Bool) → P b = λ b. elim b as (λ b. P b) [ true ↦ yes | false ↦ no ] in
    all (is_kept g ix es before e) refl k h
  where
    whole_of : is_kept g ix es before e ≡ true → is_whole g ix e ≡ true
    whole_of s =
        let a = is_whole g ix e in let b = not (is_hidden g ix before e) in
        let c = stand_once (chain_in g ix e) (whole_chains g ix es) in let d = stand_once (data_in g ix e) (whole_datas g ix es) in
        (and_parts a b (and_parts (a && b) c (and_parts (a && b && c) d s).0).0).0

    push : (x : Entry) (xs : List Entry) → is_whole g ix x ≡ true → ((k : ℕ) → k < length xs → is_whole g ix (get_or xs k void_entry) ≡ true) → (k : ℕ) → k < length (x ∷ xs) → is_whole g ix (get_or (x ∷ xs) k void_entry) ≡ true
    push x xs w all zero m = w
    push x xs w all (suc j) m = all j (omega (arith, m))

-- a number that is in no list isn't in all of them
flat_none : (f : Entry → List ℕ) (n : ℕ) (es : List Entry) → ((k : ℕ) → k < length es → times_met n (f (get_or es k void_entry)) ≡ 0) → times_met n (flat_map f es) ≡ 0
flat_none f n [] all = refl
flat_none f n (e ∷ es) all =
    let i = flat_none f n es (λ k h. all (suc k) (omega (arith, h))) in let o = all 0 (omega arith) in let a = times-append n (f e) (flat_map f es) in omega (arith, i, o, a)

-- so their files need no more room than there is
pub kept_totals : (g : Geometry) (ix : List Index) (image : List ℕ) (es : List Entry) → Rows g ix → length image ≡ 512 * g.blocks
    → (total_for 512 (files_in g ix image (kept_entries g ix es)) ≤ g.blocks - first_data g) × (total_for 8192 (files_in g ix image (kept_entries g ix es)) ≤ index_count g)
kept_totals g ix image es r l =
    let K = kept_entries g ix es in
    let whole : (k : ℕ) → k < length K → is_whole g ix (get_or K k void_entry) ≡ true = kept_whole g ix es [] es in
    let t = totals g ix image g.blocks K l (λ k h u. whole_is g ix (get_or K k void_entry) r (whole k h)) in
    let datas = length-most (first_data g) g.blocks (flat_map (data_in g ix) K)
    (λ b. (let one = (kept_apart g ix es b).1 in
    let P : Bool → Type 0 = λ v. nat_lt b g.blocks && not (nat_lt b (first_data g)) ≡ v → times_met b (flat_map (data_in g ix) K) ≤ cond v 1 0 in
    let yes : P true = λ s. one in
    let no : P false = λ s. (let z = flat_none (data_in g ix) b K (λ k h. data_none g ix (get_or K k void_entry) b r (whole k h) (within_is (first_data g) g.blocks b s)) in omega (arith, z)) in
    let all : (v : Bool) → P v = λ v. elim v as (λ v. P v) [ true ↦ yes | false ↦ no ] in
    all (nat_lt b g.blocks && not (nat_lt b (first_data g))) refl)) in
    let chains = length-most 0 (index_count g) (flat_map (chain_in g ix) K)
    (λ i. (let one = (kept_apart g ix es i).0 in
    ⊎_elim (λ (lt : i < index_count g). (let a : nat_lt i (index_count g) ≡ true = grind (arith, nat_tests) in let b : nat_lt i 0 ≡ false = grind (arith, nat_tests) in
    let z : in_range 0 (index_count g) i ≡ 1 = ap (λ v. cond (v && not (nat_lt i 0)) 1 0) a ∙ ap (λ v. cond (not v) 1 0) b in omega (arith, one, z)))
    (λ (ge : index_count g ≤ i). (let z = flat_none (chain_in g ix) i K (λ k h. chain_none g ix (get_or K k void_entry) i ge) in omega (arith, z)))
    (cases_lt i (index_count g)))) in
    let one = t.0 in let two = t.1 in
    (omega (arith, one, datas), omega (arith, two, chains))
  where
    within_is : (low high b : ℕ) → nat_lt b high && not (nat_lt b low) ≡ false → is_between low high b ≡ false
    within_is low high b s = ⊎_elim
        (λ (lt : b < low). (let t : nat_le low b ≡ false = grind (arith, nat_tests) in ap (λ v. v && nat_lt b high) t))
        (λ (ge : low ≤ b). (let t : nat_le low b ≡ true = grind (arith, nat_tests) in let u : nat_lt b low ≡ false = grind (arith, nat_tests) in
        ap (λ v. v && nat_lt b high) t ∙ sym (ap (λ v. nat_lt b high && not v) u ∙ and-true (nat_lt b high)) ∙ s))
        (cases_lt b low)

-- names

-- whether a whole entry among some has a name
abbrev whole_named : Geometry → List Index → List Entry → List ℕ → Bool
whole_named g ix before x = list_any (λ f. is_whole g ix f && bytes_eq f.name x) before

-- one entry more at the end
named_push : (g : Geometry) (ix : List Index) (before : List Entry) (e : Entry) (x : List ℕ) → whole_named g ix (before ++ e ∷ []) x ≡ whole_named g ix before x || (is_whole g ix e && bytes_eq e.name x)
named_push g ix before e x = list_any-append (λ f. is_whole g ix f && bytes_eq f.name x) before (e ∷ []) ∙ or_or_false (whole_named g ix before x) (is_whole g ix e && bytes_eq e.name x)

-- the names of kept entries are apart
pub kept_names : (g : Geometry) (ix : List Index) (image : List ℕ) (es before : List Entry) (names : List (List ℕ)) (rest : List Entry)
    → ((x : List ℕ) → whole_named g ix before x ≡ false → is_among names x ≡ false) → names_right (longest_name g) names (names_of (files_in g ix image (kept_from g ix es before rest))) ≡ true
kept_names g ix image es before names [] h = refl
kept_names g ix image es before names (e ∷ rest) h =
    let K = kept_from g ix es (before ++ e ∷ []) rest in
    let P : Bool → Type 0 = λ b. is_kept g ix es before e ≡ b → names_right (longest_name g) names (names_of (files_in g ix image (cond b (e ∷ K) K))) ≡ true in
    let yes : P true = λ s. (
    let a = is_whole g ix e in let b = not (is_hidden g ix before e) in
    let c = stand_once (chain_in g ix e) (whole_chains g ix es) in let d = stand_once (data_in g ix e) (whole_datas g ix es) in
    let two = and_parts a b (and_parts (a && b) c (and_parts (a && b && c) d s).0).0 in
    let f = whole_facts g ix e two.0 in
    let fresh = h e.name (not-true (is_hidden g ix before e) two.1) in
    let file : File = record { name = e.name; bytes = content_of g ix image e } in
    let more : (x : List ℕ) → whole_named g ix (before ++ e ∷ []) x ≡ false → is_among (names ++ e.name ∷ []) x ≡ false = λ x q. (
    let p = or_parts (whole_named g ix before x) (a && bytes_eq e.name x) (sym (named_push g ix before e x) ∙ q) in
    among_push names e.name x ∙ ap (λ v. v || bytes_eq e.name x) (h x p.0) ∙ (sym (ap (λ v. v && bytes_eq e.name x) two.0) ∙ p.1)) in
    let tail = names_right (longest_name g) (names ++ e.name ∷ []) (names_of (files_in g ix image K)) in
    ap (λ u. names_right (longest_name g) names (names_of (cond u (file ∷ files_in g ix image K) (files_in g ix image K)))) f.used
    ∙ ap (λ v. v && not (is_among names e.name) && tail) f.name ∙ ap (λ v. not v && tail) fresh
    ∙ kept_names g ix image es (before ++ e ∷ []) (names ++ e.name ∷ []) rest more) in
    let no : P false = λ s. kept_names g ix image es (before ++ e ∷ []) names rest
    (λ x q. h x (or_parts (whole_named g ix before x) (is_whole g ix e && bytes_eq e.name x) (sym (named_push g ix before e x) ∙ q)).0) in
    let all : (b : Bool) → P b = λ b. elim b as (λ b. P b) [ true ↦ yes | false ↦ no ] in
    all (is_kept g ix es before e) refl

-- they are no more than all entries, and as wide
pub kept_few : (g : Geometry) (ix : List Index) (es before rest : List Entry) → length (kept_from g ix es before rest) ≤ length rest
kept_few g ix es before [] = omega arith
kept_few g ix es before (e ∷ rest) =
    let i = kept_few g ix es (before ++ e ∷ []) rest in let K = kept_from g ix es (before ++ e ∷ []) rest in
    let P : Bool → Type 0 = λ b. length (cond b (e ∷ K) K) ≤ suc (length rest) in
    let all : (b : Bool) → P b = λ b. elim b as (λ b. P b) [ true ↦ omega (arith, i) | false ↦ omega (arith, i) ] in
    all (is_kept g ix es before e)

-- the kept entries have names of 28 bytes if all have
pub kept_wide : (g : Geometry) (ix : List Index) (es before rest : List Entry) → ((k : ℕ) → k < length rest → length (get_or rest k void_entry).name ≡ 28)
    → (k : ℕ) → k < length (kept_from g ix es before rest) → length (get_or (kept_from g ix es before rest) k void_entry).name ≡ 28
kept_wide g ix es before [] w k h = absurd (omega (arith, h))
kept_wide g ix es before (e ∷ rest) w k h =
    let K = kept_from g ix es (before ++ e ∷ []) rest in
    let i = kept_wide g ix es (before ++ e ∷ []) rest (λ j m. w (suc j) (omega (arith, m))) in
    let P : Bool → Type 0 = λ b. (k : ℕ) → k < length (cond b (e ∷ K) K) → length (get_or (cond b (e ∷ K) K) k void_entry).name ≡ 28 in
    let all : (b : Bool) → P b = λ b. elim b as (λ b. P b) [ true ↦ push e K (w 0 (omega arith)) i | false ↦ i ] in
    all (is_kept g ix es before e) k h
  where
    push : (x : Entry) (xs : List Entry) → length x.name ≡ 28 → ((k : ℕ) → k < length xs → length (get_or xs k void_entry).name ≡ 28) → (k : ℕ) → k < length (x ∷ xs) → length (get_or (x ∷ xs) k void_entry).name ≡ 28
    push x xs w all zero m = w
    push x xs w all (suc j) m = all j (omega (arith, m))

-- a kept entry is used
pub kept_is_used : (g : Geometry) (ix : List Index) (es before : List Entry) (e : Entry) → is_kept g ix es before e ≡ true → entry_is_used e ≡ true
kept_is_used g ix es before e s =
    let a = is_whole g ix e in let b = not (is_hidden g ix before e) in
    let c = stand_once (chain_in g ix e) (whole_chains g ix es) in let d = stand_once (data_in g ix e) (whole_datas g ix es) in
    (whole_facts g ix e (and_parts a b (and_parts (a && b) c (and_parts (a && b && c) d s).0).0).0).used
