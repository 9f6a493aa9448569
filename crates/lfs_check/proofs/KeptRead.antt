-- The entries that are kept, found by counts of the blocks of whole entries.
use Rattle.std.proofs.Common.{◌≡◌, ℕ, suc, ◌<◌, ◌≤◌, Bool, true, false, cond, not, ◌&&◌, ◌||◌, nat_eq, nat_lt, nat_le, min, List, [], ◌∷◌, ◌++◌, length, slice_index, take, refl, sym, ap, ◌∙◌, arith, Option, Some, None, ⊎_elim, bytes_eq}
use Rattle.std.proofs.Math.Bool.{or-false}
use Rattle.std.specs.List.{flat_map, list_any}
use Rattle.std.proofs.lemmas.List.Folds.{list_any-append}
use Rattle.std.proofs.lemmas.Bool.{cases_lt, false≢true, and_parts}
use Rattle.std.proofs.lemmas.Bool.Decides.{nat_tests}
use Rattle.lfs_format.specs.declared.Entry.{Entry}
use Rattle.lfs_format.specs.declared.Index.{Index}
use Rattle.lfs_check.specs.declared.geometry.Geometry.{Geometry}
use Rattle.lfs_check.specs.Geometries.{index_count, first_data}
use Rattle.lfs_check.specs.Meets.{times_met, null}
use Rattle.lfs_check.specs.Rules.{entry_is_used, has_name}
use Rattle.lfs_check.specs.Checks.{met_of, end_of_walk, need_index, need_data, nexts_of, data_row, rows_fault, offsets_fault}
use Rattle.lfs_check.specs.Clean.{chain_in, data_in}
use Rattle.lfs_check.specs.Kept.{is_none, stand_once, has_sound_fields, has_sound_walk, is_whole, whole_chains, whole_datas, is_hidden, kept_from, whole_entries, counted_once, kept_counted}
use Rattle.lfs_check.proofs.Walking.{walk-within}
use Rattle.lfs_check.proofs.Nones.{rows-each}
use Rattle.lfs_check.proofs.Rows.{fits-range, rows-fit}
use Rattle.lfs_check.proofs.Steps.{times-at}

-- the test for no fault
pub none-is : (o : Option ℕ) → is_none o ≡ true → o ≡ None
none-is None e = refl
none-is (Some a) e = absurd (false≢true e)

-- counts up to 2 tell what is counted once
one_same : (c t : ℕ) → c ≡ min 2 t → nat_eq c 1 ≡ nat_eq t 1
one_same c t e = ⊎_elim
    (λ (lt : t < 2). (let s : c ≡ t = omega (arith, e, lt) in ap (λ n. nat_eq n 1) s))
    (λ (ge : 2 ≤ t). (let a : nat_eq c 1 ≡ false = (let s : c ≡ 2 = omega (arith, e, ge) in grind (arith, nat_tests)) in let b : nat_eq t 1 ≡ false = grind (arith, nat_tests) in a ∙ sym b))
    (cases_lt t 2)

-- a list whose numbers were counted once stands once in all that was counted
pub once_counted : (xs counts all : List ℕ) (high : ℕ) → ((n : ℕ) → n < high → slice_index counts n ≡ min 2 (times_met n all)) → ((j : ℕ) → j < length xs → slice_index xs j < high) → counted_once xs counts ≡ stand_once xs all
once_counted [] counts all high each below = refl
once_counted (x ∷ xs) counts all high each below =
    ap (λ b. b && counted_once xs counts) (one_same (slice_index counts x) (times_met x all) (each x (below 0 (omega arith))))
    ∙ ap (λ b. nat_eq (times_met x all) 1 && b) (once_counted xs counts all high each (λ j h. below (suc j) (omega (arith, h))))

-- rows of sixteen numbers
abbrev pub Rows : Geometry → List Index → Type 0
Rows g ix = (i : ℕ) → i < index_count g → length (data_row ix i) ≡ 16

-- the blocks of an entry with a sound walk are in range
pub sound_below : (g : Geometry) (ix : List Index) (e : Entry) → Rows g ix → has_sound_walk g ix e ≡ true → (j : ℕ) → j < length (data_in g ix e) → slice_index (data_in g ix e) j < g.blocks
sound_below g ix e r w =
    let d = nat_eq (length (met_of g ix e)) (need_index e) in let f = nat_eq (end_of_walk g ix e) null in
    let h = is_none (rows_fault g ix (need_data e) (met_of g ix e)) in let i = is_none (offsets_fault g ix 0 (met_of g ix e)) in
    let rows = none-is (rows_fault g ix (need_data e) (met_of g ix e)) (and_parts (d && f) h (and_parts (d && f && h) i w).0).1 in
    let wide : (j : ℕ) → j < length (met_of g ix e) → length (data_row ix (slice_index (met_of g ix e) j)) ≡ 16 = λ j h. r (slice_index (met_of g ix e) j) (walk-within (nexts_of ix) 0 (index_count g) (need_index e) e.first j h).1 in
    let fit = rows-fit g ix (need_data e) (met_of g ix e) wide (rows-each g ix (need_data e) (met_of g ix e) rows) in
    let xs = take (need_data e) (flat_map (data_row ix) (met_of g ix e)) in
    let P : Bool → Type 0 = λ v. (j : ℕ) → j < length (cond v xs []) → slice_index (cond v xs []) j < g.blocks in
    let yes : P true = λ j m. (let b = slice_index xs j in let here = times-at xs j b m refl in
    ⊎_elim (λ (lt : b < g.blocks). lt)
    (λ (ge : g.blocks ≤ b). (let t : nat_lt b g.blocks ≡ false = grind (arith, nat_tests) in
    let z = fits-range g (need_data e) (flat_map (data_row ix) (met_of g ix e)) fit b (within_no (nat_le (first_data g) b) (nat_lt b g.blocks) t) in absurd (omega (arith, here, z))))
    (cases_lt b g.blocks)) in
    let no : P false = λ j m. absurd (omega (arith, m)) in
    let all : (v : Bool) → P v = λ v. elim v as (λ v. P v) [ true ↦ yes | false ↦ no ] in
    all (entry_is_used e)
  where
    within_no : (x y : Bool) → y ≡ false → x && y ≡ false
    within_no true y e = e
    within_no false y e = refl

-- the index blocks of a file are below their number
pub chain_below : (g : Geometry) (ix : List Index) (e : Entry) (j : ℕ) → j < length (chain_in g ix e) → slice_index (chain_in g ix e) j < index_count g
chain_below g ix e =
    let P : Bool → Type 0 = λ v. (j : ℕ) → j < length (cond v (met_of g ix e) []) → slice_index (cond v (met_of g ix e) []) j < index_count g in
    let all : (v : Bool) → P v = λ v. elim v as (λ v. P v) [ true ↦ (λ j m. (walk-within (nexts_of ix) 0 (index_count g) (need_index e) e.first j m).1) | false ↦ (λ j m. absurd (omega (arith, m))) ] in
    all (entry_is_used e)

-- the blocks of whole entries
pub flat_whole : (g : Geometry) (ix : List Index) (f : Entry → List ℕ) (es : List Entry) → flat_map f (whole_entries g ix es) ≡ flat_map (λ e. cond (is_whole g ix e) (f e) []) es
flat_whole g ix f [] = refl
flat_whole g ix f (e ∷ es) =
    let i = flat_whole g ix f es in let W = whole_entries g ix es in
    let P : Bool → Type 0 = λ b. flat_map f (cond b (e ∷ W) W) ≡ cond b (f e) [] ++ flat_map (λ e. cond (is_whole g ix e) (f e) []) es in
    let all : (b : Bool) → P b = λ b. elim b as (λ b. P b) [ true ↦ ap (λ xs. f e ++ xs) i | false ↦ i ] in
    all (is_whole g ix e)

-- a last alternative that fails adds nothing
pub or_or_false : (a b : Bool) → a || (b || false) ≡ a || b
or_or_false a true = refl
or_or_false a false = refl

-- what is known of a whole entry
sound_of : (g : Geometry) (ix : List Index) (e : Entry) → is_whole g ix e ≡ true → (entry_is_used e ≡ true) × (has_sound_walk g ix e ≡ true)
sound_of g ix e w =
    let s = (and_parts (has_sound_fields g e && has_sound_walk g ix e) (stand_once (data_in g ix e) (data_in g ix e)) w).0 in
    let p = and_parts (has_sound_fields g e) (has_sound_walk g ix e) s in
    ((and_parts (entry_is_used e) _ (and_parts (entry_is_used e && _) _ p.0).0).0, p.1)

-- found among whole entries alone
pub kept_found : (g : Geometry) (ix : List Index) (es : List Entry) (chains blocks : List ℕ) → Rows g ix
    → ((n : ℕ) → n < index_count g → slice_index chains n ≡ min 2 (times_met n (whole_chains g ix es))) → ((n : ℕ) → n < g.blocks → slice_index blocks n ≡ min 2 (times_met n (whole_datas g ix es)))
    → (before wholes rest : List Entry) → ((x : List ℕ) → has_name wholes x ≡ list_any (λ f. is_whole g ix f && bytes_eq f.name x) before)
    → kept_counted g ix chains blocks wholes (whole_entries g ix rest) ≡ kept_from g ix es before rest
unfolding has_name
kept_found g ix es chains blocks r cs bs before wholes [] same = refl
kept_found g ix es chains blocks r cs bs before wholes (e ∷ rest) same =
    let a = is_whole g ix e in
    let c = stand_once (chain_in g ix e) (whole_chains g ix es) in let d = stand_once (data_in g ix e) (whole_datas g ix es) in
    let hid = is_hidden g ix before e in
    let K = kept_from g ix es (before ++ e ∷ []) rest in
    let push : (x : List ℕ) → list_any (λ f. is_whole g ix f && bytes_eq f.name x) (before ++ e ∷ []) ≡ list_any (λ f. is_whole g ix f && bytes_eq f.name x) before || (a && bytes_eq e.name x) = λ x.
    list_any-append (λ f. is_whole g ix f && bytes_eq f.name x) before (e ∷ []) ∙ or_or_false (list_any (λ f. is_whole g ix f && bytes_eq f.name x) before) (a && bytes_eq e.name x) in
    let W = whole_entries g ix rest in
    let P : Bool → Type 0 = λ v. a ≡ v → kept_counted g ix chains blocks wholes (cond v (e ∷ W) W) ≡ cond (v && not hid && c && d) (e ∷ K) K in
    let yes : P true = λ w. (
    let f = sound_of g ix e w in
    let more : (x : List ℕ) → has_name (wholes ++ e ∷ []) x ≡ list_any (λ f. is_whole g ix f && bytes_eq f.name x) (before ++ e ∷ []) = λ x.
    list_any-append (λ (z : Entry). entry_is_used z && bytes_eq z.name x) wholes (e ∷ []) ∙ or_or_false (has_name wholes x) (entry_is_used e && bytes_eq e.name x)
    ∙ ap (λ v. has_name wholes x || (v && bytes_eq e.name x)) f.0 ∙ ap (λ v. v || bytes_eq e.name x) (same x)
    ∙ sym (push x ∙ ap (λ v. list_any (λ f. is_whole g ix f && bytes_eq f.name x) before || (v && bytes_eq e.name x)) w) in
    let i = kept_found g ix es chains blocks r cs bs (before ++ e ∷ []) (wholes ++ e ∷ []) rest more in
    let one = once_counted (chain_in g ix e) chains (whole_chains g ix es) (index_count g) cs (chain_below g ix e) in
    let two = once_counted (data_in g ix e) blocks (whole_datas g ix es) g.blocks bs (sound_below g ix e r f.1) in
    let rest_of = kept_counted g ix chains blocks (wholes ++ e ∷ []) W in
    ap (λ v. cond (not v && counted_once (chain_in g ix e) chains && counted_once (data_in g ix e) blocks) (e ∷ rest_of) rest_of) (same e.name)
    ∙ ap (λ v. cond (not hid && v && counted_once (data_in g ix e) blocks) (e ∷ rest_of) rest_of) one ∙ ap (λ v. cond (not hid && c && v) (e ∷ rest_of) rest_of) two
    ∙ ap (λ xs. cond (not hid && c && d) (e ∷ xs) xs) i) in
    let no : P false = λ w. kept_found g ix es chains blocks r cs bs (before ++ e ∷ []) wholes rest
    (λ x. same x ∙ sym (push x ∙ ap (λ v. list_any (λ f. is_whole g ix f && bytes_eq f.name x) before || (v && bytes_eq e.name x)) w ∙ or-false (list_any (λ f. is_whole g ix f && bytes_eq f.name x) before))) in
    let all : (v : Bool) → P v = λ v. elim v as (λ v. P v) [ true ↦ yes | false ↦ no ] in
    all a refl

-- no entry before, no whole one of that name
pub no_wholes : (g : Geometry) (ix : List Index) (x : List ℕ) → has_name [] x ≡ list_any (λ f. is_whole g ix f && bytes_eq f.name x) []
unfolding has_name
no_wholes g ix x = refl
