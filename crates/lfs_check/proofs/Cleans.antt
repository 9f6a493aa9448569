-- A disk on which no rule is broken is one on which files lie, with nothing held.
use Rattle.std.proofs.Common.{◌≡◌, ℕ, zero, suc, ◌+◌, ◌-◌, ◌*◌, ◌<◌, ◌≤◌, Bool, true, false, cond, not, ◌&&◌, nat_lt, nat_le, nat_eq, List, [], ◌∷◌, ◌++◌, length, map, take, get_or, slice_index, slice_index_or, refl, sym, ap, ◌∙◌, subst, arith, length-take, ⊎_elim, None}
use Rattle.std.proofs.lemmas.List.{length-map}
use Rattle.std.specs.List.{flat_map}
use Rattle.std.proofs.Math.ListN.{get_or-map}
use Rattle.std.proofs.lemmas.Bool.{cases_lt}
use Rattle.std.proofs.lemmas.Bool.Decides.{nat_tests}
use Rattle.lfs_format.specs.declared.Entry.{Entry}
use Rattle.lfs_format.specs.declared.Index.{Index}
use Rattle.lfs_check.specs.declared.geometry.Geometry.{Geometry}
use Rattle.lfs_check.specs.Geometries.{index_count, first_data, IsGeometry}
use Rattle.lfs_check.specs.Rules.{entry_is_used}
use Rattle.lfs_format.specs.Directory.{void_entry}
use Rattle.lfs_check.specs.Meets.{null, times_met}
use Rattle.lfs_check.specs.Laid.{Shape, FileLies, no_index, index_in, entry_in, numbers_at, times_in}
use Rattle.lfs_check.specs.Checks.{nexts_of, met_of, end_of_walk, need_index, need_data, data_row, row_fits, rows_fault, offsets_fault, end_fault, is_file_end, file_fault_4, file_fault_5, file_index_numbers, file_data_numbers, free_index_of, free_index_end, free_data_of, free_data_end, free_data_fault, free_index_fault, free_fault, index_numbers, data_numbers, least, is_between}
use Rattle.lfs_check.specs.Clean.{chain_in, data_in, places_of, IsShape, Passes, LaidIn}
use Rattle.lfs_check.proofs.Nones.{least-nones, cond-none, lowest-each, rows-each, offsets-each, first_from-each, block-nones, not-twice, not-never}
use Rattle.lfs_check.proofs.Rows.{length-rows, rows-fit, rows-are, fits-times, fits-range}
use Rattle.lfs_check.proofs.Ends.{no-end, free-end, within-of, out-within, times-out, times-ended}
use Rattle.lfs_check.proofs.Walking.{walk-within, walk-few}
use Rattle.lfs_check.proofs.Steps.{times-append}
use Rattle.lfs_check.proofs.Chains.{walk-goes, Goes-chain, Goes}

-- the index block of a number
abbrev pub row_index : List Index → ℕ → Index
row_index ix i = slice_index_or ix i no_index

-- what the rules 4 and 5 say of the file of an entry
pub record FileFacts (g : Geometry) (ix : List Index) (e : Entry) : Type 0 where
  pub len : length (met_of g ix e) ≡ need_index e
  pub end : end_of_walk g ix e ≡ null
  pub rows : (j : ℕ) → j < length (met_of g ix e) → row_fits g (need_data e - 16 * j) (data_row ix (slice_index (met_of g ix e) j)) ≡ true
  pub offsets : (j : ℕ) → j < length (met_of g ix e) → (row_index ix (slice_index (met_of g ix e) j)).offset ≡ 0 + 8192 * j

-- a number is in one of several lists no more often than in all of them together
pub times-flat : (n : ℕ) (f : Entry → List ℕ) (es : List Entry) (j : ℕ) → j < length es → times_met n (f (get_or es j void_entry)) ≤ times_met n (flat_map f es)
times-flat n f [] j h = absurd (omega (arith, h))
times-flat n f (e ∷ es) zero h = (let t = times-append n (f e) (flat_map f es) in omega (arith, t))
times-flat n f (e ∷ es) (suc j) h = (let t = times-append n (f e) (flat_map f es) in let i = times-flat n f es j (omega arith) in omega (arith, t, i))

-- a choice whose test is true
pub used-cond : {A : Type 0} → (b : Bool) (x y : A) → b ≡ true → cond b x y ≡ x
used-cond b x y e = ap (λ c. cond c x y) e

-- on a disk that passes each index block is met once
pub once_index : (g : Geometry) (d : Shape) → Passes g d → (i : ℕ) → i < index_count g → times_met i (index_numbers g d) ≡ 1
once_index g d p i h =
    let six = first_from-each (λ i. nat_le 2 (times_met i (index_numbers g d))) 0 (index_count g) (block-nones g _ _ p.six).0 i (omega arith) (omega (arith, h)) in
    let seven = first_from-each (λ i. nat_le (times_met i (index_numbers g d)) 0) 0 (index_count g) (block-nones g _ _ p.seven).0 i (omega arith) (omega (arith, h)) in
    let a = not-twice i (index_numbers g d) six in let b = not-never i (index_numbers g d) seven in omega (arith, a, b)

-- what was met at most once and at least once was met once
once_rule : (n : ℕ) (xs : List ℕ) → nat_le 2 (times_met n xs) ≡ false → nat_le (times_met n xs) 0 ≡ false → times_met n xs ≡ 1
once_rule n xs six seven = (let a = not-twice n xs six in let b = not-never n xs seven in omega (arith, a, b))

-- on a disk that passes each data block is met once
pub once_data : (g : Geometry) (d : Shape) → Passes g d → (b : ℕ) → first_data g ≤ b → b < g.blocks → times_met b (data_numbers g d) ≡ 1
once_data g d p b l h =
    let top : b < first_data g + (g.blocks - first_data g) = omega (arith, h, l) in
    once_rule b (data_numbers g d) (first_from-each (λ b. nat_le 2 (times_met b (data_numbers g d))) (first_data g) (g.blocks - first_data g) (block-nones g _ _ p.six).1 b l top)
    (first_from-each (λ b. nat_le (times_met b (data_numbers g d)) 0) (first_data g) (g.blocks - first_data g) (block-nones g _ _ p.seven).1 b l top)

-- what passing says of the file of one used entry
pub file_facts : (g : Geometry) (d : Shape) → Passes g d → (k : ℕ) → k < length d.entries → entry_is_used (entry_in d k) ≡ true → FileFacts g d.indexes (entry_in d k)
file_facts g d p k h used =
    let e = entry_in d k in
    let ix = d.indexes in
    let W = met_of g ix e in
    let E = end_of_walk g ix e in
    let all4 = lowest-each (file_fault_4 g ix) d.entries 0 (least-nones (free_fault g d) _ p.four).1 k h in
    let four = sym (used-cond (entry_is_used e) (least (end_fault g (0 + k) e W E) (rows_fault g ix (need_data e) W)) None used) ∙ all4 in
    let five = sym (used-cond (entry_is_used e) (offsets_fault g ix 0 W) None used) ∙ lowest-each (file_fault_5 g ix) d.entries 0 p.five k h in
    let parts = least-nones (end_fault g (0 + k) e W E) (rows_fault g ix (need_data e) W) four in
    let right : is_file_end g (need_index e) (length W) E ≡ true = cond-none _ _ parts.0 in
    let few = walk-few (nexts_of ix) 0 (index_count g) (need_index e) e.first in
    let once : (b : ℕ) → 0 ≤ b → b < index_count g → times_met b (W ++ E ∷ []) ≤ 1 = λ b l m.
    (let o = once_index g d p b m in
    let t = times-append b (free_index_of g d ++ free_index_end g d ∷ []) (flat_map (file_index_numbers g ix) d.entries) in
    let part = times-flat b (file_index_numbers g ix) d.entries k h in
    let mine : times_met b (file_index_numbers g ix e) ≡ times_met b (W ++ E ∷ []) = ap (times_met b) (used-cond (entry_is_used e) (W ++ E ∷ []) [] used) in
    omega (arith, o, t, part, mine)) in
    let split = ⊎_elim {C = (length W ≡ need_index e) × (E ≡ null)}
    (λ lt. (let t : nat_lt (length W) (need_index e) ≡ true = grind (arith, nat_tests) in
    let w = within-of 0 (index_count g) E (sym (ap (λ b. cond b (is_between 0 (index_count g) E) (nat_eq E null)) t) ∙ right) in
    absurd (no-end (nexts_of ix) 0 (index_count g) (need_index e) e.first lt once w.0 w.1)))
    (λ ge. (let t : nat_lt (length W) (need_index e) ≡ false = grind (arith, nat_tests) in
    let n : nat_eq E null ≡ true = sym (ap (λ b. cond b (is_between 0 (index_count g) E) (nat_eq E null)) t) ∙ right in
    (omega (arith, few, ge), (grind (arith, nat_tests)))))
    (cases_lt (length W) (need_index e)) in
    record { len = split.0; end = split.1; rows = rows-each g ix (need_data e) W parts.1; offsets = offsets-each g ix 0 W five }

-- an index block is its three fields
index-is : (i : Index) (n o : ℕ) (b : List ℕ) → i.next ≡ n → i.offset ≡ o → i.blocks ≡ b → i ≡ record { next = n; offset = o; blocks = b }
index-is i n o b p q r =
    ap (λ (x : ℕ). let m : Index = record { next = x; offset = i.offset; blocks = i.blocks } in m) p
    ∙ ap (λ (x : ℕ). let m : Index = record { next = n; offset = x; blocks = i.blocks } in m) q
    ∙ ap (λ (x : List ℕ). let m : Index = record { next = n; offset = o; blocks = x } in m) r

-- a file whose walk and numbers are right lies
pub file_lies : (g : Geometry) (d : Shape) → IsShape g d → (e : Entry) → FileFacts g d.indexes e
    → FileLies d e (met_of g d.indexes e) (take (need_data e) (flat_map (data_row d.indexes) (met_of g d.indexes e)))
file_lies g d s e f =
    let ix = d.indexes in
    let W = met_of g ix e in
    let wide : (j : ℕ) → j < length W → length (data_row ix (slice_index W j)) ≡ 16 = λ j h. s.rows (slice_index W j) (walk-within (nexts_of ix) 0 (index_count g) (need_index e) e.first j h).1 in
    let walked = walk-goes (nexts_of ix) 0 (index_count g) (need_index e) [] e.first in
    let goes : Goes (nexts_of ix) e.first W null = (let P : List ℕ → Type 0 = λ xs. Goes (nexts_of ix) e.first xs (end_of_walk g ix e) in let Q : ℕ → Type 0 = λ n. Goes (nexts_of ix) e.first W n in
    subst Q f.end (subst P (sym walked.is) walked.goes)) in
    let chain = Goes-chain (nexts_of ix) e.first W goes in
    let many = length-rows ix W wide in
    let l = length-take (need_data e) (flat_map (data_row ix) W) in
    let n = f.len in
    record {
      indexes = f.len;
      datas = omega (arith, l, many, n);
      first = chain.starts;
      each = λ j h. index-is (index_in d (slice_index W j)) (slice_index_or W (suc j) null) (8192 * j) _
          (sym (get_or-map (λ (i : Index). i.next) ix (slice_index W j) no_index) ∙ chain.goes_on j h)
          (f.offsets j h ∙ (let q : 0 + 8192 * j ≡ 8192 * j = omega arith in q))
          (rows-are g ix (need_data e) W wide f.rows j h);
    }

-- the index blocks of all files are met as often as their chains have them
pub chain-times : (g : Geometry) (ix : List Index) (i : ℕ) (es : List Entry) → i < null → ((k : ℕ) → k < length es → entry_is_used (get_or es k void_entry) ≡ true → end_of_walk g ix (get_or es k void_entry) ≡ null)
    → times_met i (flat_map (file_index_numbers g ix) es) ≡ times_in i (map (chain_in g ix) es)
chain-times g ix i [] h ends = refl
chain-times g ix i (e ∷ es) h ends =
    let r = chain-times g ix i es h (λ k l. ends (suc k) (omega arith)) in
    let t = times-append i (file_index_numbers g ix e) (flat_map (file_index_numbers g ix) es) in
    let P : Bool → Type 0 = λ b. entry_is_used e ≡ b → times_met i (cond b (met_of g ix e ++ end_of_walk g ix e ∷ []) []) ≡ times_met i (cond b (met_of g ix e) []) in
    let all : (b : Bool) → P b = λ b. elim b as (λ b. P b) [ true ↦ (λ u. times-ended i (met_of g ix e) (end_of_walk g ix e) (ends 0 (omega arith) u) h) | false ↦ (λ u. refl) ] in
    let one = all (entry_is_used e) refl in
    omega (arith, t, r, one)

-- the data blocks of all files are met as often as their lists have them
pub data-times : (g : Geometry) (ix : List Index) (b : ℕ) (es : List Entry) → b < null
    → ((k : ℕ) → k < length es → entry_is_used (get_or es k void_entry) ≡ true → row_fits g (need_data (get_or es k void_entry)) (flat_map (data_row ix) (met_of g ix (get_or es k void_entry))) ≡ true)
    → times_met b (flat_map (file_data_numbers g ix) es) ≡ times_in b (map (data_in g ix) es)
data-times g ix b [] h fits = refl
data-times g ix b (e ∷ es) h fits =
    let r = data-times g ix b es h (λ k l. fits (suc k) (omega arith)) in
    let t = times-append b (file_data_numbers g ix e) (flat_map (file_data_numbers g ix) es) in
    let rows = flat_map (data_row ix) (met_of g ix e) in
    let P : Bool → Type 0 = λ c. entry_is_used e ≡ c → times_met b (cond c rows []) ≡ times_met b (cond c (take (need_data e) rows) []) in
    let all : (c : Bool) → P c = λ c. elim c as (λ c. P c) [ true ↦ (λ u. fits-times g (need_data e) rows (fits 0 (omega arith) u) b h) | false ↦ (λ u. refl) ] in
    let one = all (entry_is_used e) refl in
    omega (arith, t, r, one)

-- a number beyond the index blocks is in no chain
chain-out : (g : Geometry) (ix : List Index) (i : ℕ) (es : List Entry) → index_count g ≤ i → times_in i (map (chain_in g ix) es) ≡ 0
chain-out g ix i [] h = refl
chain-out g ix i (e ∷ es) h =
    let r = chain-out g ix i es h in
    let z = times-out 0 (index_count g) i (met_of g ix e) (walk-within (nexts_of ix) 0 (index_count g) (need_index e) e.first) (λ a b. omega (arith, b, h)) in
    let P : Bool → Type 0 = λ b. times_met i (cond b (met_of g ix e) []) ≡ 0 in
    let all : (b : Bool) → P b = λ b. elim b as (λ b. P b) [ true ↦ z | false ↦ refl ] in
    let one = all (entry_is_used e) in omega (arith, r, one)

-- a number that isn't a data block's is in no file
data-out : (g : Geometry) (ix : List Index) (b : ℕ) (es : List Entry) → is_between (first_data g) g.blocks b ≡ false
    → ((k : ℕ) → k < length es → entry_is_used (get_or es k void_entry) ≡ true → row_fits g (need_data (get_or es k void_entry)) (flat_map (data_row ix) (met_of g ix (get_or es k void_entry))) ≡ true)
    → times_in b (map (data_in g ix) es) ≡ 0
data-out g ix b [] h fits = refl
data-out g ix b (e ∷ es) h fits =
    let r = data-out g ix b es h (λ k l. fits (suc k) (omega arith)) in
    let rows = flat_map (data_row ix) (met_of g ix e) in
    let P : Bool → Type 0 = λ c. entry_is_used e ≡ c → times_met b (cond c (take (need_data e) rows) []) ≡ 0 in
    let all : (c : Bool) → P c = λ c. elim c as (λ c. P c) [ true ↦ (λ u. fits-range g (need_data e) rows (fits 0 (omega arith) u) b h) | false ↦ (λ u. refl) ] in
    let one = all (entry_is_used e) refl in omega (arith, r, one)

-- a disk that passes rules 4 to 7 has files that lie, with nothing held
pub passes_lies : (g : Geometry) (d : Shape) → IsGeometry g → IsShape g d → Passes g d → LaidIn g d (places_of g d)
passes_lies g d geo s p =
    let ix = d.indexes in
    let es = d.entries in
    let Wi = free_index_of g d in let Ei = free_index_end g d in
    let Wd = free_data_of g d in let Ed = free_data_end g d in
    let few = geo.few in let most = geo.many in let dirs = geo.dirs in
    let facts = file_facts g d p in
    let frees = least-nones (free_data_fault g Wd Ed) (free_index_fault g Wi Ei) (least-nones (free_fault g d) _ p.four).0 in
    let end_i : Ei ≡ null = free-end (nexts_of ix) 0 (index_count g) (index_count g) d.header.free_index (omega arith)
    (λ b l h. (let o = once_index g d p b h in let t = times-append b (Wi ++ Ei ∷ []) (flat_map (file_index_numbers g ix) es) in omega (arith, o, t))) (cond-none _ _ frees.1) in
    let end_d : Ed ≡ null = free-end d.links (first_data g) g.blocks g.blocks d.header.free_data (omega arith)
    (λ b l h. (let o = once_data g d p b l h in let t = times-append b (Wd ++ Ed ∷ []) (flat_map (file_data_numbers g ix) es) in omega (arith, o, t))) (cond-none _ _ frees.0) in
    let fits : (k : ℕ) → k < length es → entry_is_used (get_or es k void_entry) ≡ true → row_fits g (need_data (get_or es k void_entry)) (flat_map (data_row ix) (met_of g ix (get_or es k void_entry))) ≡ true =
    λ k h u. (let f = facts k h u in let e = get_or es k void_entry in
    rows-fit g ix (need_data e) (met_of g ix e) (λ j l. s.rows (slice_index (met_of g ix e) j) (walk-within (nexts_of ix) 0 (index_count g) (need_index e) e.first j l).1) f.rows) in
    let goes_i : Goes (nexts_of ix) d.header.free_index Wi null = (let w = walk-goes (nexts_of ix) 0 (index_count g) (index_count g) [] d.header.free_index in
    let P : List ℕ → Type 0 = λ xs. Goes (nexts_of ix) d.header.free_index xs Ei in let Q : ℕ → Type 0 = λ n. Goes (nexts_of ix) d.header.free_index Wi n in subst Q end_i (subst P (sym w.is) w.goes)) in
    let goes_d : Goes d.links d.header.free_data Wd null = (let w = walk-goes d.links (first_data g) g.blocks g.blocks [] d.header.free_data in
    let P : List ℕ → Type 0 = λ xs. Goes d.links d.header.free_data xs Ed in let Q : ℕ → Type 0 = λ n. Goes d.links d.header.free_data Wd n in subst Q end_d (subst P (sym w.is) w.goes)) in
    let chain_i = Goes-chain (nexts_of ix) d.header.free_index Wi goes_i in
    let chain_e : (k : ℕ) → numbers_at (map (chain_in g ix) es) k ≡ chain_in g ix (get_or es k void_entry) = λ k. get_or-map (chain_in g ix) es k void_entry in
    let data_e : (k : ℕ) → numbers_at (map (data_in g ix) es) k ≡ data_in g ix (get_or es k void_entry) = λ k. get_or-map (data_in g ix) es k void_entry in
    let out_data : (b : ℕ) → (first_data g ≤ b → b < g.blocks → ⊥) → ◌≡◌ {A = ℕ} (cond (nat_lt b g.blocks && not (nat_lt b (first_data g))) 1 0) 0
    → times_in b (map (data_in g ix) es) + times_met b Wd + 0 ≡ cond (nat_lt b g.blocks && not (nat_lt b (first_data g))) 1 0 =
    λ b out z. (let a = times-out (first_data g) g.blocks b Wd (walk-within d.links (first_data g) g.blocks g.blocks d.header.free_data) out in
    let c = data-out g ix b es (out-within (first_data g) g.blocks b out) fits in omega (arith, a, c, z)) in
    record {
      chains = length-map es (chain_in g ix);
      datas = length-map es (data_in g ix);
      file = λ k h u. (let e = get_or es k void_entry in
          let P : List ℕ → Type 0 = λ xs. FileLies d e xs (numbers_at (map (data_in g ix) es) k) in
          let Q : List ℕ → Type 0 = λ xs. FileLies d e (met_of g ix e) xs in
          subst P (sym (chain_e k ∙ used-cond (entry_is_used e) (met_of g ix e) [] u)) (subst Q (sym (data_e k ∙ used-cond (entry_is_used e) (take (need_data e) (flat_map (data_row ix) (met_of g ix e))) [] u)) (file_lies g d s e (facts k h u))));
      no_file = λ k h u. (let e = get_or es k void_entry in
          (chain_e k ∙ ap (λ b. cond b (met_of g ix e) []) u, data_e k ∙ ap (λ b. cond b (take (need_data e) (flat_map (data_row ix) (met_of g ix e))) []) u));
      free_index = record { starts = chain_i.starts; goes_on = λ j h. sym (get_or-map (λ (i : Index). i.next) ix (slice_index Wi j) no_index) ∙ chain_i.goes_on j h };
      free_data = Goes-chain d.links d.header.free_data Wd goes_d;
      one_index = λ i. ⊎_elim
          (λ lt. (let top : i < null = omega (arith, lt, most) in
          let o = once_index g d p i lt in let t = times-append i (Wi ++ Ei ∷ []) (flat_map (file_index_numbers g ix) es) in
          let a = times-ended i Wi Ei end_i top in let b = chain-times g ix i es top (λ k h u. (facts k h u).end) in
          let y : nat_lt i (index_count g) ≡ true = grind (arith, nat_tests) in let z : ◌≡◌ {A = ℕ} (cond (nat_lt i (index_count g)) 1 0) 1 = ap (λ c. cond c 1 0) y in omega (arith, o, t, a, b, z)))
          (λ ge. (let a = times-out 0 (index_count g) i Wi (walk-within (nexts_of ix) 0 (index_count g) (index_count g) d.header.free_index) (λ x y. omega (arith, y, ge)) in let b = chain-out g ix i es ge in
          let y : nat_lt i (index_count g) ≡ false = grind (arith, nat_tests) in let z : ◌≡◌ {A = ℕ} (cond (nat_lt i (index_count g)) 1 0) 0 = ap (λ c. cond c 1 0) y in omega (arith, a, b, z)))
          (cases_lt i (index_count g));
      one_data = λ b. ⊎_elim
          (λ lt. ⊎_elim
          (λ small. out_data b (λ x y. omega (arith, x, small)) (let y : nat_lt b g.blocks ≡ true = grind (arith, nat_tests) in let q : nat_lt b (first_data g) ≡ true = grind (arith, nat_tests) in rw (y, q) refl))
          (λ big. (let top : b < null = omega (arith, lt, most) in
          let o = once_data g d p b big lt in let t = times-append b (Wd ++ Ed ∷ []) (flat_map (file_data_numbers g ix) es) in
          let a = times-ended b Wd Ed end_d top in let c = data-times g ix b es top fits in
          let y : nat_lt b g.blocks ≡ true = grind (arith, nat_tests) in let q : nat_lt b (first_data g) ≡ false = grind (arith, nat_tests) in
          let z : ◌≡◌ {A = ℕ} (cond (nat_lt b g.blocks && not (nat_lt b (first_data g))) 1 0) 1 = rw (y, q) refl in omega (arith, o, t, a, c, z)))
          (cases_lt b (first_data g)))
          (λ ge. out_data b (λ x y. omega (arith, y, ge)) (let y : nat_lt b g.blocks ≡ false = grind (arith, nat_tests) in rw y refl))
          (cases_lt b g.blocks);
    }
