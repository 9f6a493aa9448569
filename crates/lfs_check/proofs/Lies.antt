-- A disk on which files lie, with nothing held, breaks no rule, and whose the blocks are is read off it.
use Rattle.std.proofs.Common.{◌≡◌, ℕ, zero, suc, ◌+◌, ◌-◌, ◌*◌, ◌<◌, ◌≤◌, Bool, true, false, cond, not, ◌&&◌, nat_lt, nat_le, nat_eq, List, [], ◌∷◌, ◌++◌, length, map, take, drop, replicate, get_or, slice_index, slice_index_or, refl, sym, ap, ◌∙◌, arith, length-drop, ⊎_elim, None, Option}
use Rattle.std.specs.List.{flat_map}
use Rattle.std.proofs.Math.ListN.{get_or-map}
use Rattle.std.proofs.lemmas.Bool.{cases_lt}
use Rattle.std.proofs.lemmas.Bool.Decides.{nat_tests}
use Rattle.lfs_format.specs.declared.Entry.{Entry}
use Rattle.lfs_format.specs.declared.Index.{Index}
use Rattle.lfs_check.specs.declared.geometry.Geometry.{Geometry}
use Rattle.lfs_check.specs.Geometries.{index_count, first_data, IsGeometry}
use Rattle.lfs_check.specs.Rules.{entry_is_used}
use Rattle.lfs_format.specs.Directory.{void_entry}
use Rattle.lfs_check.specs.Meets.{null, times_met}
use Rattle.lfs_check.specs.Walks.{walk, walk_end}
use Rattle.lfs_check.specs.Laid.{Shape, Places, IsChain, no_index, index_in, entry_in, numbers_at, times_in}
use Rattle.lfs_check.specs.Checks.{nexts_of, met_of, end_of_walk, need_index, need_data, data_row, row_fits, rows_fault, offsets_fault, is_file_end, file_fault_4, file_fault_5, file_index_numbers, file_data_numbers, free_index_of, free_index_end, free_data_of, free_data_end, free_fault, index_numbers, data_numbers, is_between, is_good_end}
use Rattle.lfs_check.specs.Clean.{chain_in, data_in, places_of, IsShape, Passes, LaidIn}
use Rattle.lfs_check.proofs.Nones.{both-none, cond-true, lowest-none, rows-none, offsets-none, first_from-nothing, block-none, is-once}
use Rattle.lfs_check.proofs.Rows.{rows-fit, fits-made}
use Rattle.lfs_check.proofs.Ends.{of-within, times-ended}
use Rattle.lfs_check.proofs.Steps.{times-append, times-at, times_in-part, at_most_one, IsChain-same}
use Rattle.lfs_check.proofs.Chains.{chain-Goes, chain-walk}
use Rattle.lfs_check.proofs.Counting.{in_range, length-most}
use Rattle.lfs_check.proofs.Cleans.{chain-times, data-times}
use Rattle.lfs_check.proofs.RowsRead.{rows-read}
use Rattle.lfs_check.proofs.Moved.{in_range as in-data}

-- what a walk along a list of distinct numbers in range meets
along : (links : List ℕ) (low high steps n : ℕ) (xs : List ℕ) → high ≤ null → length xs ≤ steps → IsChain (λ b. slice_index links b) n xs → ((j : ℕ) → j < length xs → (low ≤ slice_index xs j) × (slice_index xs j < high)) → ((b : ℕ) → times_met b xs ≤ 1)
    → (walk links low high steps [] n ≡ xs) × (walk_end links low high steps [] n ≡ null)
along links low high steps n xs top room c range once = chain-walk links low high steps [] n xs top room (chain-Goes links n xs c) range (λ b. (let o = once b in omega (arith, o)))

-- a number that a partition gives to some list is in range
in-index : (g : Geometry) (i : ℕ) → 1 ≤ cond (nat_lt i (index_count g)) 1 0 → i < index_count g
in-index g i h = ⊎_elim (λ lt. lt) (λ ge. (let e : nat_lt i (index_count g) ≡ false = grind (arith, nat_tests) in let z : ◌≡◌ {A = ℕ} (cond (nat_lt i (index_count g)) 1 0) 0 = ap (λ c. cond c 1 0) e in absurd (omega (arith, h, z)))) (cases_lt i (index_count g))

-- a chain by the index blocks is one by the list of their nexts
nexts-chain : (d : Shape) (n : ℕ) (xs : List ℕ) → IsChain (λ i. (index_in d i).next) n xs → IsChain (λ i. slice_index (nexts_of d.indexes) i) n xs
nexts-chain d n xs c = IsChain-same (λ i. (index_in d i).next) (λ i. slice_index (nexts_of d.indexes) i) n xs c (λ j h. get_or-map (λ (i : Index). i.next) d.indexes (slice_index xs j) no_index)

-- the file of an entry, as it is read and as it lies
pub record Agrees (g : Geometry) (d : Shape) (e : Entry) (chain blocks : List ℕ) : Type 0 where
  pub met : met_of g d.indexes e ≡ chain
  pub end : end_of_walk g d.indexes e ≡ null
  pub rows : (j : ℕ) → j < length chain → row_fits g (need_data e - 16 * j) (data_row d.indexes (slice_index chain j)) ≡ true
  pub offsets : (j : ℕ) → j < length chain → (slice_index_or d.indexes (slice_index chain j) no_index).offset ≡ 0 + 8192 * j
  pub numbers : take (need_data e) (flat_map (data_row d.indexes) chain) ≡ blocks

-- the file of a used entry that lies is read as its chain and its data blocks
pub file_agrees : (g : Geometry) (d : Shape) (p : Places) → IsGeometry g → LaidIn g d p → (k : ℕ) → k < length d.entries → entry_is_used (entry_in d k) ≡ true → Agrees g d (entry_in d k) (numbers_at p.chains k) (numbers_at p.datas k)
file_agrees g d p geo l k h used =
    let e = entry_in d k in
    let chain = numbers_at p.chains k in
    let blocks = numbers_at p.datas k in
    let f = l.file k h used in
    let few = geo.few in let most = geo.many in let dirs = geo.dirs in
    let m = f.indexes in let n = f.datas in
    let goes : IsChain (λ i. (index_in d i).next) e.first chain = record { starts = f.first; goes_on = λ j h. ap (λ (x : Index). x.next) (f.each j h) } in
    let walked = along (nexts_of d.indexes) 0 (index_count g) (need_index e) e.first chain (omega arith) (omega (arith, m)) (nexts-chain d e.first chain goes)
    (λ j h. (let i = slice_index chain j in let has = times-at chain j i h refl in let part = times_in-part i p.chains k in let one = l.one_index i in (omega arith, in-index g i (omega (arith, has, part, one)))))
    (λ i. (let part = times_in-part i p.chains k in let one = l.one_index i in let o = at_most_one (nat_lt i (index_count g)) in omega (arith, part, one, o))) in
    record {
      met = walked.0;
      end = walked.1;
      rows = λ j h. (let xs = drop (16 * j) blocks in
          let long = length-drop (16 * j) blocks in
          let made = fits-made g xs 16 16 (λ i lt. (let b = slice_index xs i in let has = times-at blocks (16 * j + i) b (omega (arith, lt, long)) (sym (at-drop blocks (16 * j) i)) in
          let part = times_in-part b p.datas k in let one = l.one_data b in let r = in-data (first_data g) g.blocks b (omega (arith, has, part, one)) in of-within (first_data g) g.blocks b r.0 r.1)) in
          ap (row_fits g (need_data e - 16 * j)) (ap (λ (x : Index). x.blocks) (f.each j h))
          ∙ ap (λ w. row_fits g w (take 16 (xs ++ replicate 16 null))) (let q : need_data e - 16 * j ≡ length xs = omega (arith, long, n) in q) ∙ made);
      offsets = λ j h. ap (λ (x : Index). x.offset) (f.each j h) ∙ (let q : 8192 * j ≡ 0 + 8192 * j = omega arith in q);
      numbers = (let r = rows-read d chain blocks f.each (omega (arith, m, n)) (length chain) 0 (omega arith) in
          ap (λ w. take w (flat_map (data_row d.indexes) chain)) (let q : need_data e ≡ length blocks - 16 * 0 = omega (arith, n) in q) ∙ r);
    }
  where
    at-drop : (xs : List ℕ) (n i : ℕ) → slice_index (drop n xs) i ≡ slice_index xs (n + i)
    at-drop xs zero i = ap (slice_index xs) (let q : i ≡ 0 + i = omega arith in q)
    at-drop [] (suc n) i = refl
    at-drop (x ∷ xs) (suc n) i = at-drop xs n i ∙ ap (slice_index (x ∷ xs)) (let q : suc (n + i) ≡ suc n + i = omega arith in q)

-- the chain that is read is the file's
pub chains-read : (g : Geometry) (d : Shape) (p : Places) → IsGeometry g → LaidIn g d p → (k : ℕ) → k < length d.entries → chain_in g d.indexes (entry_in d k) ≡ numbers_at p.chains k
chains-read g d p geo l k h =
    let e = entry_in d k in
    let P : Bool → Type 0 = λ b. entry_is_used e ≡ b → cond b (met_of g d.indexes e) [] ≡ numbers_at p.chains k in
    let all : (b : Bool) → P b = λ b. elim b as (λ b. P b) [ true ↦ (λ u. (file_agrees g d p geo l k h u).met) | false ↦ (λ u. sym (l.no_file k h u).0) ] in
    all (entry_is_used e) refl

-- the data blocks that are read are the file's
pub datas-read : (g : Geometry) (d : Shape) (p : Places) → IsGeometry g → LaidIn g d p → (k : ℕ) → k < length d.entries → data_in g d.indexes (entry_in d k) ≡ numbers_at p.datas k
datas-read g d p geo l k h =
    let e = entry_in d k in
    let P : Bool → Type 0 = λ b. entry_is_used e ≡ b → cond b (take (need_data e) (flat_map (data_row d.indexes) (met_of g d.indexes e))) [] ≡ numbers_at p.datas k in
    let all : (b : Bool) → P b = λ b. elim b as (λ b. P b) [ true ↦ (λ u. (let a = file_agrees g d p geo l k h u in ap (λ m. take (need_data e) (flat_map (data_row d.indexes) m)) a.met ∙ a.numbers)) | false ↦ (λ u. sym (l.no_file k h u).1) ] in
    all (entry_is_used e) refl

-- two lists of lists with the same elements
times_in-same : (n : ℕ) (f : Entry → List ℕ) (es : List Entry) (ls : List (List ℕ)) → length ls ≡ length es → ((k : ℕ) → k < length es → f (get_or es k void_entry) ≡ numbers_at ls k) → times_in n (map f es) ≡ times_in n ls
times_in-same n f [] [] l same = refl
times_in-same n f [] (x ∷ ls) l same = absurd (omega (arith, l))
times_in-same n f (e ∷ es) [] l same = absurd (omega (arith, l))
times_in-same n f (e ∷ es) (x ∷ ls) l same =
    let i = times_in-same n f es ls (omega (arith, l)) (λ k h. same (suc k) (omega arith)) in
    let h = ap (times_met n) (same 0 (omega arith)) in omega (arith, i, h)

-- nothing is below zero, so a range from zero has only its upper bound
zero-low : (b : Bool) (i : ℕ) → cond b 1 0 ≤ cond (b && not (nat_lt i 0)) 1 0
zero-low true i = (let f : nat_lt i 0 ≡ false = grind (arith, nat_tests) in rw f (omega arith))
zero-low false i = omega arith

-- the walk of the free index blocks meets all of them, and ends with null
walk_index : (g : Geometry) (d : Shape) (p : Places) → IsGeometry g → LaidIn g d p → (free_index_of g d ≡ p.free_index) × (free_index_end g d ≡ null)
walk_index g d p geo l =
    let few = geo.few in let most = geo.many in let dirs = geo.dirs in
    along (nexts_of d.indexes) 0 (index_count g) (index_count g) d.header.free_index p.free_index (omega arith)
    (let n = length-most 0 (index_count g) p.free_index (λ i. (let one = l.one_index i in let z : cond (nat_lt i (index_count g)) 1 0 ≤ in_range 0 (index_count g) i = zero-low (nat_lt i (index_count g)) i in omega (arith, one, z))) in omega (arith, n))
    (nexts-chain d d.header.free_index p.free_index l.free_index)
    (λ j h. (let i = slice_index p.free_index j in let has = times-at p.free_index j i h refl in let one = l.one_index i in (omega arith, in-index g i (omega (arith, has, one)))))
    (λ i. (let one = l.one_index i in let o = at_most_one (nat_lt i (index_count g)) in omega (arith, one, o)))

-- the walk of the free data blocks meets all of them, and ends with null
walk_data : (g : Geometry) (d : Shape) (p : Places) → IsGeometry g → LaidIn g d p → (free_data_of g d ≡ p.free_data) × (free_data_end g d ≡ null)
walk_data g d p geo l =
    let few = geo.few in let most = geo.many in let dirs = geo.dirs in
    along d.links (first_data g) g.blocks g.blocks d.header.free_data p.free_data (omega arith)
    (let n = length-most (first_data g) g.blocks p.free_data (λ b. (let one = l.one_data b in omega (arith, one))) in omega (arith, n))
    l.free_data
    (λ j h. (let b = slice_index p.free_data j in let has = times-at p.free_data j b h refl in let one = l.one_data b in in-data (first_data g) g.blocks b (omega (arith, has, one))))
    (λ b. (let one = l.one_data b in let o = at_most_one (nat_lt b g.blocks && not (nat_lt b (first_data g))) in omega (arith, one, o)))

-- the free blocks that are read are those of the disk
free_read : (g : Geometry) (d : Shape) (p : Places) → IsGeometry g → LaidIn g d p → (free_index_of g d ≡ p.free_index) × (free_data_of g d ≡ p.free_data)
free_read g d p geo l = ((walk_index g d p geo l).0, (walk_data g d p geo l).0)

-- a disk whose files lie, with nothing held, passes rules 4 to 7
pub lies_passes : (g : Geometry) (d : Shape) (p : Places) → IsGeometry g → IsShape g d → LaidIn g d p → p.held_index ≡ [] → p.held_data ≡ [] → Passes g d
lies_passes g d p geo s l hi hd =
    let ix = d.indexes in
    let es = d.entries in
    let few = geo.few in let most = geo.many in let dirs = geo.dirs in
    let none_i : (i : ℕ) → times_met i p.held_index ≡ 0 = λ i. ap (times_met i) hi in
    let none_d : (b : ℕ) → times_met b p.held_data ≡ 0 = λ b. ap (times_met b) hd in
    let free_i = walk_index g d p geo l in
    let free_d = walk_data g d p geo l in
    let agrees = file_agrees g d p geo l in
    let good_i : is_good_end 0 (index_count g) (free_index_end g d) ≡ true = ap (is_good_end 0 (index_count g)) free_i.1 in
    let good_d : is_good_end (first_data g) g.blocks (free_data_end g d) ≡ true = ap (is_good_end (first_data g) g.blocks) free_d.1 in
    let index_once : (i : ℕ) → i < index_count g → times_met i (index_numbers g d) ≡ 1 = λ i h.
    (let top : i < null = omega (arith, h, most) in
    let t = times-append i (free_index_of g d ++ free_index_end g d ∷ []) (flat_map (file_index_numbers g ix) es) in
    let a = times-ended i (free_index_of g d) (free_index_end g d) free_i.1 top in
    let a' = ap (times_met i) free_i.0 in
    let b = chain-times g ix i es top (λ k h u. (agrees k h u).end) in
    let c = times_in-same i (chain_in g ix) es p.chains l.chains (chains-read g d p geo l) in
    let one = l.one_index i in let z = none_i i in
    let y : nat_lt i (index_count g) ≡ true = grind (arith, nat_tests) in let w : ◌≡◌ {A = ℕ} (cond (nat_lt i (index_count g)) 1 0) 1 = ap (λ c. cond c 1 0) y in
    omega (arith, t, a, a', b, c, one, z, w)) in
    let data_once : (b : ℕ) → first_data g ≤ b → b < g.blocks → times_met b (data_numbers g d) ≡ 1 = λ b low h.
    (let top : b < null = omega (arith, h, most) in
    let t = times-append b (free_data_of g d ++ free_data_end g d ∷ []) (flat_map (file_data_numbers g ix) es) in
    let a = times-ended b (free_data_of g d) (free_data_end g d) free_d.1 top in
    let a' = ap (times_met b) free_d.0 in
    let fits : (k : ℕ) → k < length es → entry_is_used (get_or es k void_entry) ≡ true → row_fits g (need_data (get_or es k void_entry)) (flat_map (data_row ix) (met_of g ix (get_or es k void_entry))) ≡ true =
    λ k h u. (let ag = agrees k h u in let chain = numbers_at p.chains k in
    ap (λ m. row_fits g (need_data (get_or es k void_entry)) (flat_map (data_row ix) m)) ag.met
    ∙ rows-fit g ix (need_data (get_or es k void_entry)) chain (λ j m. s.rows (slice_index chain j) (let i = slice_index chain j in let has = times-at chain j i m refl in let part = times_in-part i p.chains k in let one = l.one_index i in in-index g i (omega (arith, has, part, one)))) ag.rows) in
    let c = data-times g ix b es top fits in
    let e = times_in-same b (data_in g ix) es p.datas l.datas (datas-read g d p geo l) in
    let one = l.one_data b in let z = none_d b in
    let y : nat_lt b g.blocks ≡ true = grind (arith, nat_tests) in let q : nat_lt b (first_data g) ≡ false = grind (arith, nat_tests) in
    let w : ◌≡◌ {A = ℕ} (cond (nat_lt b g.blocks && not (nat_lt b (first_data g))) 1 0) 1 = rw (y, q) refl in
    omega (arith, t, a, a', c, e, one, z, w)) in
    record {
      four = both-none (free_fault g d) _ (both-none _ _ (cond-true _ _ good_d) (cond-true _ _ good_i))
          (lowest-none (file_fault_4 g ix) es 0 (λ k h. by_use (entry_is_used (get_or es k void_entry)) _ (λ u. (let ag = agrees k h u in let e = get_or es k void_entry in
          let len = ap length ag.met in let need = (l.file k h u).indexes in
          let ended : is_file_end g (need_index e) (length (met_of g ix e)) (end_of_walk g ix e) ≡ true =
          (let t : nat_lt (length (met_of g ix e)) (need_index e) ≡ false = (let q : need_index e ≤ length (met_of g ix e) = omega (arith, len, need) in grind (arith, nat_tests)) in
          ap (λ c. cond c (is_between 0 (index_count g) (end_of_walk g ix e)) (nat_eq (end_of_walk g ix e) null)) t ∙ ap (λ n. nat_eq n null) ag.end) in
          both-none _ _ (cond-true _ _ ended) (ap (rows_fault g ix (need_data e)) ag.met ∙ rows-none g ix (need_data e) (numbers_at p.chains k) ag.rows)))));
      five = lowest-none (file_fault_5 g ix) es 0 (λ k h. by_use (entry_is_used (get_or es k void_entry)) _ (λ u. (let ag = agrees k h u in
          ap (offsets_fault g ix 0) ag.met ∙ offsets-none g ix 0 (numbers_at p.chains k) ag.offsets)));
      six = block-none g _ _ (first_from-nothing (λ i. nat_le 2 (times_met i (index_numbers g d))) 0 (index_count g) (λ n a b. (is-once n (index_numbers g d) (index_once n (omega (arith, b)))).0))
          (first_from-nothing (λ b. nat_le 2 (times_met b (data_numbers g d))) (first_data g) (g.blocks - first_data g) (λ n a b. (is-once n (data_numbers g d) (data_once n a (omega (arith, b)))).0));
      seven = block-none g _ _ (first_from-nothing (λ i. nat_le (times_met i (index_numbers g d)) 0) 0 (index_count g) (λ n a b. (is-once n (index_numbers g d) (index_once n (omega (arith, b)))).1))
          (first_from-nothing (λ b. nat_le (times_met b (data_numbers g d)) 0) (first_data g) (g.blocks - first_data g) (λ n a b. (is-once n (data_numbers g d) (data_once n a (omega (arith, b)))).1));
    }
  where
    by_use : (b : Bool) (x : Option ℕ) → (b ≡ true → x ≡ None) → cond b x None ≡ None
    by_use true x f = f refl
    by_use false x f = refl

-- lists that agree at each entry are those of the entries
lists-same : (f : Entry → List ℕ) (es : List Entry) (ls : List (List ℕ)) → length ls ≡ length es → ((k : ℕ) → k < length es → f (get_or es k void_entry) ≡ numbers_at ls k) → map f es ≡ ls
lists-same f [] [] l same = refl
lists-same f [] (x ∷ ls) l same = absurd (omega (arith, l))
lists-same f (e ∷ es) [] l same = absurd (omega (arith, l))
lists-same f (e ∷ es) (x ∷ ls) l same = ap (λ y. y ∷ map f es) (same 0 (omega arith)) ∙ ap (λ t. x ∷ t) (lists-same f es ls (omega (arith, l)) (λ k h. same (suc k) (omega arith)))

-- Whose the blocks are is determined.
pub places_read : (g : Geometry) (d : Shape) (p : Places) → IsGeometry g → IsShape g d → LaidIn g d p → p.held_index ≡ [] → p.held_data ≡ [] → places_of g d ≡ p
places_read g d p geo s l hi hd =
    let frees = free_read g d p geo l in
    places-are p (lists-same (chain_in g d.indexes) d.entries p.chains l.chains (chains-read g d p geo l)) (lists-same (data_in g d.indexes) d.entries p.datas l.datas (datas-read g d p geo l))
    frees.0 frees.1 (sym hi) (sym hd)
  where
    places-are : (p : Places) {a b : List (List ℕ)} {c d e f : List ℕ} → a ≡ p.chains → b ≡ p.datas → c ≡ p.free_index → d ≡ p.free_data → e ≡ p.held_index → f ≡ p.held_data
        → record { chains = a; datas = b; free_index = c; free_data = d; held_index = e; held_data = f } ≡ p
    places-are p h i j k l m = rw (h, i, j, k, l, m) refl
