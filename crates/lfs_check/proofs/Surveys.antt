-- Lemmas on the rules of one chain and of all files.
use Rattle.std.proofs.Common.{◌≡◌, ℕ, suc, ◌+◌, ◌-◌, ◌*◌, ◌<◌, ◌≤◌, true, ◌&&◌, min, List, [], ◌++◌, length, get_or, slice_index, drop, refl, sym, ap, ◌∙◌, arith, Option, Some, None, append_assoc}
use Rattle.std.proofs.lemmas.List.{drop_more, drop_all, append-nil}
use Rattle.std.specs.List.{flat_map}
use Rattle.lfs_format.specs.declared.Entry.{Entry}
use Rattle.lfs_format.specs.declared.Index.{Index}
use Rattle.lfs_check.specs.declared.geometry.Geometry.{Geometry}
use Rattle.lfs_check.specs.Checks.{least, row_fits, number_fits, row_fault, rows_fault, offset_fault, offsets_fault, lowest_of}

-- once all numbers of an index block were tested they fit
pub row_fits_all : (g : Geometry) (wanted : ℕ) (xs : List ℕ) (k : ℕ) → length xs ≤ k → row_fits g wanted (drop k xs) ≡ true
unfolding row_fits
row_fits_all g wanted xs k h = rw (drop_all k xs h) refl

-- one number more
pub row_fits_more : (g : Geometry) (wanted : ℕ) (xs : List ℕ) (k : ℕ) → k < length xs
    → row_fits g (wanted - k) (drop k xs) ≡ number_fits g (wanted - k) (get_or xs k 0) && row_fits g (wanted - (k + 1)) (drop (k + 1) xs)
unfolding row_fits
row_fits_more g wanted xs k h =
    ap (row_fits g (wanted - k)) (drop_more xs k 0 h) ∙ ap (λ w. number_fits g (wanted - k) (get_or xs k 0) && row_fits g w (drop (k + 1) xs)) (let e : wanted - k - 1 ≡ wanted - (k + 1) = omega arith in e)

-- the lowest of three blocks, however they are grouped
pub least-assoc : (a b c : Option ℕ) → least (least a b) c ≡ least a (least b c)
least-assoc None b c = refl
least-assoc (Some a) None c = refl
least-assoc (Some a) (Some b) None = refl
least-assoc (Some a) (Some b) (Some c) = ap Some (let e : min (min a b) c ≡ min a (min b c) = omega arith in e)

-- no block more leaves the lowest as it is
pub least_none : (a : Option ℕ) → least a None ≡ a
least_none None = refl
least_none (Some a) = refl

-- after all index blocks of a file the fault of rule 4 is the one found
pub rows_fault-all : (g : Geometry) (indexes : List Index) (wanted : ℕ) (met : List ℕ) (j : ℕ) (found : Option ℕ) → length met ≤ j → least found (rows_fault g indexes wanted (drop j met)) ≡ found
unfolding rows_fault
rows_fault-all g indexes wanted met j found h = ap (λ m. least found (rows_fault g indexes wanted m)) (drop_all j met h) ∙ least_none found

-- one index block more of a file, for rule 4
pub rows_fault-more : (g : Geometry) (indexes : List Index) (wanted : ℕ) (met : List ℕ) (j : ℕ) (found : Option ℕ) → j < length met
    → least found (rows_fault g indexes wanted (drop j met))
    ≡ least (least found (row_fault g indexes wanted (slice_index met j))) (rows_fault g indexes (wanted - 16) (drop (j + 1) met))
unfolding rows_fault
rows_fault-more g indexes wanted met j found h =
    ap (λ m. least found (rows_fault g indexes wanted m)) (drop_more met j 0 h) ∙ sym (least-assoc found _ _)

-- after all index blocks of a file the fault of rule 5 is the one found
pub offsets_fault-all : (g : Geometry) (indexes : List Index) (offset : ℕ) (met : List ℕ) (j : ℕ) (found : Option ℕ) → length met ≤ j → least found (offsets_fault g indexes offset (drop j met)) ≡ found
unfolding offsets_fault
offsets_fault-all g indexes offset met j found h = ap (λ m. least found (offsets_fault g indexes offset m)) (drop_all j met h) ∙ least_none found

-- one index block more of a file, for rule 5
pub offsets_fault-more : (g : Geometry) (indexes : List Index) (met : List ℕ) (j : ℕ) (found : Option ℕ) → j < length met
    → least found (offsets_fault g indexes (8192 * j) (drop j met))
    ≡ least (least found (offset_fault g indexes (8192 * j) (slice_index met j))) (offsets_fault g indexes (8192 * (j + 1)) (drop (j + 1) met))
unfolding offsets_fault
offsets_fault-more g indexes met j found h =
    ap (λ m. least found (offsets_fault g indexes (8192 * j) m)) (drop_more met j 0 h) ∙ sym (least-assoc found _ _)
    ∙ ap (λ o. least (least found (offset_fault g indexes (8192 * j) (slice_index met j))) (offsets_fault g indexes o (drop (j + 1) met)))
    (let e : 8192 * j + 8192 ≡ 8192 * (j + 1) = omega arith in e)

-- after all entries the lowest fault is the one found
pub lowest_of-all : (fault : ℕ → Entry → Option ℕ) (es : List Entry) (k : ℕ) (found : Option ℕ) → length es ≤ k → least found (lowest_of fault k (drop k es)) ≡ found
unfolding lowest_of
lowest_of-all fault es k found h = ap (λ m. least found (lowest_of fault k m)) (drop_all k es h) ∙ least_none found

-- one entry more
pub lowest_of-more : (fault : ℕ → Entry → Option ℕ) (es : List Entry) (k : ℕ) (void_entry : Entry) (found : Option ℕ) → k < length es
    → least found (lowest_of fault k (drop k es)) ≡ least (least found (fault k (get_or es k void_entry))) (lowest_of fault (k + 1) (drop (k + 1) es))
unfolding lowest_of
lowest_of-more fault es k void_entry found h =
    ap (λ m. least found (lowest_of fault k m)) (drop_more es k void_entry h) ∙ sym (least-assoc found _ _) ∙ ap (λ n. least (least found (fault k (get_or es k void_entry))) (lowest_of fault n (drop (k + 1) es))) (let e : suc k ≡ k + 1 = omega arith in e)

-- the numbers of one entry more
pub numbers-more : (f : Entry → List ℕ) (es : List Entry) (k : ℕ) (void_entry : Entry) (met : List ℕ) → k < length es
    → met ++ flat_map f (drop k es) ≡ (met ++ f (get_or es k void_entry)) ++ flat_map f (drop (k + 1) es)
numbers-more f es k void_entry met h = ap (λ m. met ++ flat_map f m) (drop_more es k void_entry h) ∙ sym (append_assoc met (f (get_or es k void_entry)) (flat_map f (drop (k + 1) es)))

-- nothing more at the end of a list
pub append_none : (xs : List ℕ) → xs ++ [] ≡ xs
append_none xs = append-nil xs
