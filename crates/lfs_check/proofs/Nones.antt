-- What it means that nothing is at fault.
use Rattle.std.proofs.Common.{◌≡◌, ℕ, zero, suc, ◌+◌, ◌-◌, ◌*◌, ◌<◌, ◌≤◌, Bool, true, false, cond, nat_eq, nat_le, List, [], ◌∷◌, length, get_or, slice_index, refl, sym, ap, ◌∙◌, arith, Option, Some, None, ⊎_elim}
use Rattle.std.proofs.lemmas.Bool.{cases_lt, cases_eq, false≢true, eqb-true}
use Rattle.std.proofs.lemmas.Bool.Decides.{nat_tests}
use Rattle.lfs_format.specs.declared.Entry.{Entry}
use Rattle.lfs_format.specs.declared.Index.{Index}
use Rattle.lfs_check.specs.declared.geometry.Geometry.{Geometry}
use Rattle.lfs_format.specs.Directory.{void_entry}
use Rattle.lfs_check.specs.Meets.{times_met, lowest_from}
use Rattle.lfs_check.specs.Checks.{least, either, in_block, lowest_of, row_fits, data_row, row_fault, rows_fault, offset_fault, offsets_fault}

-- neither of two blocks is there if the lower of both isn't
pub least-nones : (a b : Option ℕ) → least a b ≡ None → (a ≡ None) × (b ≡ None)
least-nones None b e = (refl, e)
least-nones (Some a) None e = absurd (cc (e))
least-nones (Some a) (Some b) e = absurd (cc (e))

-- the lower of two blocks isn't there if neither is
pub both-none : (a b : Option ℕ) → a ≡ None → b ≡ None → least a b ≡ None
both-none a b e f = ap (λ x. least x b) e ∙ f

-- a test that names a block if it fails, and names none, passes
pub cond-none : (b : Bool) (x : ℕ) → cond b None (Some x) ≡ None → b ≡ true
cond-none true x e = refl
cond-none false x e = absurd (cc (e))

-- a test that passes names no block
pub cond-true : (b : Bool) (x : ℕ) → b ≡ true → cond b None (Some x) ≡ None
cond-true b x e = ap (λ c. cond c None (Some x)) e

-- no entry has a block if the lowest of all isn't there
pub lowest-each : (f : ℕ → Entry → Option ℕ) (es : List Entry) (k : ℕ) → lowest_of f k es ≡ None → (j : ℕ) → j < length es → f (k + j) (get_or es j void_entry) ≡ None
unfolding lowest_of
lowest-each f [] k e j h = absurd (omega (arith, h))
lowest-each f (x ∷ es) k e zero h = ap (λ n. f n x) (let q : k + 0 ≡ k = omega arith in q) ∙ (least-nones (f k x) (lowest_of f (suc k) es) e).0
lowest-each f (x ∷ es) k e (suc j) h =
    ap (λ n. f n (get_or es j void_entry)) (let q : k + suc j ≡ suc k + j = omega arith in q) ∙ lowest-each f es (suc k) (least-nones (f k x) (lowest_of f (suc k) es) e).1 j (omega arith)

-- the lowest of all isn't there if no entry has one
pub lowest-none : (f : ℕ → Entry → Option ℕ) (es : List Entry) (k : ℕ) → ((j : ℕ) → j < length es → f (k + j) (get_or es j void_entry) ≡ None) → lowest_of f k es ≡ None
unfolding lowest_of
lowest-none f [] k all = refl
lowest-none f (x ∷ es) k all =
    both-none (f k x) (lowest_of f (suc k) es) (ap (λ n. f n x) (let q : k ≡ k + 0 = omega arith in q) ∙ all 0 (omega arith))
    (lowest-none f es (suc k) (λ j h. ap (λ n. f n (get_or es j void_entry)) (let q : suc k + j ≡ k + suc j = omega arith in q) ∙ all (suc j) (omega arith)))

-- each index block's numbers fit if none breaks rule 4
pub rows-each : (g : Geometry) (ix : List Index) (wanted : ℕ) (met : List ℕ) → rows_fault g ix wanted met ≡ None → (j : ℕ) → j < length met → row_fits g (wanted - 16 * j) (data_row ix (slice_index met j)) ≡ true
unfolding rows_fault
rows-each g ix wanted [] e j h = absurd (omega (arith, h))
rows-each g ix wanted (m ∷ met) e zero h =
    ap (λ w. row_fits g w (data_row ix m)) (let q : wanted - 16 * 0 ≡ wanted = omega arith in q) ∙ cond-none (row_fits g wanted (data_row ix m)) _ (least-nones (row_fault g ix wanted m) (rows_fault g ix (wanted - 16) met) e).0
rows-each g ix wanted (m ∷ met) e (suc j) h =
    ap (λ w. row_fits g w (data_row ix (slice_index met j))) (let q : wanted - 16 * suc j ≡ wanted - 16 - 16 * j = omega arith in q)
    ∙ rows-each g ix (wanted - 16) met (least-nones (row_fault g ix wanted m) (rows_fault g ix (wanted - 16) met) e).1 j (omega arith)

-- none breaks rule 4 if each index block's numbers fit
pub rows-none : (g : Geometry) (ix : List Index) (wanted : ℕ) (met : List ℕ) → ((j : ℕ) → j < length met → row_fits g (wanted - 16 * j) (data_row ix (slice_index met j)) ≡ true) → rows_fault g ix wanted met ≡ None
unfolding rows_fault
rows-none g ix wanted [] all = refl
rows-none g ix wanted (m ∷ met) all =
    both-none (row_fault g ix wanted m) (rows_fault g ix (wanted - 16) met)
    (cond-true (row_fits g wanted (data_row ix m)) _ (ap (λ w. row_fits g w (data_row ix m)) (let q : wanted ≡ wanted - 16 * 0 = omega arith in q) ∙ all 0 (omega arith)))
    (rows-none g ix (wanted - 16) met (λ j h. ap (λ w. row_fits g w (data_row ix (slice_index met j))) (let q : wanted - 16 - 16 * j ≡ wanted - 16 * suc j = omega arith in q) ∙ all (suc j) (omega arith)))

-- each index block has the offset of its place if none breaks rule 5
pub offsets-each : (g : Geometry) (ix : List Index) (offset : ℕ) (met : List ℕ) → offsets_fault g ix offset met ≡ None → (j : ℕ) → j < length met → (get_or ix (slice_index met j) (record { next = 0; offset = 0; blocks = [] })).offset ≡ offset + 8192 * j
unfolding offsets_fault
offsets-each g ix offset [] e j h = absurd (omega (arith, h))
offsets-each g ix offset (m ∷ met) e zero h =
    eqb-true _ offset (cond-none _ _ (least-nones (offset_fault g ix offset m) (offsets_fault g ix (offset + 8192) met) e).0) ∙ (let q : offset ≡ offset + 8192 * 0 = omega arith in q)
offsets-each g ix offset (m ∷ met) e (suc j) h =
    offsets-each g ix (offset + 8192) met (least-nones (offset_fault g ix offset m) (offsets_fault g ix (offset + 8192) met) e).1 j (omega arith) ∙ (let q : offset + 8192 + 8192 * j ≡ offset + 8192 * suc j = omega arith in q)

-- none breaks rule 5 if each has the offset of its place
pub offsets-none : (g : Geometry) (ix : List Index) (offset : ℕ) (met : List ℕ) → ((j : ℕ) → j < length met → (get_or ix (slice_index met j) (record { next = 0; offset = 0; blocks = [] })).offset ≡ offset + 8192 * j) → offsets_fault g ix offset met ≡ None
unfolding offsets_fault
offsets-none g ix offset [] all = refl
offsets-none g ix offset (m ∷ met) all =
    let here = all 0 (omega arith) in
    let t : nat_eq (get_or ix m (record { next = 0; offset = 0; blocks = [] })).offset offset ≡ true = (let q : (get_or ix m (record { next = 0; offset = 0; blocks = [] })).offset ≡ offset = omega (arith, here) in grind (arith, nat_tests)) in
    both-none (offset_fault g ix offset m) (offsets_fault g ix (offset + 8192) met) (cond-true _ _ t)
    (offsets-none g ix (offset + 8192) met (λ j h. all (suc j) (omega arith) ∙ (let q : offset + 8192 * suc j ≡ offset + 8192 + 8192 * j = omega arith in q)))

-- every number fails a test that found none
pub first_from-each : (test : ℕ → Bool) (low many : ℕ) → lowest_from test low many ≡ None → (n : ℕ) → low ≤ n → n < low + many → test n ≡ false
unfolding lowest_from
first_from-each test low zero e n a b = absurd (omega (arith, a, b))
first_from-each test low (suc many) e n a b =
    let P : Bool → Type 0 = λ t. test low ≡ t → cond t (Some low) (lowest_from test (suc low) many) ≡ None → test n ≡ false in
    let yes : P true = λ t f. absurd (cc (f)) in
    let no : P false = λ t f. ⊎_elim (λ s. ap test s ∙ t) (λ o. first_from-each test (suc low) many f n (omega (arith, a, o)) (omega arith)) (cases_eq n low) in
    let all : (t : Bool) → P t = λ t. elim t as (λ t. P t) [ true ↦ yes | false ↦ no ] in
    all (test low) refl e

-- a test that every number fails finds none
pub first_from-nothing : (test : ℕ → Bool) (low many : ℕ) → ((n : ℕ) → low ≤ n → n < low + many → test n ≡ false) → lowest_from test low many ≡ None
unfolding lowest_from
first_from-nothing test low zero all = refl
first_from-nothing test low (suc many) all =
    ap (λ t. cond t (Some low) (lowest_from test (suc low) many)) (all low (omega arith) (omega arith)) ∙ first_from-nothing test (suc low) many (λ n a b. all n (omega arith) (omega arith))

-- neither an index block nor a data block is there if the first of both isn't
pub block-nones : (g : Geometry) (a b : Option ℕ) → either (in_block g a) b ≡ None → (a ≡ None) × (b ≡ None)
block-nones g None b e = (refl, e)
block-nones g (Some a) b e = absurd (cc (e))

-- the first of both isn't there if neither is
pub block-none : (g : Geometry) (a b : Option ℕ) → a ≡ None → b ≡ None → either (in_block g a) b ≡ None
block-none g a b e f = ap (λ x. either (in_block g x) b) e ∙ f

-- what wasn't met twice was met at most once
pub not-twice : (n : ℕ) (xs : List ℕ) → nat_le 2 (times_met n xs) ≡ false → times_met n xs ≤ 1
not-twice n xs t = ⊎_elim (λ lt. omega (arith, lt)) (λ ge. (let y : nat_le 2 (times_met n xs) ≡ true = grind (arith, nat_tests) in absurd (false≢true (sym t ∙ y)))) (cases_lt (times_met n xs) 2)

-- what was met was met at least once
pub not-never : (n : ℕ) (xs : List ℕ) → nat_le (times_met n xs) 0 ≡ false → 1 ≤ times_met n xs
not-never n xs t = ⊎_elim (λ lt. (let z : times_met n xs ≤ 0 = omega (arith, lt) in let y : nat_le (times_met n xs) 0 ≡ true = grind (arith, nat_tests) in absurd (false≢true (sym t ∙ y)))) (λ ge. ge) (cases_lt (times_met n xs) 1)

-- what was met once breaks neither rule 6 nor rule 7
pub is-once : (n : ℕ) (xs : List ℕ) → times_met n xs ≡ 1 → (nat_le 2 (times_met n xs) ≡ false) × (nat_le (times_met n xs) 0 ≡ false)
is-once n xs e = (
  (let a : times_met n xs < 2 = omega (arith, e) in grind (arith, nat_tests)),
  (let a : 0 < times_met n xs = omega (arith, e) in grind (arith, nat_tests)),
)
