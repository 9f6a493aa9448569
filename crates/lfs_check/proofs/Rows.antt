-- The data numbers of a file are in the rows of its index blocks.
use Rattle.std.proofs.Common.{◌≡◌, ℕ, zero, suc, ◌+◌, ◌-◌, ◌*◌, ◌<◌, Bool, true, false, cond, ◌&&◌, nat_lt, nat_eq, List, [], ◌∷◌, ◌++◌, length, slice_index, take, drop, replicate, refl, sym, ap, ◌∙◌, arith, length-append, length-take, ⊎_elim}
use Rattle.std.specs.List.{flat_map}
use Rattle.std.proofs.lemmas.List.{take_all, drop_all, take-take, take-append-le, drop-append-le, drop-drop, take-replicate, drop-take}
use Rattle.std.proofs.Math.Seq.{take-append-add}
use Rattle.std.proofs.lemmas.Bool.{cases_lt, false≢true, and_parts}
use Rattle.std.proofs.lemmas.Bool.Decides.{nat_tests}
use Rattle.lfs_format.specs.declared.Index.{Index}
use Rattle.lfs_check.specs.declared.geometry.Geometry.{Geometry}
use Rattle.lfs_check.specs.Geometries.{first_data}
use Rattle.lfs_check.specs.Meets.{null, times_met}
use Rattle.lfs_check.specs.Checks.{row_fits, data_row, number_fits, is_between}
use Rattle.lfs_check.proofs.Steps.{times-append}

-- the test for null
null-of : (b : ℕ) → nat_eq b null ≡ true → b ≡ null
null-of b t = grind (arith, nat_tests)

-- numbers of which the first are wanted: these, and then nulls
pub fits-is : (g : Geometry) (w : ℕ) (xs : List ℕ) → row_fits g w xs ≡ true → xs ≡ take w xs ++ replicate (length xs - w) null
unfolding row_fits
fits-is g zero [] e = refl
fits-is g (suc w) [] e = ap (λ k. replicate k null) (let q : 0 ≡ 0 - suc w = omega arith in q)
fits-is g zero (x ∷ xs) e =
    let t : nat_eq x null ≡ true = (and_parts (number_fits g 0 x) (row_fits g 0 xs) e).0 in
    let i : xs ≡ replicate (length xs - 0) null = fits-is g 0 xs (and_parts (number_fits g 0 x) (row_fits g 0 xs) e).1 in
    let n : length (x ∷ xs) - 0 ≡ suc (length xs - 0) = omega arith in
    ap (λ y. y ∷ xs) (null-of x t) ∙ ap (λ l. null ∷ l) i ∙ sym (ap (λ k. replicate k null) n)
fits-is g (suc w) (x ∷ xs) e =
    let i = fits-is g w xs (let s = (and_parts (number_fits g (suc w) x) (row_fits g (suc w - 1) xs) e).1 in ap (λ k. row_fits g k xs) (let q : w ≡ suc w - 1 = omega arith in q) ∙ s) in
    ap (λ l. x ∷ l) i ∙ ap (λ k. x ∷ (take w xs ++ replicate k null)) (let q : length xs - w ≡ length (x ∷ xs) - suc w = omega arith in q)

-- those wanted are in range
pub fits-range : (g : Geometry) (w : ℕ) (xs : List ℕ) → row_fits g w xs ≡ true → (b : ℕ) → is_between (first_data g) g.blocks b ≡ false → times_met b (take w xs) ≡ 0
unfolding row_fits
fits-range g zero xs e b out = refl
fits-range g (suc w) [] e b out = refl
fits-range g (suc w) (x ∷ xs) e b out =
    let both = and_parts (number_fits g (suc w) x) (row_fits g (suc w - 1) xs) e in
    let i = fits-range g w xs (ap (λ k. row_fits g k xs) (let q : w ≡ suc w - 1 = omega arith in q) ∙ both.1) b out in
    let inside : is_between (first_data g) g.blocks x ≡ true = sym (ap (λ t. cond t (is_between (first_data g) g.blocks x) (nat_eq x null)) (let q : nat_lt 0 (suc w) ≡ true = grind (arith, nat_tests) in q)) ∙ both.0 in
    let P : Bool → Type 0 = λ t. nat_eq x b ≡ t → cond t 1 0 + times_met b (take w xs) ≡ 0 in
    let yes : P true = λ t. (let same : x ≡ b = grind (arith, nat_tests) in absurd (false≢true (sym out ∙ ap (is_between (first_data g) g.blocks) (sym same) ∙ inside))) in
    let no : P false = λ t. omega (arith, i) in
    let all : (t : Bool) → P t = λ t. elim t as (λ t. P t) [ true ↦ yes | false ↦ no ] in
    all (nat_eq x b) refl

-- numbers fit if the first ones fit, and the rest what is still wanted then
pub fits-append : (g : Geometry) (w : ℕ) (xs ys : List ℕ) → row_fits g w xs ≡ true → row_fits g (w - length xs) ys ≡ true → row_fits g w (xs ++ ys) ≡ true
unfolding row_fits
fits-append g w [] ys a b = ap (λ k. row_fits g k ys) (let q : w ≡ w - 0 = omega arith in q) ∙ b
fits-append g w (x ∷ xs) ys a b =
    let both = and_parts (number_fits g w x) (row_fits g (w - 1) xs) a in
    let i = fits-append g (w - 1) xs ys both.1 (ap (λ k. row_fits g k ys) (let q : w - 1 - length xs ≡ w - length (x ∷ xs) = omega arith in q) ∙ b) in
    ap (λ t. t && row_fits g (w - 1) (xs ++ ys)) both.0 ∙ i

-- rows of 16
pub length-rows : (ix : List Index) (met : List ℕ) → ((j : ℕ) → j < length met → length (data_row ix (slice_index met j)) ≡ 16) → length (flat_map (data_row ix) met) ≡ 16 * length met
length-rows ix [] all = refl
length-rows ix (m ∷ met) all =
    let i = length-rows ix met (λ j h. all (suc j) (omega arith)) in let h = all 0 (omega arith) in
    length-append (data_row ix m) (flat_map (data_row ix) met) ∙ (omega (arith, i, h))

-- the numbers of all index blocks fit what a file needs if each block's do
pub rows-fit : (g : Geometry) (ix : List Index) (w : ℕ) (met : List ℕ) → ((j : ℕ) → j < length met → length (data_row ix (slice_index met j)) ≡ 16)
    → ((j : ℕ) → j < length met → row_fits g (w - 16 * j) (data_row ix (slice_index met j)) ≡ true) → row_fits g w (flat_map (data_row ix) met) ≡ true
unfolding row_fits
rows-fit g ix w [] wide all = refl
rows-fit g ix w (m ∷ met) wide all =
    let n : length (data_row ix m) ≡ 16 = wide 0 (omega arith) in
    fits-append g w (data_row ix m) (flat_map (data_row ix) met) (ap (λ k. row_fits g k (data_row ix m)) (let q : w ≡ w - 16 * 0 = omega arith in q) ∙ all 0 (omega arith))
    (ap (λ k. row_fits g k (flat_map (data_row ix) met)) (let q : w - length (data_row ix m) ≡ w - 16 = omega (arith, n) in q)
    ∙ rows-fit g ix (w - 16) met (λ j h. wide (suc j) (omega arith)) (λ j h. ap (λ k. row_fits g k (data_row ix (slice_index met j))) (let q : w - 16 - 16 * j ≡ w - 16 * suc j = omega arith in q) ∙ all (suc j) (omega arith)))

-- dropping from a beginning leaves a shorter beginning
drop-take-sub : (n w : ℕ) (xs : List ℕ) → drop n (take w xs) ≡ take (w - n) (drop n xs)
drop-take-sub n w xs = ⊎_elim
    (λ lt. drop_all n (take w xs) (omega (arith, lt, length-take w xs)) ∙ ap (λ k. take k (drop n xs)) (let q : 0 ≡ w - n = omega (arith, lt) in q))
    (λ ge. ap (λ k. drop n (take k xs)) (let q : w ≡ n + (w - n) = omega (arith, ge) in q) ∙ drop-take n (w - n) xs) (cases_lt w n)

-- each row is what an index block of the file has
pub rows-are : (g : Geometry) (ix : List Index) (w : ℕ) (met : List ℕ) → ((j : ℕ) → j < length met → length (data_row ix (slice_index met j)) ≡ 16)
    → ((j : ℕ) → j < length met → row_fits g (w - 16 * j) (data_row ix (slice_index met j)) ≡ true)
    → (j : ℕ) → j < length met → data_row ix (slice_index met j) ≡ take 16 (drop (16 * j) (take w (flat_map (data_row ix) met)) ++ replicate 16 null)
rows-are g ix w [] wide all j h = absurd (omega (arith, h))
rows-are g ix w (m ∷ met) wide all zero h =
    let row = data_row ix m in
    let rest = flat_map (data_row ix) met in
    let n : length row ≡ 16 = wide 0 (omega arith) in
    let fit : row_fits g w row ≡ true = ap (λ k. row_fits g k row) (let q : w ≡ w - 16 * 0 = omega arith in q) ∙ all 0 (omega arith) in
    let nulls = replicate 16 null in
    let goal_is : take 16 (take w (row ++ rest) ++ nulls) ≡ row =
    ⊎_elim
    (λ few. (let t : length (take w row) ≡ w = omega (arith, few, n, length-take w row) in
    ap (λ l. take 16 (l ++ nulls)) (take-append-le w row rest (omega (arith, few, n)))
    ∙ ap (λ k. take k (take w row ++ nulls)) (let q : 16 ≡ length (take w row) + (16 - w) = omega (arith, t, few) in q)
    ∙ take-append-add (take w row) nulls (16 - w) ∙ ap (λ l. take w row ++ l) (take-replicate (16 - w) 16 null (omega arith))
    ∙ ap (λ k. take w row ++ replicate k null) (let q : 16 - w ≡ length row - w = omega (arith, n) in q) ∙ sym (fits-is g w row fit)))
    (λ full. (let l = length-take w (row ++ rest) in let a = length-append row rest in
    take-append-le 16 (take w (row ++ rest)) nulls (omega (arith, full, l, a, n)) ∙ take-take 16 w (row ++ rest) (omega (arith, full))
    ∙ take-append-le 16 row rest (omega (arith, n)) ∙ take_all 16 row (omega (arith, n))))
    (cases_lt w 16) in
    sym (ap (λ k. take 16 (drop k (take w (row ++ rest)) ++ nulls)) (let q : 16 * 0 ≡ 0 = omega arith in q) ∙ goal_is)
rows-are g ix w (m ∷ met) wide all (suc j) h =
    let row = data_row ix m in
    let rest = flat_map (data_row ix) met in
    let n : length row ≡ 16 = wide 0 (omega arith) in
    let skip : drop (16 * suc j) (take w (row ++ rest)) ≡ drop (16 * j) (take (w - 16) rest) =
    ap (λ k. drop k (take w (row ++ rest))) (let q : 16 * suc j ≡ 16 + 16 * j = omega arith in q) ∙ sym (drop-drop (16 * j) 16 (take w (row ++ rest)))
    ∙ ap (drop (16 * j)) (drop-take-sub 16 w (row ++ rest) ∙ ap (take (w - 16)) (drop-append-le 16 row rest (omega (arith, n)) ∙ ap (λ l. l ++ rest) (drop_all 16 row (omega (arith, n))))) in
    rows-are g ix (w - 16) met (λ j h. wide (suc j) (omega arith)) (λ j h. ap (λ k. row_fits g k (data_row ix (slice_index met j))) (let q : w - 16 - 16 * j ≡ w - 16 * suc j = omega arith in q) ∙ all (suc j) (omega arith)) j (omega arith)
    ∙ ap (λ l. take 16 (l ++ replicate 16 null)) (sym skip)

-- a block's number isn't among nulls
pub times-nulls : (b k : ℕ) → b < null → times_met b (replicate k null) ≡ 0
times-nulls b zero h = refl
times-nulls b (suc k) h = let t : nat_eq null b ≡ false = grind (arith, nat_tests) in let i = times-nulls b k h in rw t (omega (arith, i))

-- the numbers in range are those of the file
pub fits-times : (g : Geometry) (w : ℕ) (xs : List ℕ) → row_fits g w xs ≡ true → (b : ℕ) → b < null → times_met b xs ≡ times_met b (take w xs)
fits-times g w xs e b h = ap (times_met b) (fits-is g w xs e) ∙ times-append b (take w xs) (replicate (length xs - w) null) ∙ (let z = times-nulls b (length xs - w) h in omega (arith, z))

-- and such a row fits
pub fits-made : (g : Geometry) (xs : List ℕ) (k m : ℕ) → ((j : ℕ) → j < length xs → is_between (first_data g) g.blocks (slice_index xs j) ≡ true) → row_fits g (length xs) (take k (xs ++ replicate m null)) ≡ true
unfolding row_fits
fits-made g [] zero m all = refl
fits-made g [] (suc k) zero all = refl
fits-made g [] (suc k) (suc m) all = fits-made g [] k m all
fits-made g (x ∷ xs) zero m all = refl
fits-made g (x ∷ xs) (suc k) m all =
    let i = fits-made g xs k m (λ j h. all (suc j) (omega arith)) in
    let here : number_fits g (length (x ∷ xs)) x ≡ true = ap (λ t. cond t (is_between (first_data g) g.blocks x) (nat_eq x null)) (let q : nat_lt 0 (length (x ∷ xs)) ≡ true = grind (arith, nat_tests) in q) ∙ all 0 (omega arith) in
    ap (λ t. t && row_fits g (length (x ∷ xs) - 1) (take k (xs ++ replicate m null))) here ∙ ap (λ n. row_fits g n (take k (xs ++ replicate m null))) (let q : length (x ∷ xs) - 1 ≡ length xs = omega arith in q) ∙ i
