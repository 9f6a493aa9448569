-- If each number of a range is once in a list, and no other is, the list is as long as the range.
use Rattle.std.proofs.Common.{◌≡◌, ℕ, zero, suc, ◌+◌, ◌-◌, ◌<◌, ◌≤◌, true, false, cond, not, ◌&&◌, nat_lt, nat_eq, List, [], ◌∷◌, ◌++◌, length, refl, sym, ◌∙◌, arith, ⊎_elim}
use Rattle.std.proofs.lemmas.Bool.{cases_eq, cases_lt}
use Rattle.std.proofs.lemmas.Bool.Decides.{nat_tests}
use Rattle.lfs_check.specs.Laid.{times_in, Shape, Places, Laid}
use Rattle.lfs_check.specs.Meets.{times_met}
use Rattle.lfs_check.proofs.Steps.{times-append}

-- how many numbers of a list are below a limit
abbrev pub below : ℕ → List ℕ → ℕ
below h [] = 0
below h (x ∷ xs) = cond (nat_lt x h) 1 0 + below h xs

-- none is below zero
below-zero : (xs : List ℕ) → below 0 xs ≡ 0
below-zero [] = refl
below-zero (x ∷ xs) = let t : nat_lt x 0 ≡ false = grind (arith, nat_tests) in let i = below-zero xs in rw t (omega (arith, i))

-- a number below the next limit is below this one or equal to it
below-one : (h x : ℕ) → ◌≡◌ {A = ℕ} (cond (nat_lt x (suc h)) 1 0) (cond (nat_lt x h) 1 0 + cond (nat_eq x h) 1 0)
below-one h x =
    ⊎_elim (λ lt. (let a : nat_lt x (suc h) ≡ true = grind (arith, nat_tests) in let b : nat_lt x h ≡ true = grind (arith, nat_tests) in let c : nat_eq x h ≡ false = grind (arith, nat_tests) in rw (a, b, c) refl))
    (λ ge. ⊎_elim (λ same. (let a : nat_lt x (suc h) ≡ true = grind (arith, nat_tests) in let b : nat_lt x h ≡ false = grind (arith, nat_tests) in let c : nat_eq x h ≡ true = grind (arith, nat_tests) in rw (a, b, c) refl))
    (λ other. (let gt : suc h ≤ x = omega (arith, ge, other) in let a : nat_lt x (suc h) ≡ false = grind (arith, nat_tests) in let b : nat_lt x h ≡ false = grind (arith, nat_tests) in let c : nat_eq x h ≡ false = grind (arith, nat_tests) in rw (a, b, c) refl))
    (cases_eq x h))
    (cases_lt x h)

-- one limit further counts one number more, as often as it is there
below-suc : (h : ℕ) (xs : List ℕ) → below (suc h) xs ≡ below h xs + times_met h xs
below-suc h [] = refl
below-suc h (x ∷ xs) = let i = below-suc h xs in let o = below-one h x in omega (arith, i, o)

-- all numbers are below a limit from which on none is met
below-all : (h : ℕ) (xs : List ℕ) → ((b : ℕ) → h ≤ b → times_met b xs ≡ 0) → below h xs ≡ length xs
below-all h [] none = refl
below-all h (x ∷ xs) none =
    let i = below-all h xs (λ b le. (let n = none b le in omega (arith, n))) in
    ⊎_elim (λ (lt : x < h). (let a : nat_lt x h ≡ true = grind (arith, nat_tests) in let r : below h (x ∷ xs) ≡ 1 + below h xs = rw a refl in omega (arith, i, r)))
    (λ ge. (let n = none x ge in let s : nat_eq x x ≡ true = grind (arith, nat_tests) in let one : times_met x (x ∷ xs) ≡ 1 + times_met x xs = rw s refl in absurd (omega (arith, n, one)))) (cases_lt x h)

-- 1 if a number is in a range, else 0
abbrev pub in_range : ℕ → ℕ → ℕ → ℕ
in_range low high b = cond (nat_lt b high && not (nat_lt b low)) 1 0

-- a list that meets each number of a range once has as many below a limit as the range
range_below : (low high h : ℕ) (xs : List ℕ) → h ≤ high → ((b : ℕ) → times_met b xs ≡ in_range low high b) → below h xs ≡ h - low
range_below low high zero xs le once = below-zero xs ∙ (let e : 0 ≡ 0 - low = omega arith in e)
range_below low high (suc h) xs le once =
    let i = range_below low high h xs (omega arith) once in
    let s = below-suc h xs in
    let o = once h in
    let a : nat_lt h high ≡ true = grind (arith, nat_tests) in
    ⊎_elim (λ lt. (let b : nat_lt h low ≡ true = grind (arith, nat_tests) in let z : in_range low high h ≡ 0 = rw (a, b) refl in omega (arith, i, s, o, z, lt)))
    (λ ge. (let b : nat_lt h low ≡ false = grind (arith, nat_tests) in let z : in_range low high h ≡ 1 = rw (a, b) refl in omega (arith, i, s, o, z, ge)))
    (cases_lt h low)

-- a list that meets each number of a range once is as long as the range
pub length-once : (low high : ℕ) (xs : List ℕ) → ((b : ℕ) → times_met b xs ≡ in_range low high b) → length xs ≡ high - low
length-once low high xs once =
    sym (below-all high xs (λ b le. (let a : nat_lt b high ≡ false = grind (arith, nat_tests) in once b ∙ (let z : in_range low high b ≡ 0 = rw a refl in z))))
    ∙ range_below low high high xs (omega arith) once

-- lists one after another
abbrev pub joined : List (List ℕ) → List ℕ
joined [] = []
joined (l ∷ lists) = l ++ joined lists

-- a number is in the joined lists as often as in all of them together
pub times-joined : (b : ℕ) (lists : List (List ℕ)) → times_met b (joined lists) ≡ times_in b lists
times-joined b [] = refl
times-joined b (l ∷ lists) = let i = times-joined b lists in let a = times-append b l (joined lists) in omega (arith, i, a)

-- all data blocks are those of files, the free ones and those held: if none is free or held, the files fill the disk
pub data_filled : (many low high : ℕ) (d : Shape) (p : Places) → Laid many low high d p → length (joined p.datas ++ (p.free_data ++ p.held_data)) ≡ high - low
data_filled many low high d p l =
    length-once low high (joined p.datas ++ (p.free_data ++ p.held_data))
    (λ b. (let one = l.one_data b in let a = times-append b (joined p.datas) (p.free_data ++ p.held_data) in let c = times-append b p.free_data p.held_data in let j = times-joined b p.datas in omega (arith, one, a, c, j)))

-- a list that meets each number of a range at most once has no more below a limit than the range
range_most : (low high h : ℕ) (xs : List ℕ) → h ≤ high → ((b : ℕ) → times_met b xs ≤ in_range low high b) → below h xs ≤ h - low
range_most low high zero xs le once = omega (arith, below-zero xs)
range_most low high (suc h) xs le once =
    let i = range_most low high h xs (omega arith) once in
    let s = below-suc h xs in
    let o = once h in
    let a : nat_lt h high ≡ true = grind (arith, nat_tests) in
    ⊎_elim (λ lt. (let b : nat_lt h low ≡ true = grind (arith, nat_tests) in let z : in_range low high h ≡ 0 = rw (a, b) refl in omega (arith, i, s, o, z, lt)))
    (λ ge. (let b : nat_lt h low ≡ false = grind (arith, nat_tests) in let z : in_range low high h ≡ 1 = rw (a, b) refl in omega (arith, i, s, o, z, ge)))
    (cases_lt h low)

-- if no number outside the range is in a list, and none twice, the list is no longer than the range
pub length-most : (low high : ℕ) (xs : List ℕ) → ((b : ℕ) → times_met b xs ≤ in_range low high b) → length xs ≤ high - low
length-most low high xs once =
    let all = below-all high xs (λ b le. (let o = once b in let a : nat_lt b high ≡ false = grind (arith, nat_tests) in let z : in_range low high b ≡ 0 = rw a refl in omega (arith, o, z))) in
    omega (arith, all, range_most low high high xs (omega arith) once)
