-- Lemmas on counts of meets and on the first number that passes a test.
use Rattle.std.proofs.Common.{◌≡◌, ℕ, suc, ◌+◌, ◌-◌, ◌<◌, ◌≤◌, Bool, true, false, cond, nat_lt, nat_eq, min, List, [], ◌∷◌, ◌++◌, length, slice_index, slice_set, take, refl, sym, ap, ◌∙◌, arith, ⊎_elim, get_or-set_other, get_or-set_same, length-set, Some, None}
use Rattle.std.proofs.lemmas.List.{take_more}
use Rattle.std.proofs.lemmas.Bool.{cases_eq}
use Rattle.std.proofs.lemmas.Bool.Decides.{nat_tests}
use Rattle.lfs_check.specs.Meets.{times_met, lowest_from, counted_more}

-- a search that has numbers left tests the first of them
first_from-step : (test : ℕ → Bool) (n m k : ℕ) → m ≡ suc k → lowest_from test n m ≡ cond (test n) (Some n) (lowest_from test (suc n) k)
unfolding lowest_from
first_from-step test n m k e = ap (lowest_from test n) e

-- a number that passes, with none before it, is the lowest
pub first_from-yes : (test : ℕ → Bool) (low many i : ℕ) → i < many → test (low + i) ≡ true → lowest_from test (low + i) (many - i) ≡ lowest_from test low many → Some (low + i) ≡ lowest_from test low many
first_from-yes test low many i h t e = sym (sym e ∙ first_from-step test (low + i) (many - i) (many - suc i) (omega arith) ∙ ap (λ b. cond b (Some (low + i)) (lowest_from test (suc (low + i)) (many - suc i))) t)

-- a number that fails is passed over
pub first_from-no : (test : ℕ → Bool) (low many i : ℕ) → i < many → test (low + i) ≡ false → lowest_from test (low + i) (many - i) ≡ lowest_from test low many → lowest_from test (low + (i + 1)) (many - (i + 1)) ≡ lowest_from test low many
first_from-no test low many i h t e =
    sym (sym e ∙ first_from-step test (low + i) (many - i) (many - (i + 1)) (omega arith) ∙ ap (λ b. cond b (Some (low + i)) (lowest_from test (suc (low + i)) (many - (i + 1)))) t
    ∙ ap (λ n. lowest_from test n (many - (i + 1))) (let q : suc (low + i) ≡ low + (i + 1) = omega arith in q))

-- a search over all numbers without success finds none
pub first_from-none : (test : ℕ → Bool) (low many i : ℕ) → many ≤ i → lowest_from test (low + i) (many - i) ≡ lowest_from test low many → None ≡ lowest_from test low many
unfolding lowest_from
first_from-none test low many i h e = sym (sym e ∙ ap (lowest_from test (low + i)) (let z : many - i ≡ 0 = omega arith in z))

-- one number more at the end of a list is met once more
pub meets-push : (n x : ℕ) (xs : List ℕ) → times_met n (xs ++ x ∷ []) ≡ times_met n xs + cond (nat_eq x n) 1 0
meets-push n x [] = omega arith
meets-push n x (y ∷ xs) = let i = meets-push n x xs in omega (arith, i)

-- the counts after one meet more
pub counted-more : (counts met : List ℕ) (high i : ℕ) → i < length met → length counts ≡ high → ((n : ℕ) → n < high → slice_index counts n ≡ min 2 (times_met n (take i met)))
    → (n : ℕ) → n < high → slice_index (counted_more counts (slice_index met i)) n ≡ min 2 (times_met n (take (i + 1) met))
counted-more counts met high i h l each n below =
    let x = slice_index met i in
    let more : times_met n (take (i + 1) met) ≡ times_met n (take i met) + cond (nat_eq x n) 1 0 = ap (times_met n) (take_more met i 0 h) ∙ meets-push n x (take i met) in
    let was = each n below in
    ⊎_elim
    (λ same. (let one : nat_eq x n ≡ true = grind (arith, nat_tests) in
    let lt : nat_lt x (length counts) ≡ true = grind (arith, nat_tests) in
    let m : times_met n (take (i + 1) met) ≡ times_met n (take i met) + 1 = more ∙ ap (λ b. times_met n (take i met) + cond b 1 0) one in
    let c : slice_index (counted_more counts x) n ≡ min 2 (slice_index counts n + 1) =
    ap (λ b. slice_index (cond b (slice_set counts x (min 2 (slice_index counts x + 1))) counts) n) lt ∙ ap (λ k. slice_index (slice_set counts k (min 2 (slice_index counts k + 1))) n) same
    ∙ get_or-set_same counts n (min 2 (slice_index counts n + 1)) 0 (omega (arith, l)) in
    omega (arith, c, m, was)))
    (λ other. (let none : nat_eq x n ≡ false = grind (arith, nat_tests) in
    let m : times_met n (take (i + 1) met) ≡ times_met n (take i met) + 0 = more ∙ ap (λ b. times_met n (take i met) + cond b 1 0) none in
    let P : Bool → Type 0 = λ b. slice_index (cond b (slice_set counts x (min 2 (slice_index counts x + 1))) counts) n ≡ slice_index counts n in
    let all : (b : Bool) → P b = λ b. elim b as (λ b. P b) [ true ↦ get_or-set_other counts x n (min 2 (slice_index counts x + 1)) 0 (λ e. other (sym e)) | false ↦ refl ] in
    let c = all (nat_lt x (length counts)) in omega (arith, c, m, was)))
    (cases_eq x n)

-- counting a number keeps how many counts there are
pub length-counted : (counts : List ℕ) (at : ℕ) → length (counted_more counts at) ≡ length counts
length-counted counts at = elim (nat_lt at (length counts)) as (λ b. length (cond b (slice_set counts at (min 2 (slice_index counts at + 1))) counts) ≡ length counts) [ true ↦ length-set counts at (min 2 (slice_index counts at + 1)) | false ↦ refl ]
