-- If no number is met twice, a walk ends at null.
use Rattle.std.proofs.Common.{◌≡◌, ℕ, zero, suc, ◌+◌, ◌-◌, ◌<◌, ◌≤◌, Bool, true, false, cond, not, ◌&&◌, ◌||◌, nat_lt, nat_le, nat_eq, List, [], ◌∷◌, ◌++◌, length, slice_index, refl, sym, ap, ◌∙◌, arith, length-append, ⊎_elim}
use Rattle.std.proofs.Math.Bool.{and-false}
use Rattle.std.proofs.lemmas.Bool.{cases_lt, cases_eq, false≢true, not-false}
use Rattle.std.proofs.lemmas.Bool.Decides.{nat_tests}
use Rattle.lfs_check.specs.Walks.{walk, walk_end, walk_goes_on, is_met}
use Rattle.lfs_check.specs.Meets.{null, times_met}
use Rattle.lfs_check.specs.Checks.{is_between, is_good_end}
use Rattle.lfs_check.proofs.Walking.{walk-within}
use Rattle.lfs_check.proofs.Counting.{in_range, length-most}
use Rattle.lfs_check.proofs.Steps.{times-append}

-- a walk that has steps left ended for a reason
pub walk-stops : (links : List ℕ) (low high steps : ℕ) (met : List ℕ) (n : ℕ) → length (walk links low high steps met n) < length met + steps
    → walk_goes_on low high (walk links low high steps met n) (walk_end links low high steps met n) ≡ false
unfolding walk walk_end
walk-stops links low high zero met n h = absurd (omega (arith, h))
walk-stops links low high (suc steps) met n h =
    let W = walk links low high steps (met ++ n ∷ []) (slice_index links n) in
    let E = walk_end links low high steps (met ++ n ∷ []) (slice_index links n) in
    let P : Bool → Type 0 = λ b. walk_goes_on low high met n ≡ b → length (cond b W met) < length met + suc steps → walk_goes_on low high (cond b W met) (cond b E n) ≡ false in
    let yes : P true = λ e l. walk-stops links low high steps (met ++ n ∷ []) (slice_index links n) (omega (arith, l, length-append met (n ∷ []))) in
    let no : P false = λ e l. e in
    let all : (b : Bool) → P b = λ b. elim b as (λ b. P b) [ true ↦ yes | false ↦ no ] in
    all (walk_goes_on low high met n) refl h

-- a number among those met was met at least once
pub met-times : (n : ℕ) (met : List ℕ) → is_met n met ≡ true → 1 ≤ times_met n met
met-times n [] e = absurd (false≢true e)
met-times n (m ∷ met) e =
    let P : Bool → Type 0 = λ b. b || is_met n met ≡ true → 1 ≤ cond b 1 0 + times_met n met in
    let yes : P true = λ e. omega arith in
    let no : P false = λ e. (let i = met-times n met e in omega (arith, i)) in
    let all : (b : Bool) → P b = λ b. elim b as (λ b. P b) [ true ↦ yes | false ↦ no ] in
    all (nat_eq m n) e

-- a number that passes the test of a range is in it
pub within-of : (low high n : ℕ) → is_between low high n ≡ true → (low ≤ n) × (n < high)
within-of low high n t = (
  ⊎_elim (λ lt. (let f : nat_le low n ≡ false = grind (arith, nat_tests) in absurd (false≢true (sym (ap (λ b. b && nat_lt n high) f) ∙ t)))) (λ ge. ge) (cases_lt n low),
  ⊎_elim (λ lt. lt) (λ ge. (let f : nat_lt n high ≡ false = grind (arith, nat_tests) in absurd (false≢true (sym (ap (λ b. nat_le low n && b) f ∙ and-false (nat_le low n)) ∙ t)))) (cases_lt n high),
)

-- a number in a range passes its test
pub of-within : (low high n : ℕ) → low ≤ n → n < high → is_between low high n ≡ true
of-within low high n a b = (let p : nat_le low n ≡ true = grind (arith, nat_tests) in let q : nat_lt n high ≡ true = grind (arith, nat_tests) in rw (p, q) refl)

-- a number that isn't in a range fails its test
pub out-within : (low high n : ℕ) → (low ≤ n → n < high → ⊥) → is_between low high n ≡ false
out-within low high n out = by (is_between low high n) refl
  where
    by : (b : Bool) → is_between low high n ≡ b → is_between low high n ≡ false
    by true e = (let w = within-of low high n e in absurd (out w.0 w.1))
    by false e = e

-- a number outside the range of a list isn't in it
pub times-out : (low high b : ℕ) (xs : List ℕ) → ((j : ℕ) → j < length xs → (low ≤ slice_index xs j) × (slice_index xs j < high)) → (low ≤ b → b < high → ⊥) → times_met b xs ≡ 0
times-out low high b [] all out = refl
times-out low high b (x ∷ xs) all out =
    let here = all 0 (omega arith) in
    let i = times-out low high b xs (λ j h. all (suc j) (omega arith)) out in
    let t : nat_eq x b ≡ false = (let ne : x ≡ b → ⊥ = λ e. out (omega (arith, here.0, e)) (omega (arith, here.1, e)) in ⊎_elim (λ e. absurd (ne e)) (λ o. grind (arith, nat_tests)) (cases_eq x b)) in
    rw t (omega (arith, i))

-- a list of one number meets it once
times-one : (n : ℕ) → times_met n (n ∷ []) ≡ 1
times-one n = (let s : nat_eq n n ≡ true = grind (arith, nat_tests) in rw s refl)

-- a walk that had steps left, and met no number twice, ended outside its range
pub no-end : (links : List ℕ) (low high steps n : ℕ) → length (walk links low high steps [] n) < steps
    → ((b : ℕ) → low ≤ b → b < high → times_met b (walk links low high steps [] n ++ walk_end links low high steps [] n ∷ []) ≤ 1)
    → low ≤ walk_end links low high steps [] n → walk_end links low high steps [] n < high → ⊥
no-end links low high steps n short once a b =
    let W = walk links low high steps [] n in
    let E = walk_end links low high steps [] n in
    let stop : walk_goes_on low high W E ≡ false = walk-stops links low high steps [] n (omega (arith, short)) in
    let p : nat_lt E high ≡ true = grind (arith, nat_tests) in
    let q : nat_lt E low ≡ false = grind (arith, nat_tests) in
    let r : not (is_met E W) ≡ false = sym (let s : walk_goes_on low high W E ≡ not (is_met E W) = rw (p, q) refl in s) ∙ stop in
    let m : is_met E W ≡ true = not-false (is_met E W) r in
    let one = met-times E W m in
    let o = once E a b in
    let t = times-append E W (E ∷ []) in
    let self = times-one E in
    omega (arith, one, o, t, self)

-- a walk of a free chain ends at null
pub free-end : (links : List ℕ) (low high steps n : ℕ) → high - low ≤ steps
    → ((b : ℕ) → low ≤ b → b < high → times_met b (walk links low high steps [] n ++ walk_end links low high steps [] n ∷ []) ≤ 1)
    → is_good_end low high (walk_end links low high steps [] n) ≡ true → walk_end links low high steps [] n ≡ null
free-end links low high steps n room once good =
    let W = walk links low high steps [] n in
    let E = walk_end links low high steps [] n in
    let never : low ≤ E → E < high → ⊥ = λ a b.
    (let most : length (W ++ E ∷ []) ≤ high - low = length-most low high (W ++ E ∷ [])
    (λ k. ⊎_elim
    (λ lt. ⊎_elim (λ small. (let z = times-out low high k W (walk-within links low high steps n) (λ x y. omega (arith, x, small)) in let t = times-append k W (E ∷ []) in
    let ne : nat_eq E k ≡ false = (let o : k < E = omega (arith, a, small) in grind (arith, nat_tests)) in let one : times_met k (E ∷ []) ≡ 0 = rw ne refl in omega (arith, z, t, one)))
    (λ big. (let o = once k big lt in let x : nat_lt k high ≡ true = grind (arith, nat_tests) in let y : nat_lt k low ≡ false = grind (arith, nat_tests) in let r : in_range low high k ≡ 1 = rw (x, y) refl in omega (arith, o, r))) (cases_lt k low))
    (λ ge. (let z = times-out low high k W (walk-within links low high steps n) (λ x y. omega (arith, y, ge)) in let t = times-append k W (E ∷ []) in
    let ne : nat_eq E k ≡ false = (let o : E < k = omega (arith, b, ge) in grind (arith, nat_tests)) in let one : times_met k (E ∷ []) ≡ 0 = rw ne refl in omega (arith, z, t, one)))
    (cases_lt k high)) in
    no-end links low high steps n (omega (arith, most, room, length-append W (E ∷ []))) once a b) in
    let P : Bool → Type 0 = λ t. nat_eq E null ≡ t → cond t true (is_between low high E) ≡ true → E ≡ null in
    let yes : P true = λ t g. grind (arith, nat_tests) in
    let no : P false = λ t g. (let w = within-of low high E g in absurd (never w.0 w.1)) in
    let all : (t : Bool) → P t = λ t. elim t as (λ t. P t) [ true ↦ yes | false ↦ no ] in
    all (nat_eq E null) refl good

-- the numbers of a walk that ended at null
pub times-ended : (b : ℕ) (W : List ℕ) (E : ℕ) → E ≡ null → b < null → times_met b (W ++ E ∷ []) ≡ times_met b W
times-ended b W E e h =
    let t = times-append b W (E ∷ []) in
    let ne : nat_eq E b ≡ false = (let o : b < E = omega (arith, e, h) in grind (arith, nat_tests)) in
    let z : times_met b (E ∷ []) ≡ 0 = rw ne refl in omega (arith, t, z)
