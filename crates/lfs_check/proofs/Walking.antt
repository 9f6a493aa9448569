-- Lemmas on walks.
use Rattle.std.proofs.Common.{◌≡◌, ℕ, zero, suc, ◌-◌, ◌<◌, ◌≤◌, Bool, true, false, not, ◌&&◌, ◌||◌, nat_lt, nat_eq, List, [], ◌∷◌, ◌++◌, length, get_or, slice_index, slice_set, refl, sym, ap, ◌∙◌, arith, get_or-set_other, get_or-set_same, eq-eqb, ⊎_elim}
use Rattle.std.proofs.Math.Bool.{or-false, or-true}
use Rattle.std.proofs.Common.{◌+◌, length-append, cond}
use Rattle.std.proofs.lemmas.List.{get_or_at}
use Rattle.std.proofs.Math.ListN.{get_or-append}
use Rattle.std.proofs.lemmas.Bool.{cases_eq, cases_lt, false≢true}
use Rattle.std.proofs.lemmas.Bool.Decides.{nat_tests}
use Rattle.lfs_check.specs.Walks.{walk, walk_end, is_met, walk_goes_on, is_open}

-- the marks are those of the numbers met
abbrev pub Marks : List Bool → List ℕ → ℕ → Type 0
Marks seen met size = (n : ℕ) → n < size → get_or seen n false ≡ is_met n met

-- a number is among those met and one more if it is that one or was met
pub is_met-push : (n m : ℕ) (met : List ℕ) → is_met n (met ++ m ∷ []) ≡ is_met n met || nat_eq m n
is_met-push n m [] = elim (nat_eq m n) as (λ b. b || false ≡ false || b) [ true ↦ refl | false ↦ refl ]
is_met-push n m (x ∷ met) =
    elim (nat_eq x n) as (λ b. b || is_met n (met ++ m ∷ []) ≡ (b || is_met n met) || nat_eq m n) [ true ↦ refl | false ↦ is_met-push n m met ]

-- one number more
pub Marks-more : (seen : List Bool) (met : List ℕ) (size m : ℕ) → m < length seen → Marks seen met size → Marks (slice_set seen m true) (met ++ m ∷ []) size
Marks-more seen met size m h marks n lt =
    ⊎_elim (λ same. (let e : nat_eq m n ≡ true = eq-eqb m n (sym same) in
    let one : get_or (slice_set seen m true) n false ≡ true = ap (λ k. get_or (slice_set seen m true) k false) same ∙ get_or-set_same seen m true false h in
    one ∙ sym (is_met-push n m met ∙ ap (λ b. is_met n met || b) e ∙ or-true (is_met n met))))
    (λ other. (let e : nat_eq m n ≡ false = grind (arith, nat_tests) in
    get_or-set_other seen m n true false other ∙ marks n lt ∙ sym (is_met-push n m met ∙ ap (λ b. is_met n met || b) e ∙ or-false (is_met n met))))
    (cases_eq n m)

-- the marks tell whether a walk goes on
pub is_open-goes_on : (seen : List Bool) (met : List ℕ) (size low high n : ℕ) → high ≤ size → Marks seen met size → is_open seen low high n ≡ walk_goes_on low high met n
is_open-goes_on seen met size low high n h marks =
    ⊎_elim (λ lt. ap (λ b. nat_lt n high && not (nat_lt n low) && not b) (marks n (omega (arith, lt))))
    (λ ge. (let e : nat_lt n high ≡ false = grind (arith, nat_tests) in rw e refl)) (cases_lt n high)

-- a walk that may not go on to a number meets nothing more
pub walk-stop : (links : List ℕ) (low high left : ℕ) (met : List ℕ) (n : ℕ) → walk_goes_on low high met n ≡ false
    → (walk links low high left met n ≡ met) × (walk_end links low high left met n ≡ n)
unfolding walk walk_end
walk-stop links low high zero met n g = (refl, refl)
walk-stop links low high (suc left) met n g = rw g (refl, refl)

-- a walk without steps meets nothing more
pub walk-none : (links : List ℕ) (low high left : ℕ) (met : List ℕ) (n : ℕ) → left ≤ 0
    → (walk links low high left met n ≡ met) × (walk_end links low high left met n ≡ n)
unfolding walk walk_end
walk-none links low high zero met n g = (refl, refl)
walk-none links low high (suc left) met n g = absurd (omega arith)

-- a walk that may go on to a number meets it and goes on from its link
pub walk-more : (links : List ℕ) (low high left : ℕ) (met : List ℕ) (n : ℕ) → 0 < left → walk_goes_on low high met n ≡ true
    → (walk links low high left met n ≡ walk links low high (left - 1) (met ++ n ∷ []) (slice_index links n))
    × (walk_end links low high left met n ≡ walk_end links low high (left - 1) (met ++ n ∷ []) (slice_index links n))
unfolding walk walk_end
walk-more links low high zero met n lt g = absurd (omega arith)
walk-more links low high (suc left) met n lt g =
    let e : left ≡ suc left - 1 = omega arith in
    rw g (ap (λ j. walk links low high j (met ++ n ∷ []) (slice_index links n)) e, ap (λ j. walk_end links low high j (met ++ n ∷ []) (slice_index links n)) e)

-- a walk goes on only to numbers below its limit
pub goes_on-below : (low high n : ℕ) (met : List ℕ) → walk_goes_on low high met n ≡ true → n < high
goes_on-below low high n met g =
    ⊎_elim (λ lt. lt) (λ ge. (let e : nat_lt n high ≡ false = grind (arith, nat_tests) in
    let f : walk_goes_on low high met n ≡ false = rw e refl in absurd (false≢true (sym f ∙ g)))) (cases_lt n high)

-- a walk goes on only to numbers of its range
goes_on-in : (low high n : ℕ) (met : List ℕ) → walk_goes_on low high met n ≡ true → (low ≤ n) × (n < high)
goes_on-in low high n met g = (
  ⊎_elim (λ lt. (let e : nat_lt n low ≡ true = grind (arith, nat_tests) in
      let f : walk_goes_on low high met n ≡ false = rw e (and_not-true (nat_lt n high)) in absurd (false≢true (sym f ∙ g)))) (λ ge. ge) (cases_lt n low),
  goes_on-below low high n met g,
)
  where
    and_not-true : (c : Bool) → c && not true && not (is_met n met) ≡ false
    and_not-true true = refl
    and_not-true false = refl

-- what is met is in range
walk-range : (links : List ℕ) (low high steps : ℕ) (met : List ℕ) (n : ℕ) → ((j : ℕ) → j < length met → (low ≤ slice_index met j) × (slice_index met j < high))
    → (j : ℕ) → j < length (walk links low high steps met n) → (low ≤ slice_index (walk links low high steps met n) j) × (slice_index (walk links low high steps met n) j < high)
unfolding walk
walk-range links low high zero met n all = all
walk-range links low high (suc steps) met n all =
    let P : Bool → Type 0 = λ b. walk_goes_on low high met n ≡ b → (j : ℕ) → j < length (cond b (walk links low high steps (met ++ n ∷ []) (slice_index links n)) met)
    → (low ≤ slice_index (cond b (walk links low high steps (met ++ n ∷ []) (slice_index links n)) met) j) × (slice_index (cond b (walk links low high steps (met ++ n ∷ []) (slice_index links n)) met) j < high) in
    let yes : P true = λ g. walk-range links low high steps (met ++ n ∷ []) (slice_index links n) (within-more g) in
    let no : P false = λ g. all in
    let split : (b : Bool) → P b = λ b. elim b as (λ b. P b) [ true ↦ yes | false ↦ no ] in
    split (walk_goes_on low high met n) refl
  where
    within-more : walk_goes_on low high met n ≡ true → (j : ℕ) → j < length (met ++ n ∷ []) → (low ≤ slice_index (met ++ n ∷ []) j) × (slice_index (met ++ n ∷ []) j < high)
    within-more g j h = let r = goes_on-in low high n met g in
        ⊎_elim (λ lt. (let e : slice_index (met ++ n ∷ []) j ≡ slice_index met j = get_or-append met (n ∷ []) 0 j lt in let a = all j lt in (omega (arith, a.0, e), omega (arith, a.1, e))))
        (λ ge. (let e : slice_index (met ++ n ∷ []) j ≡ n = get_or_at met n [] 0 j (omega (arith, h, ge, length-append met (n ∷ []))) in (omega (arith, r.0, e), omega (arith, r.1, e)))) (cases_lt j (length met))

-- what a walk meets is in its range
pub walk-within : (links : List ℕ) (low high steps n j : ℕ) → j < length (walk links low high steps [] n)
    → (low ≤ slice_index (walk links low high steps [] n) j) × (slice_index (walk links low high steps [] n) j < high)
walk-within links low high steps n = walk-range links low high steps [] n (λ j h. absurd (omega (arith, h)))

-- what a walk meets is below its limit
pub walk-below : (links : List ℕ) (low high steps n j : ℕ) → j < length (walk links low high steps [] n) → slice_index (walk links low high steps [] n) j < high
walk-below links low high steps n j h = (walk-within links low high steps n j h).1

-- a walk meets no more than its steps
walk-short : (links : List ℕ) (low high steps : ℕ) (met : List ℕ) (n : ℕ) → length (walk links low high steps met n) ≤ length met + steps
unfolding walk
walk-short links low high zero met n = omega arith
walk-short links low high (suc steps) met n =
    let i = walk-short links low high steps (met ++ n ∷ []) (slice_index links n) in
    let l = length-append met (n ∷ []) in
    let P : Bool → Type 0 = λ b. length (cond b (walk links low high steps (met ++ n ∷ []) (slice_index links n)) met) ≤ length met + suc steps in
    let split : (b : Bool) → P b = λ b. elim b as (λ b. P b) [ true ↦ omega (arith, i, l) | false ↦ omega arith ] in
    split (walk_goes_on low high met n)

-- a walk meets no more numbers than it has steps
pub walk-few : (links : List ℕ) (low high steps n : ℕ) → length (walk links low high steps [] n) ≤ steps
walk-few links low high steps n = omega (arith, walk-short links low high steps [] n)
