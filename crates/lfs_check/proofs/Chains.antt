-- What the checker walks is a chain, and a chain is what it walks.
use Rattle.std.proofs.Common.{◌≡◌, ℕ, zero, suc, ◌+◌, ◌<◌, ◌≤◌, Bool, true, false, cond, ◌||◌, nat_lt, nat_eq, List, [], ◌∷◌, ◌++◌, length, slice_index, refl, sym, ap, ◌∙◌, subst, arith, append_assoc}
use Rattle.std.proofs.lemmas.List.{append-nil}
use Rattle.std.proofs.lemmas.Bool.Decides.{nat_tests}
use Rattle.lfs_check.specs.Walks.{walk, walk_end, walk_goes_on, is_met}
use Rattle.lfs_check.specs.Laid.{IsChain}
use Rattle.lfs_check.specs.Meets.{null, times_met}
use Rattle.lfs_check.proofs.Steps.{times-append, IsChain-more}

-- from n by the numbers of a list to e
abbrev pub Goes : List ℕ → ℕ → List ℕ → ℕ → Type 0
Goes links n [] e = n ≡ e
Goes links n (x ∷ xs) e = (n ≡ x) × Goes links (slice_index links x) xs e

-- a walk meets what it met before, and then new numbers that go by the links to its end
pub record Walked (links : List ℕ) (n : ℕ) (met : List ℕ) (w : List ℕ) (e : ℕ) : Type 0 where
  pub new : List ℕ
  pub is : w ≡ met ++ new
  pub goes : Goes links n new e

-- every walk is such a one
pub walk-goes : (links : List ℕ) (low high steps : ℕ) (met : List ℕ) (n : ℕ) → Walked links n met (walk links low high steps met n) (walk_end links low high steps met n)
unfolding walk walk_end
walk-goes links low high zero met n = record { new = []; is = sym (append-nil met); goes = refl }
walk-goes links low high (suc steps) met n =
    let P : Bool → Type 0 = λ b. Walked links n met (cond b (walk links low high steps (met ++ n ∷ []) (slice_index links n)) met) (cond b (walk_end links low high steps (met ++ n ∷ []) (slice_index links n)) n) in
    let i = walk-goes links low high steps (met ++ n ∷ []) (slice_index links n) in
    let yes : P true = record { new = n ∷ i.new; is = i.is ∙ append_assoc met (n ∷ []) i.new; goes = (refl, i.goes) } in
    let no : P false = record { new = []; is = sym (append-nil met); goes = refl } in
    let all : (b : Bool) → P b = λ b. elim b as (λ b. P b) [ true ↦ yes | false ↦ no ] in
    all (walk_goes_on low high met n)

-- a walk that ended at null went along a chain
pub Goes-chain : (links : List ℕ) (n : ℕ) (xs : List ℕ) → Goes links n xs null → IsChain (λ b. slice_index links b) n xs
Goes-chain links n [] g = record { starts = g; goes_on = λ j h. absurd (omega arith) }
Goes-chain links n (x ∷ xs) g =
    let i = Goes-chain links (slice_index links x) xs g.1 in
    let P : ℕ → Type 0 = λ m. IsChain (λ b. slice_index links b) m (x ∷ xs) in
    subst P (sym g.0) (IsChain-more (λ b. slice_index links b) (slice_index links x) x xs i refl)

-- a chain is a walk that ends at null
pub chain-Goes : (links : List ℕ) (n : ℕ) (xs : List ℕ) → IsChain (λ b. slice_index links b) n xs → Goes links n xs null
chain-Goes links n [] c = c.starts
chain-Goes links n (x ∷ xs) c = (c.starts, chain-Goes links (slice_index links x) xs (record { starts = c.goes_on 0 (omega arith); goes_on = λ j h. c.goes_on (suc j) (omega arith) }))

-- a number that was met no times isn't among those met
times-is_met : (n : ℕ) (met : List ℕ) → times_met n met ≡ 0 → is_met n met ≡ false
times-is_met n [] z = refl
times-is_met n (m ∷ met) z =
    let P : Bool → Type 0 = λ b. cond b 1 0 + times_met n met ≡ 0 → b || is_met n met ≡ false in
    let all : (b : Bool) → P b = λ b. elim b as (λ b. P b) [ true ↦ (λ e. absurd (omega (arith, e))) | false ↦ (λ e. times-is_met n met (omega (arith, e))) ] in
    all (nat_eq m n) z

-- a chain of distinct numbers in range is what the walk meets
pub chain-walk : (links : List ℕ) (low high steps : ℕ) (met : List ℕ) (n : ℕ) (xs : List ℕ) → high ≤ null → length xs ≤ steps → Goes links n xs null
    → ((j : ℕ) → j < length xs → (low ≤ slice_index xs j) × (slice_index xs j < high)) → ((x : ℕ) → times_met x met + times_met x xs ≤ 1)
    → (walk links low high steps met n ≡ met ++ xs) × (walk_end links low high steps met n ≡ null)
unfolding walk walk_end
chain-walk links low high zero met n [] top room g range once = (sym (append-nil met), g)
chain-walk links low high zero met n (x ∷ xs) top room g range once = absurd (omega arith)
chain-walk links low high (suc steps) met n [] top room g range once =
    let out : nat_lt n high ≡ false = (let ge : high ≤ n = omega (arith, g, top) in grind (arith, nat_tests)) in
    let stop : walk_goes_on low high met n ≡ false = rw out refl in
    rw stop (sym (append-nil met), g)
chain-walk links low high (suc steps) met n (x ∷ xs) top room g range once =
    let r = range 0 (omega arith) in
    let same : n ≡ x = g.0 in
    let self : nat_eq x x ≡ true = grind (arith, nat_tests) in
    let fresh : times_met x met ≡ 0 = (let o = once x in let t : times_met x (x ∷ xs) ≡ 1 + times_met x xs = rw self refl in omega (arith, o, t)) in
    let a : nat_lt x high ≡ true = (let lt = r.1 in grind (arith, nat_tests)) in
    let b : nat_lt x low ≡ false = (let ge = r.0 in grind (arith, nat_tests)) in
    let c : is_met x met ≡ false = times-is_met x met fresh in
    let go : walk_goes_on low high met n ≡ true = ap (walk_goes_on low high met) same ∙ rw (a, b, c) refl in
    let i = chain-walk links low high steps (met ++ n ∷ []) (slice_index links n) xs top (omega arith) (let Q : ℕ → Type 0 = λ k. Goes links (slice_index links k) xs null in subst Q (sym same) g.1)
    (λ j h. range (suc j) (omega arith)) (λ y. (let o = once y in let t = times-append y met (n ∷ []) in let s : times_met y (n ∷ []) ≡ times_met y (x ∷ []) = ap (λ k. times_met y (k ∷ [])) same in omega (arith, o, t, s))) in
    let joined : (met ++ n ∷ []) ++ xs ≡ met ++ (x ∷ xs) = append_assoc met (n ∷ []) xs ∙ ap (λ k. met ++ (k ∷ xs)) same in
    rw go (i.0 ∙ joined, i.1)
