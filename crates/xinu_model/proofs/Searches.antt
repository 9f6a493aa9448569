-- The search for a free number, in the two halves in which it is made.
use Rattle.std.specs.List.{find}
use Rattle.std.proofs.Common.{◌≡◌, ◌∙◌, ℕ, zero, suc, ◌+◌, ◌-◌, ◌<◌, ◌≤◌, Bool, true, false, cond, refl, sym, ap, arith, Option, Some, None, inl, inr}
use Rattle.std.proofs.lemmas.Bool.{cases_Bool, cases_eq}
use Rattle.std.proofs.lemmas.List.Folds.{find-append}
use Rattle.std.specs.Option.{option_or}
use Rattle.std.specs.Prelude.{min}
use Rattle.xinu_model.specs.Searches.{numbers_from, search}

-- the first number passes
pub find_here : (test : ℕ → Bool) (n k : ℕ) → 0 < k → test n ≡ true → find test (numbers_from n k) ≡ Some n
find_here test n zero lt h = absurd (omega arith)
find_here test n (suc k) lt h = ap (λ b. cond b (Some n) (find test (numbers_from (n + 1) k))) h

-- the first number doesn't pass
pub find_later : (test : ℕ → Bool) (n end : ℕ) → n < end → test n ≡ false
    → find test (numbers_from n (end - n)) ≡ find test (numbers_from (n + 1) (end - (n + 1)))
find_later test n end lt h = go (end - n) (end - (n + 1)) (omega arith)
  where
    go : (j k : ℕ) → j ≡ k + 1 → find test (numbers_from n j) ≡ find test (numbers_from (n + 1) k)
    go zero k e = absurd (omega arith)
    go (suc j) k e = let s : j ≡ k = omega arith in ap (λ b. cond b (Some n) (find test (numbers_from (n + 1) j))) h
        ∙ ap (λ j. find test (numbers_from (n + 1) j)) s

-- the first step of a search that found none
none_step : (b : Bool) (n : ℕ) (o : Option ℕ) → cond b (Some n) o ≡ None → (b ≡ false) × (o ≡ None)
none_step true n o h = absurd (cc)
none_step false n o h = (refl, h)

-- no number that was looked at passes if none is found
pub find_none : (test : ℕ → Bool) (n k : ℕ) → find test (numbers_from n k) ≡ None → (i : ℕ) → n ≤ i → i < n + k → test i ≡ false
find_none test n zero h i le lt = absurd (omega arith)
find_none test n (suc k) h i le lt =
    let s = none_step (test n) n (find test (numbers_from (n + 1) k)) h in
    elim (cases_eq i n) [
      | inl e ↦ ap test e ∙ s.0
      | inr d ↦ find_none test (n + 1) k s.1 i (omega arith) (omega arith)
    ]

-- what is found passes
pub find_passes : (test : ℕ → Bool) (n k p : ℕ) → find test (numbers_from n k) ≡ Some p → test p ≡ true
find_passes test n zero p h = absurd (cc)
find_passes test n (suc k) p h = elim (cases_Bool (test n)) [
  | inl t ↦ (let e : n ≡ p = cc (sym (ap (λ b. cond b (Some n) (find test (numbers_from (n + 1) k))) t) ∙ h) in ap test (sym e) ∙ t)
  | inr f ↦ find_passes test (n + 1) k p (sym (ap (λ b. cond b (Some n) (find test (numbers_from (n + 1) k))) f) ∙ h)
]

-- a number found from the first on is what the search finds
pub search_ahead : (test : ℕ → Bool) (size first p : ℕ) → Some p ≡ find test (numbers_from first (size - first))
    → Some p ≡ search test size first
search_ahead test size first p h =
    ap (λ o. option_or o (find test (numbers_from 0 (min first size)))) h
    ∙ sym (find-append test (numbers_from first (size - first)) (numbers_from 0 (min first size)))

-- if none is found from the first on, the search finds what it finds from 0 on
pub search_round : (test : ℕ → Bool) (size first : ℕ) (o : Option ℕ) → first ≤ size → None ≡ find test (numbers_from first (size - first))
    → o ≡ find test (numbers_from 0 (first - 0))
    → o ≡ search test size first
search_round test size first o le h e =
    let m : min first size ≡ first - 0 = omega arith in
    e ∙ ap (λ k. find test (numbers_from 0 k)) (sym m) ∙ ap (λ o. option_or o (find test (numbers_from 0 (min first size)))) h
    ∙ sym (find-append test (numbers_from first (size - first)) (numbers_from 0 (min first size)))
