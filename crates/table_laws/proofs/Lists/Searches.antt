-- What a search for a free number finds.
use Rattle.std.specs.List.{find}
use Rattle.std.proofs.Common.{◌≡◌, ℕ, zero, suc, ◌+◌, ◌-◌, ◌<◌, ◌≤◌, Bool, true, List, [], ◌∷◌, subst, arith, Some}
use Rattle.std.specs.Prelude.{min}
use Rattle.std.specs.List.{AllByRecursion}
use Rattle.std.proofs.lemmas.Bool.{cond_both}
use Rattle.xinu_model.specs.Searches.{numbers_from, going_round, search}
use Rattle.table_laws.proofs.Lists.Orders.{all_append}

-- what is found first passes
pub first_passes : (test : ℕ → Bool) (l : List ℕ) (n : ℕ) → find test l ≡ Some n → test n ≡ true
first_passes test [] n e = cc
first_passes test (x ∷ xs) n e =
    cond_both (test x) (Some x) (find test xs) (λ o. o ≡ Some n → test n ≡ true)
    (λ b f. let g : x ≡ n = cc in subst (λ k. test k ≡ true) g b) (λ _ f. first_passes test xs n f) e

-- and is one of those that are looked at
pub first_is_one : (P : ℕ → Type 0) (test : ℕ → Bool) (l : List ℕ) (n : ℕ) → AllByRecursion P l → find test l ≡ Some n → P n
first_is_one P test [] n all e = cc
first_is_one P test (x ∷ xs) n all e =
    cond_both (test x) (Some x) (find test xs) (λ o. o ≡ Some n → P n)
    (λ _ f. let g : x ≡ n = cc in subst P g all.0) (λ _ f. first_is_one P test xs n all.1 f) e

-- n numbers from n on are below the size
numbers_below : (size n k : ℕ) → k ≤ size - n → AllByRecursion (λ x. x < size) (numbers_from n k)
numbers_below size n zero h = tt
numbers_below size n (suc k) h = (omega arith, numbers_below size (n + 1) k (omega arith))

-- What a search finds passes.
pub search_passes : (test : ℕ → Bool) (size first n : ℕ) → search test size first ≡ Some n → test n ≡ true
search_passes test size first n e = first_passes test (going_round size first) n e

-- What a search finds is below the size.
pub search_within : (test : ℕ → Bool) (size first n : ℕ) → search test size first ≡ Some n → n < size
search_within test size first n e =
    first_is_one (λ x. x < size) test (going_round size first) n
    (all_append (λ x. x < size) (numbers_from first (size - first)) (numbers_from 0 (min first size))
    (numbers_below size first (size - first) (omega arith)) (numbers_below size 0 (min first size) (omega arith))) e
