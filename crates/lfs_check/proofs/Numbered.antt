-- Lemmas on numbered lists and on counts.
use Rattle.std.proofs.Common.{◌≡◌, ℕ, zero, suc, ◌+◌, ◌-◌, ◌<◌, ◌≤◌, Bool, true, false, cond, nat_le, min, List, [], ◌∷◌, ◌++◌, length, get_or, refl, sym, ap, ◌∙◌, arith, Some, ⊎_elim, add-one, length-append}
use Rattle.std.proofs.lemmas.List.{get_or_at}
use Rattle.std.proofs.Math.ListN.{get_or-append}
use Rattle.std.proofs.lemmas.Bool.{cases_lt}
use Rattle.std.proofs.lemmas.Bool.Decides.{nat_tests}
use Rattle.lfs_check.specs.declared.geometry.Geometry.{Geometry}
use Rattle.lfs_check.specs.Geometries.{index_count, first_data}
use Rattle.lfs_check.specs.Meets.{times_met, lowest_from}
use Rattle.lfs_check.specs.Fields.{numbered_values, joined}
use Rattle.lfs_check.specs.Checks.{first_block, either, in_block}

-- no numbers, no values
pub numbered_none : {A : Type 0} → (f : ℕ → A) → [] ≡ numbered_values f 0
unfolding numbered_values
numbered_none f = refl

-- one number more, one value more at the end
pub numbered_more : {A : Type 0} → (f : ℕ → A) (n : ℕ) → numbered_values f (n + 1) ≡ numbered_values f n ++ f n ∷ []
unfolding numbered_values
numbered_more f n = rw (add-one) refl

-- as many values as numbers
pub length_numbered : {A : Type 0} → (f : ℕ → A) (n : ℕ) → length (numbered_values f n) ≡ n
unfolding numbered_values
length_numbered f zero = refl
length_numbered f (suc n) = length-append (numbered_values f n) (f n ∷ []) ∙ (let i = length_numbered f n in omega (arith, i))

-- the value at a number
pub numbered-at : {A : Type 0} → (f : ℕ → A) (n k : ℕ) (d : A) → k < n → get_or (numbered_values f n) k d ≡ f k
unfolding numbered_values
numbered-at f zero k d h = absurd (omega arith)
numbered-at f (suc n) k d h =
    ⊎_elim (λ lt. get_or-append (numbered_values f n) (f n ∷ []) d k (omega (arith, lt, length_numbered f n)) ∙ numbered-at f n k d lt)
    (λ ge. (let e : k ≡ n = omega (arith, ge, h) in get_or_at (numbered_values f n) (f n) [] d k (length_numbered f n ∙ sym e) ∙ ap f (sym e))) (cases_lt k n)

-- tests that agree in a range find the same lowest number
pub first_from-same : (test test' : ℕ → Bool) (low many : ℕ) → ((n : ℕ) → low ≤ n → n < low + many → test n ≡ test' n) → lowest_from test low many ≡ lowest_from test' low many
unfolding lowest_from
first_from-same test test' low zero same = refl
first_from-same test test' low (suc many) same =
    ap (λ b. cond b (Some low) (lowest_from test (suc low) many)) (same low (omega arith) (omega arith))
    ∙ ap (λ r. cond (test' low) (Some low) r) (first_from-same test test' (suc low) many (λ n a b. same n (omega arith) (omega arith)))

-- tests that agree on all blocks find the same first block
pub first_block-same : (g : Geometry) (a a' b b' : ℕ → Bool) → first_data g ≤ g.blocks → ((n : ℕ) → n < index_count g → a n ≡ a' n) → ((n : ℕ) → n < g.blocks → b n ≡ b' n) → first_block g a b ≡ first_block g a' b'
first_block-same g a a' b b' h p q =
    ap (λ r. either (in_block g r) (lowest_from b (first_data g) (g.blocks - first_data g))) (first_from-same a a' 0 (index_count g) (λ n x y. p n (omega (arith, y))))
    ∙ ap (λ r. either (in_block g (lowest_from a' 0 (index_count g))) r) (first_from-same b b' (first_data g) (g.blocks - first_data g) (λ n x y. q n (omega (arith, y, h))))

-- a count that stops at 2 tells whether a number was met twice
pub twice-same : (n c : ℕ) (xs : List ℕ) → c ≡ min 2 (times_met n xs) → nat_le 2 c ≡ nat_le 2 (times_met n xs)
twice-same n c xs e = ⊎_elim (λ lt. (let a : nat_le 2 c ≡ false = (let x : c < 2 = omega (arith, e, lt) in grind (arith, nat_tests)) in let b : nat_le 2 (times_met n xs) ≡ false = grind (arith, nat_tests) in a ∙ sym b))
    (λ ge. (let a : nat_le 2 c ≡ true = (let x : 2 ≤ c = omega (arith, e, ge) in grind (arith, nat_tests)) in let b : nat_le 2 (times_met n xs) ≡ true = grind (arith, nat_tests) in a ∙ sym b)) (cases_lt (times_met n xs) 2)

-- a count that stops at 2 tells whether a number was met
pub never-same : (n c : ℕ) (xs : List ℕ) → c ≡ min 2 (times_met n xs) → nat_le c 0 ≡ nat_le (times_met n xs) 0
never-same n c xs e = ⊎_elim (λ lt. (let a : nat_le c 0 ≡ true = (let x : c ≤ 0 = omega (arith, e, lt) in grind (arith, nat_tests)) in let b : nat_le (times_met n xs) 0 ≡ true = (let y : times_met n xs ≤ 0 = omega (arith, lt) in grind (arith, nat_tests)) in a ∙ sym b))
    (λ ge. (let a : nat_le c 0 ≡ false = (let x : 0 < c = omega (arith, e, ge) in grind (arith, nat_tests)) in let b : nat_le (times_met n xs) 0 ≡ false = (let y : 0 < times_met n xs = omega (arith, ge) in grind (arith, nat_tests)) in a ∙ sym b)) (cases_lt (times_met n xs) 1)

-- no numbers, no lists
pub joined_none : {A : Type 0} → (f : ℕ → List A) → [] ≡ joined f 0
unfolding joined
joined_none f = refl

-- one number more, one list more at the end
pub joined_more : {A : Type 0} → (f : ℕ → List A) (n : ℕ) → joined f (n + 1) ≡ joined f n ++ f n
unfolding joined
joined_more f n = rw (add-one) refl
