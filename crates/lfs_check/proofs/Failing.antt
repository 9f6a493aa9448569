-- Lemmas on the rules of the directory.
use Rattle.std.proofs.Common.{◌≡◌, ℕ, ◌+◌, ◌<◌, ◌≤◌, Bool, true, false, cond, List, [], length, get_or, take, drop, refl, sym, ap, ◌∙◌, Some, None, arith, length-take}
use Rattle.std.proofs.lemmas.List.{take_more, drop_more, drop_all}
use Rattle.lfs_format.specs.declared.Entry.{Entry}
use Rattle.lfs_check.specs.Rules.{first_failing}

-- one entry more
first_failing_more : (f : List Entry → Entry → Bool) (xs : List Entry) (i : ℕ) (d : Entry) → i < length xs
    → first_failing f (take i xs) (drop i xs) ≡ cond (f (take i xs) (get_or xs i d)) (Some (length (take i xs))) (first_failing f (take (i + 1) xs) (drop (i + 1) xs))
unfolding first_failing
first_failing_more f xs i d h = rw (drop_more xs i d h, take_more xs i d h) refl

-- once all entries were tested none fails
pub first_failing_all : (f : List Entry → Entry → Bool) (xs before : List Entry) (i : ℕ) → length xs ≤ i
    → first_failing f before (drop i xs) ≡ None
unfolding first_failing
first_failing_all f xs before i h = rw (drop_all i xs h) refl

-- an entry that fails is the first, if none before it does
pub first_failing_found : (f : List Entry → Entry → Bool) (xs : List Entry) (i : ℕ) (d : Entry) → i < length xs → f (take i xs) (get_or xs i d) ≡ true
    → first_failing f (take i xs) (drop i xs) ≡ first_failing f [] xs → Some i ≡ first_failing f [] xs
first_failing_found f xs i d h t e =
    let n : length (take i xs) ≡ i = omega (arith, length-take i xs) in
    sym (sym e ∙ first_failing_more f xs i d h ∙ ap (λ b. cond b (Some (length (take i xs))) (first_failing f (take (i + 1) xs) (drop (i + 1) xs))) t ∙ ap Some n)

-- an entry that passes is passed over
pub first_failing_passed : (f : List Entry → Entry → Bool) (xs : List Entry) (i : ℕ) (d : Entry) → i < length xs → f (take i xs) (get_or xs i d) ≡ false
    → first_failing f (take i xs) (drop i xs) ≡ first_failing f [] xs → first_failing f (take (i + 1) xs) (drop (i + 1) xs) ≡ first_failing f [] xs
first_failing_passed f xs i d h t e = sym (sym e ∙ first_failing_more f xs i d h ∙ ap (λ b. cond b (Some (length (take i xs))) (first_failing f (take (i + 1) xs) (drop (i + 1) xs))) t)
