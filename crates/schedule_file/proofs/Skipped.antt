-- Events that are taken off a list from the left.
use Rattle.std.proofs.Common.{◌≡◌, ℕ, ◌+◌, ◌-◌, ◌<◌, ◌≤◌, List, [], ◌∷◌, ◌++◌, replicate, drop, Option, Some, None, MatchOption}
use Rattle.std.proofs.Common.{sym, ap, ◌∙◌, arith}
use Rattle.std.proofs.lemmas.List.{drop-append-le, drop-drop, drop-replicate, length-replicate}

-- copies that come first
pub drop_copies : {X : Type 0} (k n : ℕ) (x : X) (ys : List X) → k ≤ n → replicate (n - k) x ++ ys ≡ drop k (replicate n x ++ ys)
drop_copies {X} k n x ys few =
    let same = length-replicate n x in
    sym (drop-append-le k (replicate n x) ys (omega (arith, same)) ∙ ap (λ (xs : List X). xs ++ ys) (drop-replicate k n x))

-- the first element, if there is one
pub drop_next : {X : Type 0} (found : Option X) (xs ys : List X)
    → MatchOption found ((xs ≡ []) × (ys ≡ [])) (λ x. xs ≡ x ∷ ys) → ys ≡ drop 1 xs
drop_next None xs ys m = m.1 ∙ sym (ap (drop 1) m.0)
drop_next (Some x) xs ys m = sym (ap (drop 1) m)

-- one after others
pub drop_one_more : {X : Type 0} (k n : ℕ) (all xs ys : List X) → k < n → ys ≡ drop 1 xs → drop (n - k) xs ≡ drop n all
    → drop (n - (k + 1)) ys ≡ drop n all
drop_one_more k n all xs ys more one is =
    let left : 1 + (n - (k + 1)) ≡ n - k = omega arith in
    ap (drop (n - (k + 1))) one ∙ drop-drop (n - (k + 1)) 1 xs ∙ ap (λ m. drop m xs) left ∙ is
