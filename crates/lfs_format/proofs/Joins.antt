-- Parts of two lists that are joined.
use Rattle.std.proofs.Common.{◌≡◌, ℕ, ◌+◌, List, ◌++◌, length, drop, sym, ap, ◌∙◌}
use Rattle.std.proofs.lemmas.List.{drop_at, drop-drop}

-- a list after one of a known length
pub drop_past : {A : Type 0} → (xs ys : List A) (m n k : ℕ) → length xs ≡ m → n ≡ m + k → drop n (xs ++ ys) ≡ drop k ys
drop_past xs ys m n k l e =
    ap (λ j. drop j (xs ++ ys)) (let q : n ≡ m + k = e in q) ∙ sym (drop-drop k m (xs ++ ys)) ∙ ap (drop k) (drop_at xs ys m l)
