-- What comes at a place of a list.
use Rattle.std.proofs.Common.{◌≡◌, ℕ, suc, ◌+◌, ◌-◌, ◌<◌, ◌≤◌, List, [], ◌∷◌, ◌++◌, length, replicate, drop}
use Rattle.std.proofs.Common.{sym, ap, ◌∙◌, arith}
use Rattle.std.proofs.lemmas.List.{append_assoc, append-nil, drop-append-le, drop-replicate}
use Rattle.std.proofs.Math.Seq.{drop-append-add}

-- at a place of a list an element comes, and then that many copies of it
abbrev pub Comes : {X : Type 0} → List X → ℕ → ℕ → X → Type 0
Comes xs k more x = drop k xs ≡ x ∷ (replicate more x ++ drop (k + 1 + more) xs)

-- at a place among copies
pub comes-replicate : {X : Type 0} (n k : ℕ) (x : X) → k < n → Comes (replicate n x) k (n - k - 1) x
comes-replicate {X} n k x within =
    let others = replicate (n - k - 1) x in
    let some : n - k ≡ suc (n - k - 1) = omega arith in
    let none : n - (k + 1 + (n - k - 1)) ≡ 0 = omega arith in
    let end : drop (k + 1 + (n - k - 1)) (replicate n x) ≡ [] =
    drop-replicate (k + 1 + (n - k - 1)) n x ∙ ap (λ (m : ℕ). replicate m x) none in
    drop-replicate k n x ∙ ap (λ (m : ℕ). replicate m x) some
    ∙ ap (λ (xs : List X). x ∷ xs) (sym (ap (λ (xs : List X). others ++ xs) end ∙ append-nil others))

-- at a place in the first of two lists
pub comes-left : {X : Type 0} (xs ys : List X) (k more : ℕ) (x : X) → k + 1 + more ≤ length xs → Comes xs k more x → Comes (xs ++ ys) k more x
comes-left {X} xs ys k more x fits comes =
    drop-append-le k xs ys (omega arith)
    ∙ ap (λ (zs : List X). zs ++ ys) comes
    ∙ ap (λ (zs : List X). x ∷ zs)
    (append_assoc (replicate more x) (drop (k + 1 + more) xs) ys
    ∙ ap (λ (zs : List X). replicate more x ++ zs) (sym (drop-append-le (k + 1 + more) xs ys fits)))

-- at a place in the second
pub comes-right : {X : Type 0} (xs ys : List X) (k more : ℕ) (x : X) → length xs ≤ k → Comes ys (k - length xs) more x
    → Comes (xs ++ ys) k more x
comes-right {X} xs ys k more x behind comes =
    let here : k ≡ length xs + (k - length xs) = omega arith in
    let end : length xs + (k - length xs + 1 + more) ≡ k + 1 + more = omega arith in
    ap (λ (m : ℕ). drop m (xs ++ ys)) here
    ∙ drop-append-add xs ys (k - length xs)
    ∙ comes
    ∙ ap (λ (zs : List X). x ∷ (replicate more x ++ zs))
    (sym (drop-append-add xs ys (k - length xs + 1 + more)) ∙ ap (λ (m : ℕ). drop m (xs ++ ys)) end)
