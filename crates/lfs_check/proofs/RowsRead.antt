-- A file is read off its own index blocks just as it lies.
use Rattle.std.proofs.Common.{◌≡◌, ℕ, zero, suc, ◌+◌, ◌-◌, ◌*◌, ◌<◌, ◌≤◌, List, [], ◌∷◌, ◌++◌, length, slice_index, slice_index_or, take, drop, replicate, refl, sym, ap, ◌∙◌, arith, length-append, length-take, length-drop, ⊎_elim}
use Rattle.std.specs.List.{flat_map}
use Rattle.std.proofs.lemmas.List.{take_all, drop_all, take-take, take-append-le, drop-drop, take-append-drop}
use Rattle.std.proofs.Math.Seq.{take-append-add}
use Rattle.std.proofs.lemmas.Bool.{cases_lt}
use Rattle.lfs_format.specs.declared.Index.{Index}
use Rattle.lfs_check.specs.Meets.{null}
use Rattle.lfs_check.specs.Laid.{Shape, index_in, index_for}

-- a list from an element on
drop_one : (xs : List ℕ) (k d : ℕ) → k < length xs → drop k xs ≡ slice_index_or xs k d ∷ drop (suc k) xs
drop_one [] k d h = absurd (omega arith)
drop_one (x ∷ xs) zero d h = refl
drop_one (x ∷ xs) (suc k) d h = drop_one xs k d (omega arith)

-- so are the numbers in its index blocks
pub rows-read : (d : Shape) (chain blocks : List ℕ) → ((j : ℕ) → j < length chain → index_in d (slice_index chain j) ≡ index_for j chain blocks)
    → length blocks ≤ 16 * length chain → (m k : ℕ) → k + m ≡ length chain
    → take (length blocks - 16 * k) (flat_map (λ i. (index_in d i).blocks) (drop k chain)) ≡ drop (16 * k) blocks
rows-read d chain blocks each fits zero k e =
    ap (λ n. take n (flat_map (λ i. (index_in d i).blocks) (drop k chain))) (let z : length blocks - 16 * k ≡ 0 = omega (arith, e, fits) in z)
    ∙ sym (drop_all (16 * k) blocks (omega (arith, e, fits)))
rows-read d chain blocks each fits (suc m) k e =
    let f : ℕ → List ℕ = λ i. (index_in d i).blocks in
    let c = slice_index chain k in
    let rest = flat_map f (drop (suc k) chain) in
    let r = drop (16 * k) blocks in
    let n = length blocks - 16 * k in
    let nulls = replicate 16 null in
    let long : length r ≡ n = length-drop (16 * k) blocks in
    let row : f c ≡ take 16 (r ++ nulls) = ap (λ (x : Index). x.blocks) (each k (omega (arith, e))) in
    let split : flat_map f (drop k chain) ≡ take 16 (r ++ nulls) ++ rest = ap (flat_map f) (drop_one chain k 0 (omega (arith, e))) ∙ ap (λ x. x ++ rest) row in
    let i = rows-read d chain blocks each fits m (suc k) (omega (arith, e)) in
    ap (take n) split ∙
    ⊎_elim
    (λ short. (let part = take 16 (r ++ nulls) in
    let wide : length part ≡ 16 = omega (arith, length-take 16 (r ++ nulls), length-append r nulls) in
    take-append-le n part rest (omega (arith, short, wide)) ∙ take-take n 16 (r ++ nulls) (omega (arith, short))
    ∙ take-append-le n r nulls (omega (arith, long)) ∙ take_all n r (omega (arith, long))))
    (λ full. (let part = take 16 r in
    let wide : length part ≡ 16 = omega (arith, length-take 16 r, long, full) in
    ap (λ x. take n (x ++ rest)) (take-append-le 16 r nulls (omega (arith, long, full)))
    ∙ ap (λ k. take k (part ++ rest)) (let s : n ≡ length part + (length blocks - 16 * suc k) = omega (arith, wide, full) in s)
    ∙ take-append-add part rest (length blocks - 16 * suc k) ∙ ap (λ x. part ++ x) i
    ∙ ap (λ x. part ++ x) (ap (λ j. drop j blocks) (let s : 16 * suc k ≡ 16 * k + 16 = omega arith in s) ∙ sym (drop-drop 16 (16 * k) blocks))
    ∙ take-append-drop 16 r))
    (cases_lt n 16)
