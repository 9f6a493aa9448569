-- Bytes that are put over others, in blocks and in the whole.
use Rattle.std.proofs.Common.{◌≡◌, ◌≢◌, ℕ, zero, suc, ◌+◌, ◌-◌, ◌*◌, ◌<◌, ◌≤◌, List, [], ◌∷◌, ◌++◌, length, take, drop, refl, sym, ap, ◌∙◌, arith, slice_index, length-append, length-take, append_assoc}
use Rattle.std.specs.List.{flat_map}
use Rattle.std.proofs.lemmas.List.{drop-take, drop-drop, take-take, drop-append-le, take-append-le, take_at, drop_all, append-nil}
use Rattle.std.proofs.Math.Seq.{take-append-add}
use Rattle.lfs_format.proofs.Joins.{drop_past}
use Rattle.xinu_model.specs.Files.Writing.{overwritten}
use Rattle.file_laws.proofs.Created.{flat_same}

-- a list of blocks of which one gets bytes at a place: so does the whole
pub patched_flat : (f f' : ℕ → List ℕ) (xs : List ℕ) (j r : ℕ) (new : List ℕ)
    → ((i : ℕ) → i < length xs → length (f (slice_index xs i)) ≡ 512) → j < length xs → r + length new ≤ 512
    → f' (slice_index xs j) ≡ overwritten r new (f (slice_index xs j))
    → ((i : ℕ) → i < length xs → i ≢ j → f' (slice_index xs i) ≡ f (slice_index xs i))
    → flat_map f' xs ≡ overwritten (512 * j + r) new (flat_map f xs)
patched_flat f f' [] j r new all h fits here there = absurd (omega (arith, h))
patched_flat f f' (x ∷ xs) zero r new all h fits here there =
    let old = f x in let rest = flat_map f xs in let long = all 0 (omega arith) in
    let tail = drop (r + length new) old in
    let q : 512 * 0 + r ≡ r = omega arith in
    ap (λ b. b ++ flat_map f' xs) here ∙ ap (λ g. (take r old ++ (new ++ tail)) ++ g) (flat_same f' f xs (λ i l.
    there (suc i) (omega (arith, l)) (λ e. omega (arith, e))))
    ∙ append_assoc (take r old) (new ++ tail) rest ∙ ap (λ y. take r old ++ y) (append_assoc new tail rest)
    ∙ ap (λ y. y ++ (new ++ (tail ++ rest))) (sym (take-append-le r old rest (omega (arith, long, fits))))
    ∙ ap (λ y. take r (old ++ rest) ++ (new ++ y)) (sym (drop-append-le (r + length new) old rest (omega (arith, long, fits))))
    ∙ ap (λ k. overwritten k new (old ++ rest)) (sym q)
patched_flat f f' (x ∷ xs) (suc j) r new all h fits here there =
    let i = patched_flat f f' xs j r new (λ k l. all (suc k) (omega (arith, l))) (omega (arith, h)) fits here (λ k l ne.
    there (suc k) (omega (arith, l)) (λ e. ne (omega (arith, e)))) in
    let old = f x in let rest = flat_map f xs in let long = all 0 (omega arith) in
    let k = 512 * j + r in
    let up : 512 * suc j + r ≡ length old + k = omega (arith, long) in
    let past : 512 * suc j + r + length new ≡ length old + (k + length new) = omega (arith, long) in
    ap (λ b. b ++ flat_map f' xs) (there 0 (omega arith) (λ e. omega (arith, e))) ∙ ap (λ y. old ++ y) i
    ∙ sym (append_assoc old (take k rest) (new ++ drop (k + length new) rest))
    ∙ ap (λ y. y ++ (new ++ drop (k + length new) rest)) (sym (ap (λ m. take m (old ++ rest)) up ∙ take-append-add old rest k))
    ∙ ap (λ y. take (512 * suc j + r) (old ++ rest) ++ (new ++ y))
    (sym (drop_past old rest (length old) (512 * suc j + r + length new) (k + length new) refl past))

-- bytes after bytes are put as they are together
pub overwritten_more : (q : ℕ) (a c old : List ℕ) → q ≤ length old
    → overwritten (q + length a) c (overwritten q a old) ≡ overwritten q (a ++ c) old
overwritten_more q a c old h =
    let front = take q old in let tail = drop (q + length a) old in
    let long : length front ≡ q = omega (arith, length-take q old, h) in
    let whole : front ++ (a ++ tail) ≡ (front ++ a) ++ tail = sym (append_assoc front a tail) in
    let both : length (front ++ a) ≡ q + length a = omega (arith, length-append front a, long) in
    let one : take (q + length a) (front ++ (a ++ tail)) ≡ front ++ a = ap (take (q + length a)) whole
    ∙ take_at (front ++ a) tail (q + length a) both in
    let two : drop (q + length a + length c) (front ++ (a ++ tail)) ≡ drop (q + length (a ++ c)) old =
    ap (drop (q + length a + length c)) whole ∙ drop_past (front ++ a) tail (q + length a) (q + length a + length c) (length c) both refl
    ∙ drop-drop (length c) (q + length a) old ∙ ap (λ k. drop k old) (let e : q + length a + length c ≡ q + length (a ++ c) =
    omega (arith, length-append a c) in e) in
    ap (λ x. x ++ (c ++ drop (q + length a + length c) (front ++ (a ++ tail)))) one ∙ ap (λ x. (front ++ a) ++ (c ++ x)) two
    ∙ append_assoc front a (c ++ drop (q + length (a ++ c)) old)
    ∙ ap (λ x. front ++ x) (sym (append_assoc a c (drop (q + length (a ++ c)) old)))

-- a file that is as large as its old size and what is put into it
pub overwritten_within : (q size : ℕ) (new row : List ℕ) → q + length new ≤ size → size ≤ length row
    → take size (overwritten q new row) ≡ overwritten q new (take size row)
overwritten_within q size new row h l =
    let front = take q row in let tail = drop (q + length new) row in
    let long : length front ≡ q = omega (arith, length-take q row, h, l) in
    let both : size ≡ length (front ++ new) + (size - (q + length new)) = omega (arith, length-append front new, long, h) in
    ap (take size) (sym (append_assoc front new tail)) ∙ ap (λ k. take k ((front ++ new) ++ tail)) both
    ∙ take-append-add (front ++ new) tail (size - (q + length new))
    ∙ append_assoc front new (take (size - (q + length new)) tail)
    ∙ ap (λ x. x ++ (new ++ take (size - (q + length new)) tail)) (sym (take-take q size row (omega (arith, h))))
    ∙ ap (λ x. take q (take size row) ++ (new ++ x)) (sym (ap (λ k.
    drop (q + length new) (take k row)) (let e : size ≡ (q + length new) + (size - (q + length new)) = omega (arith, h) in e)
    ∙ drop-take (q + length new) (size - (q + length new)) row))

-- a file that grows by what is put into it
pub overwritten_past : (q size : ℕ) (new row : List ℕ) → q ≤ size → size ≤ q + length new → q ≤ length row
    → take (q + length new) (overwritten q new row) ≡ overwritten q new (take size row)
overwritten_past q size new row h past l =
    let front = take q row in let tail = drop (q + length new) row in
    let long : length front ≡ q = omega (arith, length-take q row, l) in
    let both : length (front ++ new) ≡ q + length new = omega (arith, length-append front new, long) in
    let none : drop (q + length new) (take size row) ≡ [] =
    drop_all (q + length new) (take size row) (omega (arith, length-take size row, past)) in
    ap (take (q + length new)) (sym (append_assoc front new tail)) ∙ take_at (front ++ new) tail (q + length new) both
    ∙ ap (λ x. front ++ x) (sym (append-nil new)) ∙ ap (λ x. x ++ (new ++ [])) (sym (take-take q size row h))
    ∙ ap (λ x. take q (take size row) ++ (new ++ x)) (sym none)
