-- Names with zeros after them, and the same names without.
use Rattle.std.proofs.Common.{◌≡◌, ℕ, zero, suc, ◌+◌, true, false, cond, not, ◌&&◌, nat_eq, nat_lt, nat_le, List, [], ◌∷◌, length, take, drop, refl, sym, ap, ◌∙◌, arith, bytes_eq}
use Rattle.std.specs.List.{prefix_len}
use Rattle.std.proofs.lemmas.Bool.{and_parts}
use Rattle.std.proofs.lemmas.Bool.Decides.{nat_tests}
use Rattle.lfs_check.specs.Rules.{text_length, are_zeros, is_name}
use Rattle.lfs_layout.specs.Files.{bare_name, is_before}
use Rattle.xinu_model.specs.Files.Stored.{precedes}

-- a name has zeros after its text
abbrev pub IsPadded : List ℕ → Type 0
IsPadded name = are_zeros (drop (text_length name) name) ≡ true

-- what can be a name has zeros after its text
pub name_padded : (longest : ℕ) (name : List ℕ) → is_name longest name ≡ true → IsPadded name
unfolding is_name
name_padded longest name e = (and_parts (nat_lt 0 (text_length name) && nat_le (text_length name) longest)
    (are_zeros (drop (text_length name) name)) e).1

-- a zero byte ends the text
text-zero : (xs : List ℕ) → text_length (0 ∷ xs) ≡ 0
unfolding text_length
text-zero xs = refl

-- another byte is of the text
text-more : (x : ℕ) (xs : List ℕ) → not (nat_eq x 0) ≡ true → text_length (x ∷ xs) ≡ suc (text_length xs)
unfolding text_length
text-more x xs e = ap (λ b. cond b (1 + prefix_len (λ c. not (nat_eq c 0)) xs) 0) e
    ∙ (let s : 1 + prefix_len (λ c. not (nat_eq c 0)) xs ≡ suc (prefix_len (λ c. not (nat_eq c 0)) xs) = omega arith in s)

-- by the first byte: zeros alone, or a byte of the text
pub record Begins (x : ℕ) (xs : List ℕ) : Type 0 where
  pub bare : bare_name (x ∷ xs) ≡ x ∷ bare_name xs
  pub rest : IsPadded (x ∷ xs) → IsPadded xs

-- a byte that is not zero begins the text
begins : (x : ℕ) (xs : List ℕ) → not (nat_eq x 0) ≡ true → Begins x xs
begins x xs e = record {
  bare = ap (λ n. take n (x ∷ xs)) (text-more x xs e);
  rest = λ z. sym (ap (λ n. are_zeros (drop n (x ∷ xs))) (text-more x xs e)) ∙ z;
}

-- no bytes are no text
bare-nil : bare_name [] ≡ []
unfolding text_length
bare-nil = refl

-- zeros are no text
bare-zero : (xs : List ℕ) → bare_name (0 ∷ xs) ≡ []
bare-zero xs = ap (λ n. take n (0 ∷ xs)) (text-zero xs)

-- after a zero byte all are zeros
zeros-zero : (xs : List ℕ) → IsPadded (0 ∷ xs) → are_zeros (0 ∷ xs) ≡ true
zeros-zero xs z = sym (ap (λ n. are_zeros (drop n (0 ∷ xs))) (text-zero xs)) ∙ z

-- zeros are the same as zeros
zeros-same : (xs ys : List ℕ) → length xs ≡ length ys → are_zeros xs ≡ true → are_zeros ys ≡ true → bytes_eq xs ys ≡ true
zeros-same [] [] l a b = refl
zeros-same [] (y ∷ ys) l a b = absurd (omega (arith, l))
zeros-same (x ∷ xs) [] l a b = absurd (omega (arith, l))
zeros-same (x ∷ xs) (y ∷ ys) l a b =
    let p = and_parts (nat_eq x 0) (are_zeros xs) a in let q = and_parts (nat_eq y 0) (are_zeros ys) b in
    let t = p.0 in let u = q.0 in
    let e : nat_eq x y ≡ true = grind (arith, nat_tests) in
    ap (λ v. v && bytes_eq xs ys) e ∙ zeros-same xs ys (omega (arith, l)) p.1 q.1

-- zeros do not come before zeros
zeros-not-before : (xs ys : List ℕ) → length xs ≡ length ys → are_zeros xs ≡ true → are_zeros ys ≡ true → is_before xs ys ≡ false
zeros-not-before [] [] l a b = refl
zeros-not-before [] (y ∷ ys) l a b = absurd (omega (arith, l))
zeros-not-before (x ∷ xs) [] l a b = absurd (omega (arith, l))
zeros-not-before (x ∷ xs) (y ∷ ys) l a b =
    let p = and_parts (nat_eq x 0) (are_zeros xs) a in let q = and_parts (nat_eq y 0) (are_zeros ys) b in
    let t = p.0 in let u = q.0 in
    let e : nat_eq x y ≡ true = grind (arith, nat_tests) in
    ap (λ v. cond v (is_before xs ys) (nat_lt x y)) e ∙ zeros-not-before xs ys (omega (arith, l)) p.1 q.1

-- tests of bytes, one of which is zero
nonzero : (x : ℕ) → not (nat_eq (suc x) 0) ≡ true
nonzero x = let t : nat_eq (suc x) 0 ≡ false = grind (arith, nat_tests) in ap not t

-- zero is not a greater number
zero-suc : (x : ℕ) → nat_eq 0 (suc x) ≡ false
zero-suc x = grind (arith, nat_tests)

-- a greater number is not zero
suc-zero : (x : ℕ) → nat_eq (suc x) 0 ≡ false
suc-zero x = grind (arith, nat_tests)

-- zero is below a greater number
zero-less : (x : ℕ) → nat_lt 0 (suc x) ≡ true
zero-less x = grind (arith, nat_tests)

-- no number is below zero
less-zero : (x : ℕ) → nat_lt (suc x) 0 ≡ false
less-zero x = grind (arith, nat_tests)

-- names of one length are equal if their texts are
pub bare_same : (xs ys : List ℕ) → length xs ≡ length ys → IsPadded xs → IsPadded ys
    → bytes_eq (bare_name xs) (bare_name ys) ≡ bytes_eq xs ys
bare_same [] [] l a b = ap (λ t. bytes_eq t t) bare-nil
bare_same [] (y ∷ ys) l a b = absurd (omega (arith, l))
bare_same (x ∷ xs) [] l a b = absurd (omega (arith, l))
bare_same (zero ∷ xs) (zero ∷ ys) l a b =
    ap (λ t. bytes_eq t (bare_name (0 ∷ ys))) (bare-zero xs) ∙ ap (bytes_eq []) (bare-zero ys)
    ∙ sym (zeros-same (0 ∷ xs) (0 ∷ ys) l (zeros-zero xs a) (zeros-zero ys b))
bare_same (zero ∷ xs) (suc y ∷ ys) l a b =
    ap (λ t. bytes_eq t (bare_name (suc y ∷ ys))) (bare-zero xs) ∙ ap (bytes_eq []) ((begins (suc y) ys (nonzero y)).bare)
    ∙ sym (ap (λ v. v && bytes_eq xs ys) (zero-suc y))
bare_same (suc x ∷ xs) (zero ∷ ys) l a b =
    ap (bytes_eq (bare_name (suc x ∷ xs))) (bare-zero ys) ∙ ap (λ t. bytes_eq t []) ((begins (suc x) xs (nonzero x)).bare)
    ∙ sym (ap (λ v. v && bytes_eq xs ys) (suc-zero x))
bare_same (suc x ∷ xs) (suc y ∷ ys) l a b =
    let p = begins (suc x) xs (nonzero x) in let q = begins (suc y) ys (nonzero y) in
    ap (λ t. bytes_eq t (bare_name (suc y ∷ ys))) p.bare ∙ ap (bytes_eq (suc x ∷ bare_name xs)) q.bare
    ∙ ap (λ v. nat_eq (suc x) (suc y) && v) (bare_same xs ys (omega (arith, l)) (p.rest a) (q.rest b))

-- and in the same order
pub bare_order : (xs ys : List ℕ) → length xs ≡ length ys → IsPadded xs → IsPadded ys
    → precedes (bare_name xs) (bare_name ys) ≡ is_before xs ys
bare_order [] [] l a b = ap (λ t. precedes t t) bare-nil
bare_order [] (y ∷ ys) l a b = absurd (omega (arith, l))
bare_order (x ∷ xs) [] l a b = absurd (omega (arith, l))
bare_order (zero ∷ xs) (zero ∷ ys) l a b =
    ap (λ t. precedes t (bare_name (0 ∷ ys))) (bare-zero xs) ∙ ap (precedes []) (bare-zero ys)
    ∙ sym (zeros-not-before (0 ∷ xs) (0 ∷ ys) l (zeros-zero xs a) (zeros-zero ys b))
bare_order (zero ∷ xs) (suc y ∷ ys) l a b =
    ap (λ t. precedes t (bare_name (suc y ∷ ys))) (bare-zero xs) ∙ ap (precedes []) ((begins (suc y) ys (nonzero y)).bare)
    ∙ sym (ap (λ v. cond v (is_before xs ys) (nat_lt 0 (suc y))) (zero-suc y) ∙ zero-less y)
bare_order (suc x ∷ xs) (zero ∷ ys) l a b =
    ap (precedes (bare_name (suc x ∷ xs))) (bare-zero ys) ∙ ap (λ t. precedes t []) ((begins (suc x) xs (nonzero x)).bare)
    ∙ sym (ap (λ v. cond v (is_before xs ys) (nat_lt (suc x) 0)) (suc-zero x) ∙ less-zero x)
bare_order (suc x ∷ xs) (suc y ∷ ys) l a b =
    let p = begins (suc x) xs (nonzero x) in let q = begins (suc y) ys (nonzero y) in
    ap (λ t. precedes t (bare_name (suc y ∷ ys))) p.bare ∙ ap (precedes (suc x ∷ bare_name xs)) q.bare
    ∙ ap (λ v. cond (nat_eq (suc x) (suc y)) v (nat_lt (suc x) (suc y))) (bare_order xs ys (omega (arith, l)) (p.rest a) (q.rest b))
