-- The values of terms: sums, terms that are the same, and numbers that differ.
use Rattle.std.proofs.Common.{Bool, List, None, Option, Some, ap, arith, cond, false, inl, inr, length, not, pos, refl, subst, suc, sym, true, zero, ℕ, ◌%◌, ◌&&◌, ◌*◌, ◌+◌, ◌-◌, ◌<◌, ◌==◌, ◌^◌, ◌∙◌, ◌≡◌, ◌≤◌, ◌⊎◌}
use Rattle.std.proofs.lemmas.Bool.{and_parts, cases_Bool, cond-false, cond-true, cond_both, eq-eqb, eqb-false, eqb-true, lt-ltb, ltb-true, ne_eqb, not-true, true≢false}
use Rattle.std.proofs.lemmas.Nat.{and_le_l, mul-mod_first, or_of_32, xor_of_32}
use Rattle.std.specs.Prelude.{nat_lt}
use Rattle.xinu_model.specs.Isa.Effects.{less, less_unsigned, minus, plus, shift_left, wrapped}
use Rattle.xinu_model.specs.Memory.{number_at, with_number}
use Rattle.xinu_model.specs.Words.{signed}
use Rattle.program_logic.proofs.Known.{Means, means_entailed}
use Rattle.program_logic.proofs.Ram.{written}
use Rattle.program_logic.specs.PlaceCheck.{is_ticks}
use Rattle.program_logic.specs.Operations.{folded, folded_of, result_of}
use Rattle.program_logic.specs.Terms.{are_equal, are_same, compared, compared_of, constant, differ, negated, number_in, slot_shifted, slots_added, slots_taken, value}
use Rattle.program_logic.specs.declared.operations.Operation.{Operation}
use Rattle.program_logic.specs.declared.operations.Operation.TheVariants.{Less, Below, Xor, Or, And}
use Rattle.program_logic.specs.declared.values.Slot.{Slot}
use Rattle.program_logic.specs.declared.values.Slot.TheVariants.{Known, Unknown}
use Rattle.program_logic.specs.declared.values.Term.{Term}

times_added : (a b n : ℕ) → ((a + b) % 2 ^ 32 * n) % 2 ^ 32 ≡ (a * n + b * n) % 2 ^ 32
times_added a b n = mul-mod_first (a + b) n (2 ^ 32) ∙ ap (λ z. z % 2 ^ 32) (grind arith)

sums : (ta pa tb pb n : ℕ) → plus ((ta * n + pa) % 2 ^ 32) ((tb * n + pb) % 2 ^ 32) ≡ ((ta + tb) % 2 ^ 32 * n + (pa + pb) % 2 ^ 32) % 2 ^ 32
sums ta pa tb pb n = let e = times_added ta tb n in omega (arith, e)

pub means_added : (a b : Slot) (n x z : ℕ) → Means a n x → Means b n z → Means (slots_added a b) n (plus x z)
means_added (Known a) (Known b) n x z m k = ap (λ x. plus x z) m ∙ ap (λ z. plus (value a n) z) k ∙ sums a.times a.plus b.times b.plus n
means_added (Known a) Unknown n x z m k = tt
means_added Unknown b n x z m k = tt

-- a number more
more : (t p n i : ℕ) → plus ((t * n + p) % 2 ^ 32) i ≡ ((t + 0) % 2 ^ 32 * n + (p + i) % 2 ^ 32) % 2 ^ 32
more t p n i = let e = times_added t 0 n in omega (arith, e)

pub means_more : (a : Slot) (n x i : ℕ) → Means a n x → Means (slots_added a (Known (constant i))) n (plus x i)
means_more (Known a) n x i m = ap (λ x. plus x i) m ∙ more a.times a.plus n i
means_more Unknown n x i m = tt

-- a difference, and a value that is shifted
distributed : (a b n : ℕ) → (a + b) * n ≡ a * n + b * n
distributed a b n = grind arith

differences : (ta pa tb pb n : ℕ)
    → minus ((ta * n + pa) % 2 ^ 32) ((tb * n + pb) % 2 ^ 32) ≡ (minus ta (tb % 2 ^ 32) * n + minus pa (pb % 2 ^ 32)) % 2 ^ 32
differences ta pa tb pb n =
    let u = 2 ^ 32 - tb % 2 ^ 32 in
    let first = mul-mod_first (ta + u) n (2 ^ 32) in
    let second = distributed ta u n in
    let whole : u + tb % 2 ^ 32 ≡ 2 ^ 32 = omega arith in
    let third : u * n + (tb % 2 ^ 32) * n ≡ 2 ^ 32 * n = sym (distributed u (tb % 2 ^ 32) n) ∙ ap (λ z. z * n) whole in
    let fourth = mul-mod_first tb n (2 ^ 32) in
    omega (arith, first, second, third, fourth)

pub means_taken : (a b : Slot) (n x z : ℕ) → Means a n x → Means b n z → Means (slots_taken a b) n (minus x z)
means_taken (Known a) (Known b) n x z m k =
    ap (λ x. minus x z) m ∙ ap (λ z. minus (value a n) z) k ∙ differences a.times a.plus b.times b.plus n
means_taken (Known a) Unknown n x z m k = tt
means_taken Unknown b n x z m k = tt

shifts : (t p n c : ℕ) → ((t * n + p) % 2 ^ 32 * c) % 2 ^ 32 ≡ ((t * c) % 2 ^ 32 * n + (p * c) % 2 ^ 32) % 2 ^ 32
shifts t p n c =
    let first = mul-mod_first (t * n + p) c (2 ^ 32) in
    let second = mul-mod_first (t * c) n (2 ^ 32) in
    let third : (t * n + p) * c ≡ t * c * n + p * c = grind arith in
    omega (arith, first, second, third)

pub means_shifted : (a : Slot) (n x i : ℕ) → Means a n x → Means (slot_shifted a (Some i)) n (shift_left x i)
means_shifted (Known a) n x i m = ap (λ x. shift_left x i) m ∙ shifts a.times a.plus n (2 ^ (i % 32))
means_shifted Unknown n x i m = tt

-- the number that a value is known to be is the value
pub number_is : (s : Slot) (n x : ℕ) → Means s n x → (number_in s ≡ None) ⊎ ((number_in s ≡ Some x) × (x < 2 ^ 32))
number_is Unknown n x m = inl refl
number_is (Known t) n x m = by (cases_Bool (t.times == 0))
  where
    by : ((t.times == 0) ≡ true) ⊎ ((t.times == 0) ≡ false) → (number_in (Known t) ≡ None) ⊎ ((number_in (Known t) ≡ Some x) × (x < 2 ^ 32))
    by (inr e) = inl (cond-false (t.times == 0) (Some (wrapped t.plus)) None e)
    by (inl e) =
        let is : x ≡ wrapped t.plus = m ∙ ap (λ z. (z * n + t.plus) % 2 ^ 32) (eqb-true t.times 0 e) ∙ omega arith in
        inr (cond-true (t.times == 0) (Some (wrapped t.plus)) None e ∙ ap Some (sym is), omega (arith, is))

unshifted : (a : Slot) (n x : ℕ) → Means (slot_shifted a None) n x
unshifted (Known a) n x = tt
unshifted Unknown n x = tt

pub means_shifted_by : (a b : Slot) (n x z : ℕ) → Means a n x → Means b n z → Means (slot_shifted a (number_in b)) n (shift_left x z)
means_shifted_by a b n x z m k = by (number_is b n z k)
  where
    by : (number_in b ≡ None) ⊎ ((number_in b ≡ Some z) × (z < 2 ^ 32)) → Means (slot_shifted a (number_in b)) n (shift_left x z)
    by (inl e) = subst (λ o. Means (slot_shifted a o) n (shift_left x z)) (sym e) (unshifted a n (shift_left x z))
    by (inr e) = subst (λ o. Means (slot_shifted a o) n (shift_left x z)) (sym e.0) (means_shifted a n x z m)

-- the result of an operation on two words is a word
result_fits : (op : Operation) (x z : ℕ) → x < 2 ^ 32 → z < 2 ^ 32 → result_of op x z < 2 ^ 32
result_fits Less x z few less_than = cond_both (less x z) 1 0 (λ v. v < 2 ^ 32) (λ e. omega arith) (λ e. omega arith)
result_fits Below x z few less_than = cond_both (less_unsigned x z) 1 0 (λ v. v < 2 ^ 32) (λ e. omega arith) (λ e. omega arith)
result_fits Xor x z few less_than = xor_of_32 x z few less_than
result_fits Or x z few less_than = or_of_32 x z few less_than
result_fits And x z few less_than = let low = and_le_l x z in omega (arith, low, few)

pub means_folded : (op : Operation) (a b : Slot) (n x z : ℕ) → Means a n x → Means b n z → Means (folded op a b) n (result_of op x z)
means_folded op a b n x z m k = by (number_is a n x m) (number_is b n z k)
  where
    by : (number_in a ≡ None) ⊎ ((number_in a ≡ Some x) × (x < 2 ^ 32)) → (number_in b ≡ None) ⊎ ((number_in b ≡ Some z) × (z < 2 ^ 32))
        → Means (folded_of op (number_in a) (number_in b)) n (result_of op x z)
    by (inl e) other = subst (λ o. Means (folded_of op o (number_in b)) n (result_of op x z)) (sym e) tt
    by (inr e) (inl f) =
        subst (λ o. Means (folded_of op o (number_in b)) n (result_of op x z)) (sym e.0)
        (subst (λ o. Means (folded_of op (Some x) o) n (result_of op x z)) (sym f) tt)
    by (inr e) (inr f) =
        let fits = result_fits op x z e.1 f.1 in
        subst (λ o. Means (folded_of op o (number_in b)) n (result_of op x z)) (sym e.0)
        (subst (λ o. Means (folded_of op (Some x) o) n (result_of op x z)) (sym f.0) (omega (arith, fits)))

-- what is known of a condition is so
abbrev pub Tells : Option Bool → Bool → Type 0
Tells None holds = Unit {0}
Tells (Some known) holds = holds ≡ known

pub tells_compared : (test : ℕ → ℕ → Bool) (a b : Slot) (n x z : ℕ) → Means a n x → Means b n z → Tells (compared test a b) (test x z)
tells_compared test a b n x z m k = by (number_is a n x m) (number_is b n z k)
  where
    by : (number_in a ≡ None) ⊎ ((number_in a ≡ Some x) × (x < 2 ^ 32)) → (number_in b ≡ None) ⊎ ((number_in b ≡ Some z) × (z < 2 ^ 32))
        → Tells (compared_of test (number_in a) (number_in b)) (test x z)
    by (inl e) other = subst (λ o. Tells (compared_of test o (number_in b)) (test x z)) (sym e) tt
    by (inr e) (inl f) =
        subst (λ o. Tells (compared_of test o (number_in b)) (test x z)) (sym e.0)
        (subst (λ o. Tells (compared_of test (Some x) o) (test x z)) (sym f) tt)
    by (inr e) (inr f) =
        subst (λ o. Tells (compared_of test o (number_in b)) (test x z)) (sym e.0)
        (subst (λ o. Tells (compared_of test (Some x) o) (test x z)) (sym f.0) refl)

pub tells_negated : (known : Option Bool) (holds : Bool) → Tells known holds → Tells (negated known) (not holds)
tells_negated None holds is = tt
tells_negated (Some known) holds is = ap not is

pub same_values : (a b : Slot) (n x z : ℕ) → are_same a b ≡ true → Means a n x → Means b n z → x ≡ z
same_values (Known a) (Known b) n x z is m k =
    means_entailed (Known a) (Known b) n x is m ∙ sym k
same_values (Known a) Unknown n x z is m k = absurd (true≢false (sym is))
same_values Unknown b n x z is m k = absurd (true≢false (sym is))

pub differing : (a b : Slot) (n x z : ℕ) → differ a b ≡ true → Means a n x → Means b n z → x ≡ z → ⊥
differing (Known a) (Known b) n x z is m k same =
    let c = and_parts ((a.times == 0) && (b.times == 0)) (not (wrapped a.plus == wrapped b.plus)) is in
    let d = and_parts (a.times == 0) (b.times == 0) c.0 in
    let va : value a n ≡ a.plus % 2 ^ 32 = ap (λ t. (t * n + a.plus) % 2 ^ 32) (eqb-true a.times 0 d.0) ∙ omega arith in
    let vb : value b n ≡ b.plus % 2 ^ 32 = ap (λ t. (t * n + b.plus) % 2 ^ 32) (eqb-true b.times 0 d.1) ∙ omega arith in
    eqb-false (wrapped a.plus) (wrapped b.plus) (not-true (wrapped a.plus == wrapped b.plus) c.1) (sym va ∙ sym m ∙ same ∙ k ∙ vb)
differing (Known a) Unknown n x z is m k same = absurd (true≢false (sym is))
differing Unknown b n x z is m k same = absurd (true≢false (sym is))

pub tells_equal : (a b : Slot) (n x z : ℕ) → Means a n x → Means b n z → Tells (are_equal a b) (x == z)
tells_equal a b n x z m k = by (cases_Bool (are_same a b))
  where
    by : (are_same a b ≡ true) ⊎ (are_same a b ≡ false) → Tells (cond (are_same a b) (Some true) (cond (differ a b) (Some false) None)) (x == z)
    by (inl e) =
        subst (λ t. Tells (cond t (Some true) (cond (differ a b) (Some false) None)) (x == z)) (sym e) (eq-eqb x z (same_values a b n x z e m k))
    by (inr e) = subst (λ t. Tells (cond t (Some true) (cond (differ a b) (Some false) None)) (x == z)) (sym e) (other (cases_Bool (differ a b)))
      where
        other : (differ a b ≡ true) ⊎ (differ a b ≡ false) → Tells (cond (differ a b) (Some false) None) (x == z)
        other (inl f) = subst (λ t. Tells (cond t (Some false) None) (x == z)) (sym f) (ne_eqb x z (differing a b n x z f m k))
        other (inr f) = subst (λ t. Tells (cond t (Some false) None) (x == z)) (sym f) tt

pub next_rule : (t p n v : ℕ) → v ≡ (t * n + (p + t) % 2 ^ 32) % 2 ^ 32 → v ≡ (t * (n + 1) + p) % 2 ^ 32
next_rule t p n v e = let d : t * (n + 1) ≡ t * n + t = grind arith in omega (arith, e, d)

value_below : (t : Term) (n : ℕ) → value t n < 2 ^ 32
value_below t n = omega arith

-- what is known of a value is known of the word once it was stored
pub means_stored : (s : Slot) (memory : List ℕ) (a n x : ℕ) → a ≤ length memory → Means s n x → Means s n (number_at (with_number memory a 4 x) a 4)
means_stored Unknown memory a n x within m = tt
means_stored (Known t) memory a n x within m =
    let low = value_below t n in written memory a x (omega (arith, m, low)) within ∙ m

-- a number of ticks
ticks_of : (x : ℕ) → 0 < x → x < 2 ^ 31 → (m : ℕ) × (signed x ≡ pos (suc m))
ticks_of zero some few = absurd (omega arith)
ticks_of (suc m) some few = (m, cond-true (nat_lt (suc m) (2 ^ 31)) (pos (suc m)) _ (lt-ltb (suc m) (2 ^ 31) few))

pub ticks : (s : Slot) (n x : ℕ) → is_ticks s ≡ true → Means s n x → (m : ℕ) × (signed x ≡ pos (suc m))
ticks Unknown n x is m = absurd (true≢false (sym is))
ticks (Known t) n x is m =
    let a = and_parts (t.times == 0) (nat_lt 0 t.plus && nat_lt t.plus (2 ^ 31)) is in
    let c = and_parts (nat_lt 0 t.plus) (nat_lt t.plus (2 ^ 31)) a.1 in
    let low = ltb-true 0 t.plus c.0 in
    let high = ltb-true t.plus (2 ^ 31) c.1 in
    let e : x ≡ t.plus = m ∙ ap (λ z. (z * n + t.plus) % 2 ^ 32) (eqb-true t.times 0 a.0) ∙ omega (arith, high) in
    ticks_of x (omega (arith, e, low)) (omega (arith, e, high))
