-- What a comparison of signed numbers says.
use Rattle.std.proofs.Common.{◌≡◌, ℕ, zero, suc, true, false, inl, inr, ◌<◌, List, length, refl, sym, subst, arith, ℤ, pos, negsuc}
use Rattle.std.proofs.lemmas.Bool.{le-ltb, lt-ltb}
use Rattle.std.proofs.lemmas.Int.{ints}
use Rattle.std.specs.Prelude.{◌<ℤ◌, ◌≤ℤ◌, ◌+ℤ◌, nat_lt, neg_ℤ}
use Rattle.xinu_model.specs.Semaphores.Counts.{count_of}
use Rattle.xinu_model.specs.Sound.Tables.{HasOneKind}
use Rattle.xinu_model.specs.Tables.{Semaphore}
use Rattle.refusal_reasons.specs.Causes.{is_minus_one, is_negative}

pub is_one : (n : ℤ) → n ≡ negsuc 0 → true ≡ is_minus_one n
is_one (pos n) e = absurd (cc)
is_one (negsuc zero) e = refl
is_one (negsuc (suc n)) e = absurd (cc)

pub is_other : (n : ℤ) → (n ≡ negsuc 0 → ⊥) → false ≡ is_minus_one n
is_other (pos n) f = refl
is_other (negsuc zero) f = absurd (f refl)
is_other (negsuc (suc n)) f = refl

pub is_below : (n : ℤ) → n <ℤ pos 0 → true ≡ is_negative n
is_below (pos n) h = absurd (omega (arith, ints, h))
is_below (negsuc n) h = refl

pub is_above : (n : ℤ) → pos 0 ≤ℤ n → false ≡ is_negative n
is_above (pos n) h = refl
is_above (negsuc n) h = absurd (omega (arith, ints, h))

-- a count above zero is of tokens
above_zero : (n m : ℕ) → pos 0 <ℤ (pos n +ℤ neg_ℤ (pos m)) → 0 < n
above_zero n m h = omega (arith, ints, h)

pub some_tokens : (x : Semaphore) → pos 0 <ℤ count_of x → true ≡ nat_lt 0 x.tokens
some_tokens x h = sym (lt-ltb 0 x.tokens (above_zero x.tokens (length x.waiters) h))

-- a semaphore with tokens has no waiters, so that its count is how many it has
pub no_tokens : (x : Semaphore) → HasOneKind x → count_of x ≤ℤ pos 0 → false ≡ nat_lt 0 x.tokens
no_tokens x kind h = elim kind [
  | inl e ↦ sym (le-ltb 0 x.tokens (omega (arith, e)))
  | inr e ↦ (let f : (pos x.tokens +ℤ neg_ℤ (pos 0)) ≤ℤ pos 0 = subst (λ (l : List ℕ). (pos x.tokens +ℤ neg_ℤ (pos (length l))) ≤ℤ pos 0) e h in sym (le-ltb 0 x.tokens (omega (arith, ints, f))))
]

-- and how many it has
pub all_tokens : (x : Semaphore) (n : ℕ) → HasOneKind x → count_of x ≡ pos n → pos 0 <ℤ pos n → n ≡ x.tokens
all_tokens x n kind e h = elim kind [
  | inl f ↦ absurd (let g : pos 0 <ℤ (pos x.tokens +ℤ neg_ℤ (pos (length x.waiters))) = subst (λ z. pos 0 <ℤ z) (sym e) h in (omega (arith, above_zero x.tokens (length x.waiters) g, f)))
  | inr f ↦ (let g : (pos x.tokens +ℤ neg_ℤ (pos 0)) ≡ pos n = subst (λ (l : List ℕ). (pos x.tokens +ℤ neg_ℤ (pos (length l))) ≡ pos n) f e in omega (arith, ints, g))
]

pub zero_tokens : (x : Semaphore) → HasOneKind x → count_of x ≤ℤ pos 0 → 0 ≡ x.tokens
zero_tokens x kind h = elim kind [
  | inl e ↦ sym e
  | inr e ↦ (let f : (pos x.tokens +ℤ neg_ℤ (pos 0)) ≤ℤ pos 0 = subst (λ (l : List ℕ). (pos x.tokens +ℤ neg_ℤ (pos (length l))) ≤ℤ pos 0) e h in omega (arith, ints, f))
]
