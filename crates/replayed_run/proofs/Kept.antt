-- What is kept is known.
use Rattle.std.proofs.Common.{◌≡◌, ◌∙◌, ◌+◌, ◌-◌, ◌≤◌, ◌<◌, ℕ, zero, suc, List, [], ◌∷◌, ◌++◌, length, take, refl, sym, ap, arith, length-append}
use Rattle.std.proofs.Math.Seq.{get_or-append_seam, take-length}
use Rattle.std.proofs.lemmas.List.{get_or_append_left, take-append-le}
use Rattle.replayed_run.specs.Texts.{Keeps, kept, kept_at}
use Rattle.replayed_run.specs.Told.{Grows, text_at}
use Rattle.replayed_run.specs.declared.texts.Texts.{Texts}

-- sums
next-number : (n : ℕ) → n + 1 + 0 ≡ suc n
next-number n = grind arith

later-number : (n k : ℕ) → n + 1 + suc k ≡ suc (n + 1 + k)
later-number n k = grind arith

above : (n k : ℕ) → n < k → k ≡ n + 1 + (k - (n + 1))
above n k within = omega (arith, within)

no-more : (n : ℕ) → n + 0 ≡ n
no-more n = grind arith

one-more : (n k : ℕ) → n + suc k ≡ suc (n + k)
one-more n k = grind arith

beyond : (n k : ℕ) → n ≤ k → k ≡ n + (k - n)
beyond n k within = omega (arith, within)

-- as many as there are events
pub kept-length : (t : Texts) (n : ℕ) → length (kept t n) ≡ n
unfolding kept
kept-length t zero = refl
kept-length t (suc n) = (let before = kept-length t n in let sum = length-append (kept t n) (kept_at t n ∷ []) in omega (arith, before, sum))

-- the one after n others
kept-with : (t : Texts) (n k : ℕ) → text_at (kept t (n + 1 + k)) n ≡ kept_at t n
unfolding kept
kept-with t n zero =
    ap (λ (m : ℕ). text_at (kept t m) n) (next-number n)
    ∙ ap (λ (m : ℕ). text_at (kept t n ++ kept_at t n ∷ []) m) (sym (kept-length t n))
    ∙ get_or-append_seam (kept t n) (kept_at t n) [] []
kept-with t n (suc k) =
    ap (λ (m : ℕ). text_at (kept t m) n) (later-number n k)
    ∙ get_or_append_left (kept t (n + 1 + k)) (kept_at t (n + 1 + k) ∷ []) [] n (let many = kept-length t (n + 1 + k) in omega (arith, many))
    ∙ kept-with t n k

-- each of them
pub kept-is : (t : Texts) (n k : ℕ) → n < k → text_at (kept t k) n ≡ kept_at t n
kept-is t n k within = ap (λ (m : ℕ). text_at (kept t m) n) (above n k within) ∙ kept-with t n (k - (n + 1))

-- the same as before
pub kept-same : (old new : Texts) (n : ℕ) → ((m : ℕ) → m < n → kept_at new m ≡ kept_at old m) → kept new n ≡ kept old n
unfolding kept
kept-same old new zero same = refl
kept-same old new (suc n) same =
    ap (λ (l : List (List ℕ)). l ++ kept_at new n ∷ []) (kept-same old new n (λ m below. same m (omega (arith, below))))
    ∙ ap (λ (t : List ℕ). kept old n ++ t ∷ []) (same n (omega arith))

-- the first of them
kept-front : (t : Texts) (n k : ℕ) → take n (kept t (n + k)) ≡ kept t n
unfolding kept
kept-front t n zero =
    ap (λ (m : ℕ). take n (kept t m)) (no-more n)
    ∙ ap (λ (m : ℕ). take m (kept t n)) (sym (kept-length t n))
    ∙ take-length (kept t n)
kept-front t n (suc k) =
    ap (λ (m : ℕ). take n (kept t m)) (one-more n k)
    ∙ take-append-le n (kept t (n + k)) (kept_at t (n + k) ∷ []) (let many = kept-length t (n + k) in omega (arith, many))
    ∙ kept-front t n k

kept-first : (t : Texts) (n k : ℕ) → n ≤ k → take n (kept t k) ≡ kept t n
kept-first t n k within = ap (λ (m : ℕ). take n (kept t m)) (beyond n k within) ∙ kept-front t n (k - n)

-- what is kept grows
pub kept-grows : (old new : Texts) → Keeps old new → Grows (kept old old.far) (kept new new.far)
kept-grows old new keeps = record {
  same =
      ap (λ (n : ℕ). take n (kept new new.far)) (kept-length old old.far)
      ∙ kept-first new old.far new.far keeps.far
      ∙ kept-same old new old.far keeps.same;
}
