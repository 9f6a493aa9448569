-- A loop that changes each entry of a list.
use Rattle.std.proofs.Common.{◌≡◌, ℕ, zero, suc, ◌+◌, ◌<◌, List, [], ◌∷◌, ◌++◌, take, drop, map, length, refl, ap, ◌∙◌, arith}
use Rattle.std.specs.Prelude.{slice_index_or, slice_set}

-- the list after the entries below i were changed
abbrev pub changed_below : {A : Type 0} → (A → A) → ℕ → List A → List A
changed_below f i l = map f (take i l) ++ drop i l

pub unchanged_at : {A : Type 0} (f : A → A) (l : List A) (i : ℕ) (d : A) → slice_index_or (changed_below f i l) i d ≡ slice_index_or l i d
unchanged_at f [] zero d = refl
unchanged_at f [] (suc i) d = refl
unchanged_at f (x ∷ l) zero d = refl
unchanged_at f (x ∷ l) (suc i) d = unchanged_at f l i d

pub one_more : {A : Type 0} (f : A → A) (l : List A) (i : ℕ) (d : A) → i < length l
    → slice_set (changed_below f i l) i (f (slice_index_or l i d)) ≡ changed_below f (suc i) l
one_more f [] i d h = absurd (omega arith)
one_more f (x ∷ l) zero d h = refl
one_more f (x ∷ l) (suc i) d h = ap (λ y. f x ∷ y) (one_more f l i d (omega arith))

pub one_more_at : {A : Type 0} (f : A → A) (l : List A) (i : ℕ) (d : A) → i < length l
    → slice_set (changed_below f i l) i (f (slice_index_or l i d)) ≡ changed_below f (i + 1) l
one_more_at f l i d h = one_more f l i d h ∙ ap (λ k. changed_below f k l) (let z : suc i ≡ i + 1 = omega arith in z)
