-- Who is before whom in a list, as others leave and come.
use Rattle.std.proofs.Common.{◌≡◌, ◌≢◌, ◌⊎◌, inl, inr, ⊎_elim, ℕ, zero, suc, ◌<◌, ◌==◌, not, cond, List, [], ◌∷◌, ◌++◌, take, sym, subst, ◌∙◌, arith}
use Rattle.std.proofs.lemmas.Bool.{cases_eq, cond_both, ne_eqb}
use Rattle.xinu_model.specs.Sound.Tables.{count_in}
use Rattle.xinu_model.specs.Tables.{numbers_without}
use Rattle.table_laws.proofs.Lists.Counts.{count_behind, first_is_counted, numbers_without_other, times-append}
use Rattle.table_laws.proofs.Tables.Unblock.{IsOneOf}
use Rattle.scheduling_laws.specs.Fairness.{IsBefore}

-- both are in the list
pub before_counts : (p q : ℕ) (l : List ℕ) → IsBefore p q l → (0 < count_in p l) × (0 < count_in q l)
before_counts p q [] h = absurd h
before_counts p q (x ∷ xs) h =
    ⊎_elim
    (λ (f : (x ≡ p) × (0 < count_in q xs)). (subst (λ r. 0 < count_in r (x ∷ xs)) f.0 (first_is_counted x xs), count_behind q x xs f.1))
    (λ (n : (x ≢ q) × IsBefore p q xs). let more = before_counts p q xs n.1 in (count_behind p x xs more.0, count_behind q x xs more.1)) h

-- p is before q also without another
pub before_without : (p q y : ℕ) (l : List ℕ) → p ≢ y → q ≢ y → IsBefore p q l → IsBefore p q (numbers_without y l)
before_without p q y [] n m h = h
before_without p q y (x ∷ xs) n m h =
    let others = numbers_without y xs in
    ⊎_elim
    (λ (f : (x ≡ p) × (0 < count_in q xs)). subst (λ b. IsBefore p q (cond (not b) (x ∷ others) others)) (sym (ne_eqb x y (λ e. n (sym f.0 ∙ e))))
    (inl (f.0, subst (λ k. 0 < k) (sym (numbers_without_other q y xs m)) f.1)))
    (λ (f : (x ≢ q) × IsBefore p q xs). cond_both (not (x == y)) (x ∷ others) others (IsBefore p q)
    (λ _. inr (f.0, before_without p q y xs n m f.1)) (λ _. before_without p q y xs n m f.1)) h

-- and with one more after them
pub before_last : (p q y : ℕ) (l : List ℕ) → IsBefore p q l → IsBefore p q (l ++ y ∷ [])
before_last p q y [] h = absurd h
before_last p q y (x ∷ xs) h =
    ⊎_elim
    (λ (f : (x ≡ p) × (0 < count_in q xs)). inl (f.0, let e = times-append (λ z. z == q) xs (y ∷ []) in let g = f.1 in omega arith))
    (λ (f : (x ≢ q) × IsBefore p q xs). inr (f.0, before_last p q y xs f.1)) h

-- the first of such a list isn't q, unless it is p
pub first_of_before : (p q x : ℕ) (xs : List ℕ) → IsBefore p q (x ∷ xs) → p ≢ x → q ≢ x
first_of_before p q x xs h n =
    ⊎_elim (λ (f : (x ≡ p) × (0 < count_in q xs)). absurd (n (sym f.0)))
    (λ (f : (x ≢ q) × IsBefore p q xs). λ e. f.0 (sym e)) h

-- if p isn't among the first n of such a list q isn't either
pub none_before : (p q n : ℕ) (l : List ℕ) → IsBefore p q l → (IsOneOf p (take n l) → ⊥) → IsOneOf q (take n l) → ⊥
none_before p q zero l h n i = i
none_before p q (suc k) [] h n i = i
none_before p q (suc k) (x ∷ xs) h n i =
    ⊎_elim (λ (f : (x ≡ p) × (0 < count_in q xs)). n (inl (sym f.0)))
    (λ (f : (x ≢ q) × IsBefore p q xs).
    ⊎_elim (λ (e : q ≡ x). f.0 (sym e)) (λ (j : IsOneOf q (take k xs)). none_before p q k xs f.1 (λ a. n (inr a)) j) i) h

-- a number is in a list or it isn't
pub one_or_none : (p : ℕ) (l : List ℕ) → IsOneOf p l ⊎ (IsOneOf p l → ⊥)
one_or_none p [] = inr (λ i. i)
one_or_none p (x ∷ xs) =
    ⊎_elim (λ (e : p ≡ x). inl (inl e))
    (λ (n : p ≢ x). ⊎_elim (λ (i : IsOneOf p xs). inl (inr i))
    (λ (none : IsOneOf p xs → ⊥). inr (λ i. ⊎_elim (λ (e : p ≡ x). n e) (λ (j : IsOneOf p xs). none j) i)) (one_or_none p xs))
    (cases_eq p x)

-- who is among the first n of a list is in it
pub one_of_all : (p n : ℕ) (l : List ℕ) → IsOneOf p (take n l) → IsOneOf p l
one_of_all p zero l i = absurd i
one_of_all p (suc n) [] i = i
one_of_all p (suc n) (x ∷ xs) i =
    ⊎_elim (λ (e : p ≡ x). inl e) (λ (j : IsOneOf p (take n xs)). inr (one_of_all p n xs j)) i
