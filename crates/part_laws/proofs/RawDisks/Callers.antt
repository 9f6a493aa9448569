-- The callers of requests after a process was killed.
use Rattle.std.proofs.Common.{◌≡◌, ℕ, Bool, true, false, not, ◌==◌, List, [], ◌∷◌, ◌++◌, filter, Option, Some, None, refl, sym, ap, ◌∙◌, append_assoc}
use Rattle.std.specs.Prelude.{IsSome}
use Rattle.std.proofs.lemmas.Bool.{cond_both, cond-true, cond-false, not-true, not-false}
use Rattle.table_laws.proofs.Lists.Orders.{all_filter}
use Rattle.xinu_model.specs.RawDisk.Callers.{is_caller, living, callers, HaveCallers, others, given_up}

-- whether a process isn't p
abbrev pub is_other : ℕ → ℕ → Bool
is_other p q = not (q == p)

-- a caller that isn't p goes on, and p doesn't
kept_caller : (p : ℕ) (o : Option ℕ) (xs ys : List ℕ) → is_caller p o ≡ false → xs ≡ filter (is_other p) ys
    → living o ++ xs ≡ filter (is_other p) (living o ++ ys)
kept_caller p None xs ys e same = same
kept_caller p (Some q) xs ys e same = ap (λ l. q ∷ l) same ∙ sym (cond-true (is_other p q) (q ∷ filter (is_other p) ys) _ (ap not e))

dropped_caller : (p : ℕ) (o : Option ℕ) (xs ys : List ℕ) → is_caller p o ≡ true → xs ≡ filter (is_other p) ys
    → xs ≡ filter (is_other p) (living o ++ ys)
dropped_caller p None xs ys e same = cc
dropped_caller p (Some q) xs ys e same = same ∙ sym (cond-false (is_other p q) (q ∷ filter (is_other p) ys) _ (ap not e))

module _ {A : Type 0} (caller : A → Option ℕ) where
  -- the callers of the requests that aren't p's
  pub callers_others : (p : ℕ) (l : List A) → callers caller (others caller p l) ≡ filter (is_other p) (callers caller l)
  callers_others p [] = refl
  callers_others p (a ∷ rest) =
      let same = callers_others p rest in
      cond_both (not (is_caller p (caller a))) (a ∷ others caller p rest) (others caller p rest)
      (λ l. callers caller l ≡ filter (is_other p) (callers caller (a ∷ rest)))
      (λ e. kept_caller p (caller a) (callers caller (others caller p rest)) (callers caller rest)
      (not-true (is_caller p (caller a)) e) same)
      (λ e. dropped_caller p (caller a) (callers caller (others caller p rest)) (callers caller rest)
      (not-false (is_caller p (caller a)) e) same)

  -- The living callers once p was killed are those without p.
  pub callers_given_up : (orphaned : A → A) → ((a : A) → caller (orphaned a) ≡ None) → (p : ℕ) (l : List A)
      → callers caller (given_up caller orphaned p l) ≡ filter (is_other p) (callers caller l)
  callers_given_up orphaned none p [] = refl
  callers_given_up orphaned none p (a ∷ rest) =
      let same = callers_others p rest in
      cond_both (is_caller p (caller a)) (orphaned a) a
      (λ x. living (caller x) ++ callers caller (others caller p rest) ≡ filter (is_other p) (callers caller (a ∷ rest)))
      (λ e. ap (λ o. living o ++ callers caller (others caller p rest)) (none a)
      ∙ dropped_caller p (caller a) (callers caller (others caller p rest)) (callers caller rest) e same)
      (λ e. kept_caller p (caller a) (callers caller (others caller p rest)) (callers caller rest) e same)

  -- Only the first may have no caller after that.
  pub have_callers_given_up : (orphaned : A → A) (p : ℕ) (l : List A) → HaveCallers caller l
      → HaveCallers caller (given_up caller orphaned p l)
  have_callers_given_up orphaned p [] h = tt
  have_callers_given_up orphaned p (a ∷ rest) h = all_filter (λ b. IsSome (caller b)) (λ b. not (is_caller p (caller b))) rest h

  -- One more living caller waits after the others.
  pub callers_last : (l : List A) (a : A) (p : ℕ) → caller a ≡ Some p → callers caller (l ++ a ∷ []) ≡ callers caller l ++ p ∷ []
  callers_last [] a p e = ap (λ o. living o ++ []) e
  callers_last (b ∷ l) a p e =
      ap (λ k. living (caller b) ++ k) (callers_last l a p e) ∙ sym (append_assoc (living (caller b)) (callers caller l) (p ∷ []))
