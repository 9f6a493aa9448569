-- Where a request stands as one comes after the others, as those of a killed process are taken out, and as the first ones are served.
use Rattle.std.proofs.Common.{◌≡◌, ◌≢◌, ◌⊎◌, inl, inr, ⊎_elim, ℕ, zero, suc, ◌+◌, ◌<◌, ◌≤◌, ◌==◌, Bool, true, false, not, ◌||◌, cond, List, [], ◌∷◌, ◌++◌, drop, Option, Some, None, refl, sym, ap, subst, ◌∙◌, arith}
use Rattle.std.proofs.lemmas.Bool.{cond_both, eqb-true, ne_eqb, not-false, true≢false}
use Rattle.xinu_model.specs.RawDisk.Callers.{is_caller, living, callers, others, given_up}
use Rattle.xinu_model.specs.Sound.Tables.{count_in}
use Rattle.bounded_waits.specs.Places.{has_one, before}

-- the caller of another process's request isn't p
pub another_caller : (p q : ℕ) (o : Option ℕ) → q ≢ p → is_caller q o ≡ true → is_caller p o ≡ false
another_caller p q None n e = refl
another_caller p q (Some r) n e = ne_eqb r p (λ f. n (sym (eqb-true r q e) ∙ f))

-- from a list to another, after one element more on both sides
grown : (t x y : Bool) (m n : ℕ) → (x ≡ true → (y ≡ true) × (n ≤ m)) → t || x ≡ true
    → ((t || y) ≡ true) × (cond t 0 (suc n) ≤ cond t 0 (suc m))
grown true x y m n go h = (refl, omega arith)
grown false x y m n go h = let k = go h in (k.0, omega (arith, k.1))

-- and if it is taken out
taken_out : (t x y : Bool) (m n : ℕ) → t ≡ false → (x ≡ true → (y ≡ true) × (n ≤ m)) → t || x ≡ true → (y ≡ true) × (n ≤ cond t 0 (suc m))
taken_out true x y m n e go h = absurd (true≢false e)
taken_out false x y m n e go h = let k = go h in (k.0, omega (arith, k.1))

-- and if it may be served
passed : (t x y : Bool) (k m n : ℕ) → (x ≡ true → (m < k) ⊎ ((y ≡ true) × (n + k ≡ m))) → t || x ≡ true
    → (cond t 0 (suc m) < suc k) ⊎ ((y ≡ true) × (n + suc k ≡ cond t 0 (suc m)))
passed true x y k m n go h = inl (omega arith)
passed false x y k m n go h =
    ⊎_elim (λ (f : m < k). inl (omega (arith, f))) (λ (f : (y ≡ true) × (n + k ≡ m)). inr (f.0, let g = f.1 in omega arith)) (go h)

module _ {A : Type 0} (caller : A → Option ℕ) (p : ℕ) where
  -- From a list to another p's request stays, and no more are before it.
  abbrev pub Stays : List A → List A → Type 0
  Stays old new = (has_one caller p new ≡ true) × (before caller p new ≤ before caller p old)

  -- whether a request is p's
  abbrev mine : A → Bool
  mine a = is_caller p (caller a)

  pub stays_same : (l : List A) → has_one caller p l ≡ true → Stays l l
  stays_same l h = (h, omega arith)

  -- A request comes after the others.
  pub stays_last : (l : List A) (a : A) → has_one caller p l ≡ true → Stays l (l ++ a ∷ [])
  stays_last [] a h = absurd (true≢false (sym h))
  stays_last (b ∷ l) a h =
      grown (mine b) (has_one caller p l) (has_one caller p (l ++ a ∷ [])) (before caller p l) (before caller p (l ++ a ∷ []))
      (λ k. stays_last l a k) h

  -- Those of another process are taken out.
  pub stays_others : (q : ℕ) (l : List A) → q ≢ p → has_one caller p l ≡ true → Stays l (others caller q l)
  stays_others q [] n h = absurd (true≢false (sym h))
  stays_others q (b ∷ l) n h =
      let l2 = others caller q l in
      cond_both (not (is_caller q (caller b))) (b ∷ l2) l2 (Stays (b ∷ l))
      (λ _. grown (mine b) (has_one caller p l) (has_one caller p l2) (before caller p l) (before caller p l2) (λ k. stays_others q l n k) h)
      (λ e. taken_out (mine b) (has_one caller p l) (has_one caller p l2) (before caller p l) (before caller p l2)
      (another_caller p q (caller b) n (not-false (is_caller q (caller b)) e)) (λ k. stays_others q l n k) h)

  -- Another process is killed.
  pub stays_given_up : (orphaned : A → A) → ((a : A) → caller (orphaned a) ≡ None) → (q : ℕ) (l : List A) → q ≢ p
      → has_one caller p l ≡ true → Stays l (given_up caller orphaned q l)
  stays_given_up orphaned none q [] n h = absurd (true≢false (sym h))
  stays_given_up orphaned none q (a ∷ l) n h =
      let l2 = others caller q l in
      let first = cond (is_caller q (caller a)) (orphaned a) a in
      let same : mine first ≡ mine a =
      cond_both (is_caller q (caller a)) (orphaned a) a (λ b. mine b ≡ mine a)
      (λ e. ap (is_caller p) (none a) ∙ sym (another_caller p q (caller a) n e)) (λ _. refl) in
      subst (λ t. ((t || has_one caller p l2) ≡ true) × (cond t 0 (suc (before caller p l2)) ≤ before caller p (a ∷ l))) (sym same)
      (grown (mine a) (has_one caller p l) (has_one caller p l2) (before caller p l) (before caller p l2) (λ k. stays_others q l n k) h)

  -- The first k are served: p's is among them, or that many fewer are before it.
  pub served_or_nearer : (k : ℕ) (l : List A) → has_one caller p l ≡ true
      → (before caller p l < k) ⊎ ((has_one caller p (drop k l) ≡ true) × (before caller p (drop k l) + k ≡ before caller p l))
  served_or_nearer zero l h = inr (h, omega arith)
  served_or_nearer (suc k) [] h = absurd (true≢false (sym h))
  served_or_nearer (suc k) (b ∷ l) h =
      passed (mine b) (has_one caller p l) (has_one caller p (drop k l)) k (before caller p l) (before caller p (drop k l))
      (λ g. served_or_nearer k l g) h

  -- Who has a request is among the living callers.
  counted_first : (o : Option ℕ) (x : Bool) (l : List ℕ) → (x ≡ true → 0 < count_in p l) → is_caller p o || x ≡ true
      → 0 < count_in p (living o ++ l)
  counted_first None x l go h = go h
  counted_first (Some q) x l go h =
      cond_both (q == p) (suc (count_in p l)) (count_in p l) (λ n. 0 < n) (λ _. omega arith) (λ e. go (ap (λ b. b || x) (sym e) ∙ h))

  pub has_one_counted : (l : List A) → has_one caller p l ≡ true → 0 < count_in p (callers caller l)
  has_one_counted [] h = absurd (true≢false (sym h))
  has_one_counted (a ∷ l) h = counted_first (caller a) (has_one caller p l) (callers caller l) (λ k. has_one_counted l k) h
