-- Searches among the waiters of semaphores and the sleepers, one step after another.
use Rattle.std.proofs.Common.{ℕ, ◌≡◌, ◌∙◌, ◌+◌, ◌==◌, suc, true, false, List, ◌∷◌, Some, None, refl, ap}
use Rattle.process_waits.specs.Waiting.{awaited_from, is_among, waits_on, wake_in}
use Rattle.xinu_model.specs.Tables.{Tables}

-- the next waiter is another process
pub among_next : (p q : ℕ) (all rest left : List ℕ) → rest ≡ q ∷ left → (q == p) ≡ false → is_among p all ≡ is_among p rest
    → is_among p all ≡ is_among p left
among_next p q all rest left e other so = so ∙ ap (λ l. is_among p l) e ∙ rw other refl

-- the next waiter is the process
pub among_here : (p q : ℕ) (all rest left : List ℕ) → rest ≡ q ∷ left → (q == p) ≡ true → is_among p all ≡ is_among p rest
    → is_among p all ≡ true
among_here p q all rest left e same so = so ∙ ap (λ l. is_among p l) e ∙ rw same refl

-- the next sleeper is another process
pub wake_next : (p : ℕ) (x : ℕ × ℕ) (all rest left : List (ℕ × ℕ)) → rest ≡ x ∷ left → (x.0 == p) ≡ false → wake_in p all ≡ wake_in p rest
    → wake_in p all ≡ wake_in p left
wake_next p x all rest left e other so = so ∙ ap (λ l. wake_in p l) e ∙ rw other refl

-- the next sleeper is the process
pub wake_here : (p : ℕ) (x : ℕ × ℕ) (all rest left : List (ℕ × ℕ)) → rest ≡ x ∷ left → (x.0 == p) ≡ true → wake_in p all ≡ wake_in p rest
    → wake_in p all ≡ Some x.1
wake_here p x all rest left e same so = so ∙ ap (λ l. wake_in p l) e ∙ rw same refl

-- the process doesn't wait on a semaphore
pub awaited_next : (t : Tables) (p n left less : ℕ) → left ≡ suc less → waits_on t n p ≡ false → awaited_from t p n left ≡ awaited_from t p (n + 1) less
unfolding awaited_from
awaited_next t p n left less e other = rw e (rw other refl)

-- the process waits on a semaphore
pub awaited_here : (t : Tables) (p n left less : ℕ) → left ≡ suc less → waits_on t n p ≡ true → awaited_from t p n left ≡ Some n
unfolding awaited_from
awaited_here t p n left less e same = rw e (rw same refl)

-- no semaphore is left
pub awaited_end : (t : Tables) (p n left : ℕ) → left ≡ 0 → awaited_from t p n left ≡ None
unfolding awaited_from
awaited_end t p n left e = rw e refl
