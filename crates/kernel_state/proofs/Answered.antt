-- The replies of an event: those of released processes, and then the caller's.
use Rattle.std.proofs.Common.{◌≡◌, ◌∙◌, ℕ, ℤ, List, [], ◌∷◌, ◌++◌, Some, None, refl, sym, ap}
use Rattle.xinu_base.specs.declared.registers.Hart.{Hart}
use Rattle.xinu_model.specs.Machine.{and_callers, Answer, Gone, Panics, Returns, Silent, Waits, with_replies, with_reply}
use Rattle.kernel_state.specs.Results.{value_of}

-- replies after others
pub with_replies-append : (a b : List (ℕ × ℤ)) (harts : List Hart) → with_replies (a ++ b) harts ≡ with_replies b (with_replies a harts)
with_replies-append [] b harts = refl
with_replies-append (r ∷ a) b harts = with_replies-append a b (with_reply harts r)

-- a caller that is answered
pub answered : (a : Answer) (v : ℤ) (c : ℕ) (rs : List (ℕ × ℤ)) (harts : List Hart) → Some v ≡ value_of a → with_reply (with_replies rs harts) (c, v) ≡ with_replies (and_callers a c rs) harts
answered (Returns w) v c rs harts h = let e : v ≡ w = cc in ap (λ w. with_reply (with_replies rs harts) (c, w)) e ∙ sym (with_replies-append rs ((c, w) ∷ []) harts)
answered Waits v c rs harts h = absurd (cc)
answered Gone v c rs harts h = absurd (cc)
answered Panics v c rs harts h = absurd (cc)
answered Silent v c rs harts h = absurd (cc)

-- one that isn't
pub unanswered : (a : Answer) (c : ℕ) (rs : List (ℕ × ℤ)) → None ≡ value_of a → rs ≡ and_callers a c rs
unanswered (Returns w) c rs h = absurd (cc)
unanswered Waits c rs h = refl
unanswered Gone c rs h = refl
unanswered Panics c rs h = refl
unanswered Silent c rs h = refl
