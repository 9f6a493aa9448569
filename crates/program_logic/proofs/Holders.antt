-- Who has the token.
use Rattle.std.proofs.Common.{None, Option, Some, false, refl, sym, true, ℕ, ◌∙◌, ◌≡◌, ◌≢◌}
use Rattle.std.proofs.lemmas.Bool.{eq-eqb, eqb-true, ne_eqb}
use Rattle.program_logic.specs.Outlines.{has, tokens_for}

pub has_it : (p : ℕ) → has (Some p) p ≡ true
has_it p = eq-eqb p p refl

pub has_other : (holder : Option ℕ) (p q : ℕ) → has holder p ≡ true → q ≢ p → has holder q ≡ false
has_other None p q is other = absurd (cc)
has_other (Some z) p q is other = let same = eqb-true z p is in ne_eqb z q (λ e. other (sym e ∙ same))

pub has_none : (holder : Option ℕ) (p : ℕ) → has holder p ≡ true → tokens_for holder ≡ 0
has_none None p is = absurd (cc)
has_none (Some z) p is = refl
