-- Who steps, as a test and as an equation.
use Rattle.std.proofs.Common.{◌≡◌, ◌≢◌, ℕ, true, false, Option, Some, None, inl, inr, refl, sym, ap, subst}
use Rattle.std.proofs.lemmas.Bool.{eq-eqb, eqb-true, false≢true}
use Rattle.std.proofs.lemmas.Bool.Decides.{eqb_tells}
use Rattle.happens_before.specs.Histories.{is_stepper}

pub stepper_is : (o : Option ℕ) (v : ℕ) → is_stepper o v ≡ true → o ≡ Some v
stepper_is None v is = absurd (false≢true is)
stepper_is (Some s) v is = ap Some (eqb-true s v is)

pub is_the_stepper : (o : Option ℕ) (v : ℕ) → o ≡ Some v → is_stepper o v ≡ true
is_the_stepper o v steps = subst (λ p. is_stepper p v ≡ true) (sym steps) (eq-eqb v v refl)

pub is_another : (o : Option ℕ) (v u : ℕ) → o ≡ Some v → u ≢ v → is_stepper o u ≡ false
is_another o v u steps other =
    let of_some : is_stepper (Some v) u ≡ false = elim (eqb_tells v u) [ inl same ↦ absurd (other (sym same.1)) | inr is ↦ is.0 ] in
    subst (λ p. is_stepper p u ≡ false) (sym steps) of_some
