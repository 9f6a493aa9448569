-- A list is empty if and only if its length is 0.
use Rattle.std.proofs.Common.{◌≡◌, ℕ, suc, ◌==◌, List, [], ◌∷◌, length, refl}
use Rattle.std.proofs.lemmas.Bool.{ne_eqb}
use Rattle.refusal_reasons.specs.Later.{is_empty}

pub empty_by_length : (l : List ℕ) → (length l == 0) ≡ is_empty l
empty_by_length [] = refl
empty_by_length (x ∷ l) = ne_eqb (suc (length l)) 0 (λ e. absurd (cc))
