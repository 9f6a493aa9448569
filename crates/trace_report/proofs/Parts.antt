-- A text after parts were appended to it.
use Rattle.std.proofs.Common.{◌≡◌, ◌∙◌, ℕ, List, ◌++◌, append_assoc, ap, subst}
use Rattle.std.specs.Prelude.{Result, OnOk}

-- three parts, the last of them if memory didn't run out
pub three_parts : {T E : Type 0} (ended : Result T E) (old one two new a b c : List ℕ) → one ≡ old ++ a → two ≡ one ++ b → OnOk ended (new ≡ two ++ c)
    → OnOk ended (new ≡ old ++ (a ++ b ++ c))
three_parts ended old one two new a b c first second third =
    let joined : two ++ c ≡ old ++ (a ++ b ++ c) =
    ap (λ (t : List ℕ). t ++ c) (second ∙ ap (λ (t : List ℕ). t ++ b) first ∙ append_assoc old a b) ∙ append_assoc old (a ++ b) c in
    subst (λ (t : List ℕ). OnOk ended (new ≡ t)) joined third
