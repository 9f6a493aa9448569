-- The parts of a line, one after another.
use Rattle.std.proofs.Common.{◌≡◌, ◌∙◌, ◌++◌, ℕ, List, ap, append_assoc}
use Rattle.std.specs.Fmt.{decimal}
use Rattle.std.specs.Prelude.{codes}
use Rattle.prove_command.specs.FirstLine.{always_text, lock_text}

pub locked : (old first second third : List ℕ) (sem : ℕ) → first ≡ old ++ codes " whenever lock " → second ≡ first ++ decimal sem
    → third ≡ second ++ always_text → third ≡ old ++ lock_text sem
unfolding lock_text
locked old first second third sem a b c =
    c ∙ ap (λ t. t ++ always_text) (b ∙ ap (λ t. t ++ decimal sem) a ∙ append_assoc old (codes " whenever lock ") (decimal sem))
    ∙ append_assoc old (codes " whenever lock " ++ decimal sem) always_text
