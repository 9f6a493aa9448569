-- What is known of what the events of a run print: of each of the first ones what it printed.
use Rattle.std.specs.Prelude.{◌≡◌, ℕ, List, [], get_or, length, take}
use Rattle.std.specs.List.{concat}

-- what the event after n others printed
abbrev pub text_at : List (List ℕ) → ℕ → List ℕ
text_at told n = get_or told n []

-- what the first n events printed
abbrev pub text_of_first : List (List ℕ) → ℕ → List ℕ
text_of_first told n = concat (take n told)

-- More may be known, and nothing of what was known has changed.
pub record Grows (old new : List (List ℕ)) : Type 0 where
  pub same : take (length old) new ≡ old
