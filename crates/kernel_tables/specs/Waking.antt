-- Whether a tick woke anybody.
use Rattle.std.specs.Prelude.{ℕ, Bool, true, false, List, [], ◌∷◌}

-- whether there are any of these
abbrev pub are_any : List ℕ → Bool
are_any [] = false
are_any (p ∷ ps) = true
