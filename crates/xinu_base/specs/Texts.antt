-- Texts that end before their first zero byte, as those of C.
use Rattle.std.specs.Prelude.{ℕ, zero, suc, List, [], ◌∷◌}

-- The bytes before the first zero.
abbrev pub before_zero : List ℕ → List ℕ
before_zero [] = []
before_zero (zero ∷ bytes) = []
before_zero (suc b ∷ bytes) = suc b ∷ before_zero bytes
