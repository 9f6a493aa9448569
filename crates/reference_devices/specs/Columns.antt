-- How the echo of a character is erased.
use Rattle.std.specs.Prelude.{ℕ, List, [], ◌∷◌}
use Rattle.xinu_model.specs.Console.Constants.{TY_BACKSP, TY_BLANK}

-- one column of the screen, and two
abbrev pub one_column : List ℕ
one_column = TY_BACKSP ∷ TY_BLANK ∷ TY_BACKSP ∷ []

abbrev pub two_columns : List ℕ
two_columns = TY_BACKSP ∷ TY_BLANK ∷ TY_BACKSP ∷ one_column
