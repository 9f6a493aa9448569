-- Characters that are typed one after another.
use Rattle.std.specs.Prelude.{ℕ, List, [], ◌∷◌}
use Rattle.xinu_model.specs.Console.Receiving.{received}
use Rattle.xinu_model.specs.Console.State.{Console}

-- the console after these characters
abbrev pub typing : List ℕ → Console → Console
typing [] c = c
typing (b ∷ bytes) c = typing bytes (received b c).console
