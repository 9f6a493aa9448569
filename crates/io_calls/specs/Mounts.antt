-- The names that a mount leaves.
use Rattle.std.specs.Prelude.{ℕ, List, Option, Some, None}
use Rattle.xinu_model.specs.Names.Mounting.{mounted, NameRow}

-- the rows with one more, if both texts are there and it may be mounted
abbrev pub texts_mounted : Option (List ℕ) → Option (List ℕ) → ℕ → List NameRow → Option (List NameRow)
texts_mounted None replacement dev rows = None
texts_mounted (Some prefix) None dev rows = None
texts_mounted (Some prefix) (Some replacement) dev rows = mounted (record { prefix = prefix; replacement = replacement; device = dev }) rows
