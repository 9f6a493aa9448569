-- Whether the machine starts.
use Rattle.std.specs.Prelude.{Bool, false, true}
use Rattle.xinu_model.specs.Boot.{Boots, Start}

-- whether the images start
abbrev pub has_started : Start → Bool
has_started (Boots s) = true
has_started _ = false
