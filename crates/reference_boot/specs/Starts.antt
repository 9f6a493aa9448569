-- How a start is refused.
use Rattle.std.specs.Prelude.{◌≡◌}
use Rattle.reference_boot.specs.declared.boot.NoStart.{NoStart}
use Rattle.reference_boot.specs.declared.boot.NoStart.TheVariants as no
use Rattle.xinu_model.specs.Boot.{NoRoom, Overlaps, Start}

-- a refusal other than out of memory is that of the start
abbrev pub RefusesAs : Start → NoStart → Type 0
RefusesAs s (no.Overlaps i) = s ≡ Overlaps i
RefusesAs s (no.NoRoom i) = s ≡ NoRoom i
RefusesAs s no.NoMemory = Unit {0}
