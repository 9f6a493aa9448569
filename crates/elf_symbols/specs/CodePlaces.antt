-- The places of the code.
use Rattle.std.specs.Prelude.{Option, Some, None}
use Rattle.elf_symbols.specs.Functions as spec
use Rattle.elf_symbols.specs.declared.functions.Place.{Place}

-- the place that the code has found
abbrev pub seen_place : Option Place → Option spec.Place
seen_place None = None
seen_place (Some place) = Some (record { name = place.name.now; offset = place.offset })
