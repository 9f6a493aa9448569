-- The addresses near null, and whether an image lies there.
use Rattle.std.specs.Prelude.{ℕ, nat_lt, Bool, false, ◌&&◌, List, Option, None, Some}
use Rattle.std.specs.List.{list_any}
use Rattle.elf_loader.specs.LoadedFiles.{loads}
use Rattle.xinu_model.specs.Boot.{Loaded, LoadedPart}

-- whether an address is one of the first 16 of RAM
abbrev pub is_near_null : ℕ → Bool
is_near_null a = nat_lt a 16

-- whether a part of an image has one of these addresses
abbrev pub part_near_null : LoadedPart → Bool
part_near_null part = is_near_null part.place && nat_lt 0 part.size

-- whether a part of what a file loads has one of them; a file that doesn't load has no parts
abbrev pub loaded_near_null : Option Loaded → Bool
loaded_near_null None = false
loaded_near_null (Some image) = list_any part_near_null image.parts

-- whether an image in these files lies near null
abbrev pub lie_near_null : List (List ℕ) → Bool
lie_near_null files = list_any (λ bytes. loaded_near_null (loads bytes)) files
