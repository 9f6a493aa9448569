-- In which function, or in which variable, an address is.
use Rattle.std.specs.Prelude.{ℕ, ◌-◌, ◌/◌, ◌==◌, nat_lt, Bool, ◌&&◌, if◌then◌else◌, List, Option, Some, None, option_map}
use Rattle.elf_symbols.specs.Sections.{has_sections, section_table, section_count, section_numbered, is_in_file, symbols_among}
use Rattle.elf_symbols.specs.Symbols.{symbols_from, section_bytes, name_at, is_sought, nearest}
use Rattle.elf_symbols.specs.declared.sections.Section.{Section}
use Rattle.elf_symbols.specs.declared.symbols.Symbol.{Symbol}
use Rattle.elf_symbols.specs.declared.symbols.Sought.{Sought}
use Rattle.elf_symbols.specs.declared.symbols.Sought.TheVariants.{Function, Variable}

-- a place in a function or a variable: its name, and how far the place is from its beginning
pub record Place : Type 0 where
  pub name : List ℕ
  pub offset : ℕ

-- The section has symbols of 16 bytes that lie in the file, and its strings do too.
unfoldable pub has_symbols : List ℕ → Section → Bool
has_symbols bytes s =
    (s.entry_size == 16) && is_in_file bytes s && nat_lt s.link (section_count bytes)
    && ((section_numbered bytes s.link).kind == 3) && is_in_file bytes (section_numbered bytes s.link)

-- the strings of a section of symbols
abbrev pub strings_of : List ℕ → Section → List ℕ
strings_of bytes s = section_bytes bytes (section_numbered bytes s.link)

-- the place of an address after a symbol
abbrev pub place_after : List ℕ → ℕ → Symbol → Place
place_after strings address symbol = record { name = name_at strings symbol.name; offset = address - symbol.value }

-- the place of an address, by the symbols of a section
abbrev pub place_in : Sought → List ℕ → ℕ → Section → Option Place
place_in sought bytes address s =
    option_map (place_after (strings_of bytes s) address)
    (nearest (is_sought sought bytes (strings_of bytes s) address) address (symbols_from bytes s.offset (s.size / 16)))

-- the place of an address, by the section of symbols if there is one
abbrev pub place_by : Sought → List ℕ → ℕ → Option Section → Option Place
place_by sought bytes address None = None
place_by sought bytes address (Some s) = if has_symbols bytes s then place_in sought bytes address s else None

-- the place of an address in a file, after what is looked for
abbrev pub place_at : Sought → List ℕ → ℕ → Option Place
place_at sought bytes address =
    if has_sections bytes then place_by sought bytes address (symbols_among bytes (section_table bytes) (section_count bytes)) else None

-- The place of an address in a file: after the function with the greatest address that isn't above it. There is none if the bytes
-- aren't an ELF file for the machine, have no symbols, or have tables that don't lie in the file.
abbrev pub function_at : List ℕ → ℕ → Option Place
function_at bytes address = place_at Function bytes address

-- The place of an address in the variable that has the byte there: of several the one with the greatest address. There is none as above.
abbrev pub variable_at : List ℕ → ℕ → Option Place
variable_at bytes address = place_at Variable bytes address
