-- The symbols of an ELF file of 32 bits (System V Application Binary Interface, chapter 4, "Symbol Table" and "String Table").
use Rattle.std.specs.Prelude.{ℕ, ◌+◌, ◌/◌, ◌%◌, ◌==◌, nat_le, nat_lt, Bool, false, not, ◌&&◌, ◌||◌, zero, suc, if◌then◌else◌, List, [], ◌∷◌, take, drop, take_while, Option, Some, None, slice_index}
use Rattle.elf_symbols.specs.Sections.{section_count, section_numbered}
use Rattle.elf_symbols.specs.declared.sections.Section.{Section}
use Rattle.elf_symbols.specs.declared.symbols.Symbol.{Symbol}
use Rattle.elf_symbols.specs.declared.symbols.Sought.{Sought}
use Rattle.elf_symbols.specs.declared.symbols.Sought.TheVariants.{Function, Variable}
use Rattle.xinu_model.specs.Memory.{number_at}

-- the symbol that is at a place
abbrev pub symbol_at : List ℕ → ℕ → Symbol
symbol_at bytes at = record {
  name = number_at bytes at 4;
  value = number_at bytes (at + 4) 4;
  size = number_at bytes (at + 8) 4;
  info = slice_index bytes (at + 12);
  section = number_at bytes (at + 14) 2;
}

-- n symbols that are at a place, one after another
abbrev pub symbols_from : List ℕ → ℕ → ℕ → List Symbol
symbols_from bytes at zero = []
symbols_from bytes at (suc n) = symbol_at bytes at ∷ symbols_from bytes (at + 16) n

-- the bytes of a section
abbrev pub section_bytes : List ℕ → Section → List ℕ
section_bytes bytes s = take s.size (drop s.offset bytes)

-- the name that begins at a place among strings, each of which ends with a zero
abbrev pub name_at : List ℕ → ℕ → List ℕ
name_at strings at = take_while (λ b. not (b == 0)) (drop at strings)

-- A name that a program gives: it isn't empty, and doesn't begin with the `$` or the `.` of names that tools make.
abbrev pub is_given : List ℕ → Bool
is_given [] = false
is_given (b ∷ name) = not ((b == 36) || (b == 46))

-- The section of a number has instructions.
unfoldable pub has_code : List ℕ → ℕ → Bool
has_code bytes n = nat_lt n (section_count bytes) && ((section_numbered bytes n).flags / 4 % 2 == 1)

-- The symbol is a function, or a label without a type, of a section with instructions, and a program gives its name.
abbrev pub is_function : List ℕ → List ℕ → Symbol → Bool
is_function bytes strings s =
    ((s.info % 16 == 2) || (s.info % 16 == 0)) && has_code bytes s.section && is_given (name_at strings s.name)

-- The symbol is a variable that ends after an address, and a program gives its name.
abbrev pub is_variable : List ℕ → ℕ → Symbol → Bool
is_variable strings address s = (s.info % 16 == 1) && nat_lt address (s.value + s.size) && is_given (name_at strings s.name)

-- The symbol is what is looked for: a function, or a variable that has the byte at an address if it begins before it or there.
abbrev pub is_sought : Sought → List ℕ → List ℕ → ℕ → Symbol → Bool
is_sought Function bytes strings address s = is_function bytes strings s
is_sought Variable bytes strings address s = is_variable strings address s

-- of two symbols the one with the greater address, and the first if they are equal
abbrev pub nearer : Symbol → Option Symbol → Option Symbol
nearer s None = Some s
nearer s (Some t) = if nat_lt s.value t.value then Some t else Some s

-- of the symbols that a test allows, the one with the greatest address that isn't above an address, and the first of equals
abbrev pub nearest : (Symbol → Bool) → ℕ → List Symbol → Option Symbol
nearest test address [] = None
nearest test address (s ∷ symbols) =
    if test s && nat_le s.value address then nearer s (nearest test address symbols) else nearest test address symbols
