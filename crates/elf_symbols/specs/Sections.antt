-- The sections of an ELF file of 32 bits (System V Application Binary Interface, chapter 4, "Sections").
use Rattle.std.specs.Prelude.{ℕ, ◌+◌, ◌*◌, ◌==◌, nat_le, Bool, ◌&&◌, zero, suc, if◌then◌else◌, List, ◌∷◌, length, take, Option, Some, None, codes, slice_index, bytes_eq}
use Rattle.elf_symbols.specs.declared.sections.Section.{Section}
use Rattle.xinu_model.specs.Memory.{number_at}

-- The bytes begin like an ELF file of 32 bits, the lowest byte first, for RISC-V.
abbrev pub is_for_machine : List ℕ → Bool
is_for_machine bytes =
    bytes_eq (take 4 bytes) (127 ∷ codes "ELF") && (slice_index bytes 4 == 1) && (slice_index bytes 5 == 1) && (number_at bytes 18 2 == 243)

-- where the headers of the sections begin
abbrev pub section_table : List ℕ → ℕ
section_table bytes = number_at bytes 32 4

-- how many sections there are
abbrev pub section_count : List ℕ → ℕ
section_count bytes = number_at bytes 48 2

-- The bytes are such a file, and the headers of its sections have 40 bytes each and lie in the file.
unfoldable pub has_sections : List ℕ → Bool
has_sections bytes =
    nat_le 52 (length bytes) && is_for_machine bytes && (number_at bytes 46 2 == 40)
    && nat_le (section_table bytes + 40 * section_count bytes) (length bytes)

-- the section whose header is at a place
abbrev pub section_at : List ℕ → ℕ → Section
section_at bytes at = record {
  kind = number_at bytes (at + 4) 4;
  flags = number_at bytes (at + 8) 4;
  offset = number_at bytes (at + 16) 4;
  size = number_at bytes (at + 20) 4;
  link = number_at bytes (at + 24) 4;
  entry_size = number_at bytes (at + 36) 4;
}

-- the section of a number
abbrev pub section_numbered : List ℕ → ℕ → Section
section_numbered bytes n = section_at bytes (section_table bytes + 40 * n)

-- The bytes of a section lie in the file.
abbrev pub is_in_file : List ℕ → Section → Bool
is_in_file bytes s = nat_le (s.offset + s.size) (length bytes)

-- the first section of symbols among n whose headers are at a place, one after another
abbrev pub symbols_among : List ℕ → ℕ → ℕ → Option Section
symbols_among bytes at zero = None
symbols_among bytes at (suc n) =
    if (section_at bytes at).kind == 2 then Some (section_at bytes at) else symbols_among bytes (at + 40) n
