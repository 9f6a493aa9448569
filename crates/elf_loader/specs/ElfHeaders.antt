-- The headers of an ELF file: the file's own, and those of its segments (System V Application Binary Interface, chapters 4 and 5).
use Rattle.std.specs.Prelude.{ℕ, ◌+◌, ◌==◌, nat_le, nat_lt, Bool, ◌&&◌, ◌||◌, zero, suc, List, [], ◌∷◌, length, take, drop, filter, map}
use Rattle.std.specs.Prelude.{slice_index}
use Rattle.elf_loader.specs.declared.header.ElfHeader.{ElfHeader}
use Rattle.elf_loader.specs.declared.segments.Segment.{Segment}
use Rattle.xinu_model.specs.Boot.{LoadedPart}
use Rattle.xinu_model.specs.Memory.{number_at, ram_size}

-- the fields of the header with which the bytes begin
abbrev pub elf_header_of : List ℕ → ElfHeader
elf_header_of bytes = record {
  class = slice_index bytes 4;
  encoding = slice_index bytes 5;
  version = slice_index bytes 6;
  kind = number_at bytes 16 2;
  machine = number_at bytes 18 2;
  entry = number_at bytes 24 4;
  table = number_at bytes 28 4;
  size = number_at bytes 42 2;
  count = number_at bytes 44 2;
}

-- the segment whose header is at a place
abbrev pub segment_at : List ℕ → ℕ → Segment
segment_at bytes at = record {
  kind = number_at bytes at 4;
  offset = number_at bytes (at + 4) 4;
  place = number_at bytes (at + 8) 4;
  file_size = number_at bytes (at + 16) 4;
  memory_size = number_at bytes (at + 20) 4;
}

-- n segments whose headers are at a place, one after another
abbrev pub segments_from : List ℕ → ℕ → ℕ → List Segment
segments_from bytes at zero = []
segments_from bytes at (suc n) = segment_at bytes at ∷ segments_from bytes (at + 32) n

-- Some bytes from a place on lie in the file; no bytes always do.
abbrev pub is_in_file : List ℕ → ℕ → ℕ → Bool
is_in_file bytes offset size = (size == 0) || nat_le (offset + size) (length bytes)

-- The segment is loaded: its kind says so, and it has addresses.
abbrev pub is_load : Segment → Bool
is_load s = (s.kind == 1) && nat_lt 0 s.memory_size

-- The segment asks for a program that loads it.
abbrev pub is_dynamic : Segment → Bool
is_dynamic s = s.kind == 3

-- A loaded segment has at most as many bytes as addresses, its bytes lie in the file and its addresses in RAM.
abbrev pub fits_memory : List ℕ → Segment → Bool
fits_memory bytes s =
    nat_le s.file_size s.memory_size && (is_in_file bytes s.offset s.file_size && nat_le (s.place + s.memory_size) ram_size)

-- the bytes of a segment in the file
abbrev pub segment_bytes : List ℕ → Segment → List ℕ
segment_bytes bytes s = take s.file_size (drop s.offset bytes)

-- what a segment loads: its bytes, and zeros up to its size
abbrev pub loaded_segment : List ℕ → Segment → LoadedPart
loaded_segment bytes s = record { place = s.place; bytes = segment_bytes bytes s; size = s.memory_size }

-- the parts that are loaded, in the order of their headers
abbrev pub loaded_segments : List ℕ → List Segment → List LoadedPart
loaded_segments bytes segments = map (loaded_segment bytes) (filter is_load segments)
