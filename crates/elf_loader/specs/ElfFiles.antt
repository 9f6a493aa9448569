-- ELF files: the tests of a file in their order, the first that fails, and what a file loads.
use Rattle.std.specs.Prelude.{ℕ, ◌+◌, ◌*◌, ◌%◌, ◌==◌, nat_le, Bool, if◌then◌else◌, ◌&&◌, ◌||◌, not, List, [], ◌∷◌, length, filter, Option}
use Rattle.std.specs.Prelude.{Some, None, pos}
use Rattle.std.specs.List.{list_all, list_any}
use Rattle.elf_loader.specs.declared.faults.ElfFault.{ElfFault}
use Rattle.elf_loader.specs.declared.faults.ElfFault.TheVariants.{Short, Class, Kind, Headers, Dynamic, Segment as SegmentFault, TooMany}
use Rattle.elf_loader.specs.declared.faults.ElfFault.TheVariants.{Meet, Entry, Note}
use Rattle.elf_loader.specs.declared.header.ElfHeader.{ElfHeader}
use Rattle.elf_loader.specs.declared.notes.Settings.{Settings}
use Rattle.elf_loader.specs.declared.segments.Segment.{Segment}
use Rattle.elf_loader.specs.ElfHeaders.{elf_header_of, segments_from, is_load, is_dynamic, fits_memory, loaded_segments}
use Rattle.elf_loader.specs.Notes.{settings_in, settings_or_usual}
use Rattle.image_loader.specs.Parts.{are_apart, holds_word}
use Rattle.xinu_model.specs.Boot.{Loaded, LoadedPart}

-- There are the bytes of a header.
abbrev pub has_elf_header : List ℕ → Bool
has_elf_header bytes = nat_le 52 (length bytes)

-- The file has words of 32 bits, the lowest byte first, in version 1.
abbrev pub is_of_class : ElfHeader → Bool
is_of_class h = (h.class == 1) && ((h.encoding == 1) && (h.version == 1))

-- The file is a program for RISC-V.
abbrev pub is_of_kind : ElfHeader → Bool
is_of_kind h = (h.kind == 2) && (h.machine == 243)

-- The headers of the segments have 32 bytes each and lie in the file, unless there are none.
abbrev pub has_segments : List ℕ → ElfHeader → Bool
has_segments bytes h = (h.count == 0) || ((h.size == 32) && nat_le (h.table + 32 * h.count) (length bytes))

-- The entry is a multiple of 4, and its four bytes are bytes of one part.
abbrev pub is_entry : ℕ → List LoadedPart → Bool
is_entry entry parts = (entry % 4 == 0) && list_any (holds_word entry) parts

-- A process can have the priority.
abbrev pub is_priority : ℕ → Bool
is_priority n = nat_le 1 n && nat_le n 32767

-- the segments of a file
abbrev pub segments_of : List ℕ → List Segment
segments_of bytes = let h = elf_header_of bytes in segments_from bytes h.table h.count

-- the parts that a file loads
abbrev pub parts_of : List ℕ → List LoadedPart
parts_of bytes = loaded_segments bytes (segments_of bytes)

-- the priority and the stack of a file
abbrev pub file_settings : List ℕ → Settings
file_settings bytes = settings_or_usual (settings_in bytes (segments_of bytes))

-- the tests of a file's header, each beside the fault if it fails
abbrev pub header_checks : List ℕ → List (ElfFault × Bool)
header_checks bytes =
    let h = elf_header_of bytes in
    (Class, is_of_class h) ∷ (Kind, is_of_kind h) ∷ (Headers, has_segments bytes h) ∷ []

-- the tests of a file's segments
abbrev pub segment_checks : List ℕ → List Segment → List (ElfFault × Bool)
segment_checks bytes segments =
    (Dynamic, not (list_any is_dynamic segments))
    ∷ (SegmentFault, list_all (fits_memory bytes) (filter is_load segments))
    ∷ (TooMany, nat_le (length (filter is_load segments)) 8)
    ∷ []

-- the tests of what is loaded
abbrev pub image_checks : ℕ → List LoadedPart → Settings → List (ElfFault × Bool)
image_checks entry parts settings =
    (Meet, are_apart parts) ∷ (Entry, is_entry entry parts) ∷ (Note, is_priority settings.priority) ∷ []

-- the fault of the first test that fails
abbrev pub first_failing : List (ElfFault × Bool) → Option ElfFault
first_failing [] = None
first_failing (check ∷ checks) = if check.1 then first_failing checks else Some check.0

-- a fault, or else one that is found later
abbrev pub or_later : Option ElfFault → Option ElfFault → Option ElfFault
or_later (Some fault) later = Some fault
or_later None later = later

-- the fault of what is loaded
unfoldable pub image_fault_of : List ℕ → Option ElfFault
image_fault_of bytes = first_failing (image_checks (elf_header_of bytes).entry (parts_of bytes) (file_settings bytes))

-- the fault of the segments and of what is loaded
unfoldable pub segments_fault : List ℕ → Option ElfFault
segments_fault bytes = or_later (first_failing (segment_checks bytes (segments_of bytes))) (image_fault_of bytes)

-- the fault of a file; None if it is an ELF file that loads
abbrev pub elf_fault : List ℕ → Option ElfFault
elf_fault bytes =
    if has_elf_header bytes then or_later (first_failing (header_checks bytes)) (segments_fault bytes) else Some Short

-- what a file loads if it has no fault
abbrev pub elf_loaded : List ℕ → Loaded
elf_loaded bytes = record {
  parts = parts_of bytes;
  entry = (elf_header_of bytes).entry;
  priority = pos (file_settings bytes).priority;
  stack = (file_settings bytes).stack;
}

-- what is loaded if there is no fault
abbrev pub loaded_unless_fault : Option ElfFault → Loaded → Option Loaded
loaded_unless_fault None image = Some image
loaded_unless_fault (Some fault) image = None

-- what a file loads; None if it has a fault
abbrev pub elf_image : List ℕ → Option Loaded
elf_image bytes = loaded_unless_fault (elf_fault bytes) (elf_loaded bytes)
