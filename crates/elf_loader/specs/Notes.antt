-- The note of an ELF file that gives a program's priority and stack (System V Application Binary Interface, chapter 5, "Note Section").
use Rattle.std.specs.Prelude.{ℕ, ◌+◌, ◌*◌, ◌/◌, ◌==◌, nat_le, Bool, if◌then◌else◌, ◌&&◌, zero, suc, List, [], ◌∷◌, length, take, drop}
use Rattle.std.specs.Prelude.{Option, Some, None, codes, bytes_eq}
use Rattle.elf_loader.specs.declared.notes.Settings.{Settings}
use Rattle.elf_loader.specs.declared.segments.Segment.{Segment}
use Rattle.elf_loader.specs.ElfHeaders.{is_in_file, segment_bytes}
use Rattle.xinu_model.specs.Memory.{number_at}

-- the lowest multiple of 4 that isn't below n
abbrev pub padded_to_4 : ℕ → ℕ
padded_to_4 n = 4 * ((n + 3) / 4)

-- how many bytes the note has with which the bytes begin: three words, the name and the description, each padded
abbrev pub note_length : List ℕ → ℕ
note_length bytes = 12 + padded_to_4 (number_at bytes 0 4) + padded_to_4 (number_at bytes 4 4)

-- The bytes begin with a whole note.
abbrev pub has_note : List ℕ → Bool
has_note bytes = nat_le 12 (length bytes) && nat_le (note_length bytes) (length bytes)

-- The note is of type 1, is named `XINU` and describes two words.
abbrev pub is_xinu_note : List ℕ → Bool
is_xinu_note bytes =
    (number_at bytes 0 4 == 5)
    && ((number_at bytes 4 4 == 8) && ((number_at bytes 8 4 == 1) && bytes_eq (take 5 (drop 12 bytes)) (codes "XINU\0")))

-- the priority and the stack that the note gives
abbrev pub settings_at : List ℕ → Settings
settings_at bytes = record { priority = number_at bytes 20 4; stack = number_at bytes 24 4 }

-- what the first such note among the first n of these bytes gives
abbrev pub settings_within : ℕ → List ℕ → Option Settings
settings_within zero bytes = None
settings_within (suc n) bytes =
    if has_note bytes then (if is_xinu_note bytes then Some (settings_at bytes) else settings_within n (drop (note_length bytes) bytes))
    else None

-- what the first such note of these bytes gives; each note has at least one byte, so there are no more notes than bytes
unfoldable pub settings_of : List ℕ → Option Settings
settings_of bytes = settings_within (length bytes) bytes

-- A segment of notes that lies in the file.
abbrev pub is_notes : List ℕ → Segment → Bool
is_notes bytes s = (s.kind == 4) && is_in_file bytes s.offset s.file_size

-- the settings if there are some, or else others
abbrev pub settings_or : Option Settings → Option Settings → Option Settings
settings_or (Some settings) others = Some settings
settings_or None others = others

-- what the first such note of the segments of notes gives
abbrev pub settings_in : List ℕ → List Segment → Option Settings
settings_in bytes [] = None
settings_in bytes (s ∷ segments) =
    if is_notes bytes s then settings_or (settings_of (segment_bytes bytes s)) (settings_in bytes segments) else settings_in bytes segments

-- the priority and the stack of a program without such a note
abbrev pub usual_settings : Settings
usual_settings = record { priority = 20; stack = 4096 }

-- the priority and the stack of a program
abbrev pub settings_or_usual : Option Settings → Settings
settings_or_usual (Some settings) = settings
settings_or_usual None = usual_settings
