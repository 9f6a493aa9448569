-- The ELF file of an image of one part: the file's header, a loaded segment, a segment of one note, the note, and the content.
use Rattle.std.specs.Prelude.{◌≡◌, ℕ, List, [], ◌∷◌, ◌++◌, length}
use Rattle.byteorder.specs.Endian.{little_bytes}
use Rattle.xinu_model.specs.Boot.{Loaded, LoadedPart}
use Rattle.xinu_model.specs.Words.{word}

-- words, one after another, each with its lowest byte first
abbrev pub words_bytes : List ℕ → List ℕ
words_bytes [] = []
words_bytes (n ∷ ns) = little_bytes 4 n ++ words_bytes ns

-- the letters of an ELF file; words of 32 bits, the lowest byte first, in version 1; a program for RISC-V
abbrev pub written_ident : List ℕ
written_ident = 127 ∷ 69 ∷ 76 ∷ 70 ∷ 1 ∷ 1 ∷ 1 ∷ 0 ∷ 0 ∷ 0 ∷ 0 ∷ 0 ∷ 0 ∷ 0 ∷ 0 ∷ 0 ∷ 2 ∷ 0 ∷ 243 ∷ 0 ∷ []

-- the sizes: 52 bytes of this header, and two headers of segments of 32 bytes; no sections
abbrev pub written_sizes : List ℕ
written_sizes = 52 ∷ 0 ∷ 32 ∷ 0 ∷ 2 ∷ 0 ∷ 0 ∷ 0 ∷ 0 ∷ 0 ∷ 0 ∷ 0 ∷ []

-- the file's header: the version, this entry, and the headers of the segments right after it
abbrev pub written_header : ℕ → List ℕ
written_header entry = written_ident ++ words_bytes (1 ∷ entry ∷ 52 ∷ 0 ∷ 0 ∷ []) ++ written_sizes

-- the header of the content's segment: where it is in the file, its addresses and its size
abbrev pub written_load : ℕ → ℕ → List ℕ
written_load place size = words_bytes (1 ∷ 144 ∷ place ∷ place ∷ size ∷ size ∷ 7 ∷ 1 ∷ [])

-- the header of the note's segment
abbrev pub written_notes : List ℕ
written_notes = words_bytes (4 ∷ 116 ∷ 0 ∷ 0 ∷ 28 ∷ 28 ∷ 4 ∷ 4 ∷ [])

-- the headers of both segments
abbrev pub written_segments : ℕ → ℕ → List ℕ
written_segments place size = written_load place size ++ written_notes

-- the name of the note, `XINU`, with zeros up to eight bytes
abbrev pub written_name : List ℕ
written_name = 88 ∷ 73 ∷ 78 ∷ 85 ∷ 0 ∷ 0 ∷ 0 ∷ 0 ∷ []

-- the note, which gives the priority and the stack
abbrev pub written_note : ℕ → ℕ → List ℕ
written_note priority stack = words_bytes (5 ∷ 8 ∷ 1 ∷ []) ++ written_name ++ words_bytes (priority ∷ stack ∷ [])

-- everything ahead of the content
abbrev pub written_front : ℕ → ℕ → ℕ → ℕ → ℕ → List ℕ
written_front place size entry priority stack =
    written_header entry ++ written_segments place size ++ written_note priority stack

-- the part of an image of one part
abbrev pub only_part : List LoadedPart → LoadedPart
only_part [] = record { place = 0; bytes = []; size = 0 }
only_part (part ∷ parts) = part

-- The image has one part, and its content has the part's size.
pub record IsWholeImage (image : Loaded) : Type 0 where
  pub one : image.parts ≡ only_part image.parts ∷ []
  pub size : (only_part image.parts).size ≡ length (only_part image.parts).bytes

-- the file of an image of one part, whose content has the part's size
abbrev pub elf_file : Loaded → List ℕ
elf_file image =
    let part = only_part image.parts in
    written_front part.place part.size image.entry (word image.priority) image.stack ++ part.bytes
