-- The file that is written is read back: its headers, its note, its content.
use Rattle.std.proofs.Common.{◌≡◌, ◌<◌, ◌+◌, ◌^◌, ◌++◌, ◌∷◌, ◌∙◌, ℕ, List, [], length, ap, Some, arith}
use Rattle.std.proofs.lemmas.List.{take_all}
use Rattle.byteorder.specs.Endian.{little_bytes}
use Rattle.byteorder.specs.Numbers.{little_number-reads_back}
use Rattle.elf_loader.specs.declared.header.ElfHeader.{ElfHeader}
use Rattle.elf_loader.specs.declared.segments.Segment.{Segment}
use Rattle.elf_loader.specs.ElfHeaders.{elf_header_of, segments_from, segment_bytes}
use Rattle.elf_loader.specs.Notes.{settings_of}
use Rattle.elf_loader.specs.WrittenElf.{written_front}
use Rattle.xinu_model.specs.Memory.{number_at}

-- the file of a content
abbrev pub written : ℕ → ℕ → ℕ → ℕ → List ℕ → List ℕ
written place entry n stack content = written_front place (length content) entry n stack ++ content

-- the header that is read of it
abbrev pub header_with : ℕ → ElfHeader
header_with entry = record {
  class = 1;
  encoding = 1;
  version = 1;
  kind = 2;
  machine = 243;
  entry = entry;
  table = 52;
  size = 32;
  count = 2;
}

-- the segment of the content
abbrev pub content_segment : ℕ → ℕ → Segment
content_segment place size = record { kind = 1; offset = 144; place = place; file_size = size; memory_size = size }

-- the segment of the note
abbrev pub note_segment : Segment
note_segment = record { kind = 4; offset = 116; place = 0; file_size = 28; memory_size = 28 }

-- a word is read as it was written
pub read_word : (x : ℕ) → x < 2 ^ 32 → number_at (little_bytes 4 x) 0 4 ≡ x
read_word x fits = little_number-reads_back 4 x [] fits

pub written_length : (place entry n stack : ℕ) (content : List ℕ) → length (written place entry n stack content) ≡ 144 + length content
written_length place entry n stack content = omega arith

pub written_header_is : (place entry n stack : ℕ) (content : List ℕ) → entry < 2 ^ 32
    → elf_header_of (written place entry n stack content) ≡ header_with entry
written_header_is place entry n stack content fits = ap header_with (read_word entry fits)

pub written_segments_are : (place entry n stack : ℕ) (content : List ℕ) → place < 2 ^ 32 → length content < 2 ^ 32
    → segments_from (written place entry n stack content) 52 2 ≡ content_segment place (length content) ∷ note_segment ∷ []
written_segments_are place entry n stack content place_fits size_fits =
    ap (λ p. content_segment p (number_at (little_bytes 4 (length content)) 0 4) ∷ note_segment ∷ []) (read_word place place_fits)
    ∙ ap (λ s. content_segment place s ∷ note_segment ∷ []) (read_word (length content) size_fits)

pub written_content : (place entry n stack : ℕ) (content : List ℕ)
    → segment_bytes (written place entry n stack content) (content_segment place (length content)) ≡ content
written_content place entry n stack content = take_all (length content) content (omega arith)

pub written_settings : (place entry n stack : ℕ) (content : List ℕ) → n < 2 ^ 32 → stack < 2 ^ 32
    → settings_of (segment_bytes (written place entry n stack content) note_segment) ≡ Some (record { priority = n; stack = stack })
unfolding settings_of
written_settings place entry n stack content n_fits stack_fits =
    ap (λ (p : ℕ). Some (record { priority = p; stack = number_at (little_bytes 4 stack) 0 4 })) (read_word n n_fits)
    ∙ ap (λ (s : ℕ). Some (record { priority = n; stack = s })) (read_word stack stack_fits)
