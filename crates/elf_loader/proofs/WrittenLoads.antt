-- A file that is read as one segment of content and one note loads the content.
use Rattle.std.proofs.Common.{◌≡◌, ◌<◌, ◌≤◌, ◌+◌, ◌%◌, ◌==◌, ◌∷◌, ◌∙◌, ℕ, pos, nat_le, nat_lt, true, false, List, [], length, refl, ap}
use Rattle.std.proofs.Common.{⊎_elim, Some, None, arith, rules}
use Rattle.std.proofs.lemmas.Bool.{le-leb}
use Rattle.std.proofs.lemmas.Bool.Decides.{eqb_tells}
use Rattle.elf_loader.specs.ElfFiles.{has_segments, is_of_class, is_of_kind, elf_fault, elf_image, elf_loaded, file_settings, first_failing}
use Rattle.elf_loader.specs.ElfFiles.{header_checks, image_checks, image_fault_of, parts_of, segment_checks, segments_fault, segments_of}
use Rattle.elf_loader.specs.ElfHeaders.{elf_header_of, loaded_segments, segment_bytes, segments_from}
use Rattle.elf_loader.specs.Notes.{settings_in, settings_of, settings_or_usual}
use Rattle.elf_loader.proofs.WrittenFiles.{content_segment, header_with, note_segment}
use Rattle.elf_loader.specs.declared.faults.ElfFault.TheVariants.{Class, Kind, Headers}
use Rattle.elf_loader.specs.declared.notes.Settings.{Settings}
use Rattle.xinu_model.specs.Boot.{LoadedPart}
use Rattle.xinu_model.specs.Memory.{ram_size}

-- What is read of the file.
pub record ReadsAsOne (bytes : List ℕ) (place entry n stack : ℕ) (content : List ℕ) : Type 0 where
  pub size : length bytes ≡ 144 + length content
  pub header : elf_header_of bytes ≡ header_with entry
  pub segments : segments_from bytes 52 2 ≡ content_segment place (length content) ∷ note_segment ∷ []
  pub body : segment_bytes bytes (content_segment place (length content)) ≡ content
  pub settings : settings_of (segment_bytes bytes note_segment) ≡ Some (record { priority = n; stack = stack })

-- The content lies in RAM and has the entry's word; the priority is one.
pub record CanLoad (place entry n : ℕ) (content : List ℕ) : Type 0 where
  pub inside : place + length content ≤ ram_size
  pub aligned : entry % 4 ≡ 0
  pub from : place ≤ entry
  pub to : entry + 4 ≤ place + length content
  pub low : 1 ≤ n
  pub high : n ≤ 32767

-- the part that is loaded
abbrev pub content_part : ℕ → List ℕ → LoadedPart
content_part place content = record { place = place; bytes = content; size = length content }

not_zero : (n : ℕ) → 0 < n → (n == 0) ≡ false
not_zero n some = ⊎_elim (λ t. (let e = t.1 in absurd (omega arith))) (λ t. t.0) (eqb_tells n 0)

module _ (bytes : List ℕ) (place entry n stack : ℕ) (content : List ℕ) (w : ReadsAsOne bytes place entry n stack content)
    (f : CanLoad place entry n content) where
  some : nat_lt 0 (length content) ≡ true
  some = le-leb 1 (length content) (let a = f.from in let b = f.to in omega arith)

  segments_are : segments_of bytes ≡ content_segment place (length content) ∷ note_segment ∷ []
  segments_are = ap (λ h. segments_from bytes h.table h.count) w.header ∙ w.segments

  parts_are : parts_of bytes ≡ content_part place content ∷ []
  parts_are = ap (loaded_segments bytes) segments_are ∙ rw (some, w.body) refl

  settings_are : file_settings bytes ≡ record { priority = n; stack = stack }
  settings_are =
      ap (λ s. settings_or_usual (settings_in bytes s)) segments_are
      ∙ (let whole : nat_le 144 (length bytes) ≡ true = le-leb 144 (length bytes) (let s = w.size in omega arith) in
      rw (whole, w.settings) refl)

  no_header_fault : first_failing (header_checks bytes) ≡ None
  no_header_fault =
      ap (λ h. first_failing ((Class, is_of_class h) ∷ (Kind, is_of_kind h) ∷ (Headers, has_segments bytes h) ∷ [])) w.header
      ∙ (let table : nat_le 116 (length bytes) ≡ true = le-leb 116 (length bytes) (let s = w.size in omega arith) in rw table refl)

  no_segment_fault : first_failing (segment_checks bytes (segments_of bytes)) ≡ None
  no_segment_fault =
      ap (λ s. first_failing (segment_checks bytes s)) segments_are
      ∙ (let same : nat_le (length content) (length content) ≡ true = le-leb (length content) (length content) (omega arith) in
      let whole : nat_le (144 + length content) (length bytes) ≡ true =
      le-leb (144 + length content) (length bytes) (let s = w.size in omega arith) in
      let ram : nat_le (place + length content) ram_size ≡ true = le-leb (place + length content) ram_size f.inside in
      let zero : (length content == 0) ≡ false = not_zero (length content) (let a = f.from in let b = f.to in omega arith) in
      rw (some, same, zero, whole, ram) refl)

  no_image_fault : first_failing (image_checks entry (content_part place content ∷ []) (record { priority = n; stack = stack })) ≡ None
  no_image_fault =
      (let word : (entry % 4 == 0) ≡ true = (let s = f.aligned in search rules) in
      let from : nat_le place entry ≡ true = le-leb place entry f.from in
      let to : nat_le (entry + 4) (place + length content) ≡ true = le-leb (entry + 4) (place + length content) f.to in
      let low : nat_le 1 n ≡ true = le-leb 1 n f.low in
      let high : nat_le n 32767 ≡ true = le-leb n 32767 f.high in
      rw (word, from, to, low, high) refl)

  no_fault : elf_fault bytes ≡ None
  unfolding segments_fault image_fault_of
  no_fault =
      (let header : nat_le 52 (length bytes) ≡ true = le-leb 52 (length bytes) (let s = w.size in omega arith) in
      let loaded : first_failing (image_checks (elf_header_of bytes).entry (parts_of bytes) (file_settings bytes)) ≡ None =
      ap (λ h. first_failing (image_checks h.entry (parts_of bytes) (file_settings bytes))) w.header
      ∙ ap (λ p. first_failing (image_checks entry p (file_settings bytes))) parts_are
      ∙ ap (λ (s : Settings). first_failing (image_checks entry (content_part place content ∷ []) s)) settings_are
      ∙ no_image_fault in
      rw (header, no_header_fault, no_segment_fault, loaded) refl)

  loaded_is : elf_loaded bytes ≡ record { parts = content_part place content ∷ []; entry = entry; priority = pos n; stack = stack }
  loaded_is =
      ap (λ (p : List LoadedPart). record (elf_loaded bytes) { parts = p }) parts_are
      ∙ ap
      (λ h. record {
        parts = content_part place content ∷ [];
        entry = h.entry;
        priority = pos (file_settings bytes).priority;
        stack = (file_settings bytes).stack;
      })
      w.header
      ∙ ap (λ (s : Settings). record { parts = content_part place content ∷ []; entry = entry; priority = pos s.priority; stack = s.stack })
      settings_are

  pub one_segment_loads : elf_image bytes
      ≡ Some (record { parts = content_part place content ∷ []; entry = entry; priority = pos n; stack = stack })
  one_segment_loads = rw no_fault (ap Some loaded_is)
