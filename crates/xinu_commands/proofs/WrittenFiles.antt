-- What `asm` writes loads, as an image file and as an ELF file.
use Rattle.std.proofs.Common.{◌≡◌, ◌∙◌, ◌+◌, ◌%◌, ◌<◌, ◌^◌, ◌==◌, ◌&&◌, ℕ, Bool, true, false, List, [], ◌∷◌, length, take, drop, codes, Option, Some, None, refl, sym, ap, subst, arith, nat_le}
use Rattle.std.specs.Bool.{Decides}
use Rattle.std.specs.Prelude.{unwrap_or, is_some}
use Rattle.std.proofs.lemmas.Bool.{and_parts, eqb-true, le-leb, leb-true}
use Rattle.std.proofs.lemmas.Int.{ints}
use Rattle.std.proofs.lemmas.List.{length-drop}
use Rattle.std.proofs.lemmas.Slice.Eq.{bytes_eq-Decides}
use Rattle.elf_loader.proofs.ReadBack.{written_loads}
use Rattle.elf_loader.specs.ElfFiles.{elf_image}
use Rattle.elf_loader.specs.LoadedFiles.{is_elf, loads}
use Rattle.elf_loader.specs.WrittenElf.{elf_file}
use Rattle.image_loader.specs.ImageFiles.{first_fault as file_fault, has_entry, has_length, has_magic, has_priority, has_version, header_of, image_in, image_of, is_placed, loaded_unless}
use Rattle.image_loader.specs.Parts.{IsImage}
use Rattle.image_loader.specs.declared.faults.ImageFault.{ImageFault}
use Rattle.image_loader.specs.declared.faults.ImageFault.TheVariants as image
use Rattle.xinu_model.specs.Boot.{Loaded}
use Rattle.xinu_model.specs.Memory.{number_at, ram_size}
use Rattle.rv_asm.proofs.LoadLemmas.{assembled-loads}
use Rattle.rv_asm.specs.Assembly.{Header as FileHeader, Makes, assembly, content, ended, header, image_file, is_void, lines_in}
use Rattle.rv_asm.specs.Faults.{first_astray, first_fault}
use Rattle.rv_asm.specs.Layouts.{after_all, start}
use Rattle.rv_asm.specs.declared.faults.AsmFault.{AsmFault}
use Rattle.xinu_commands.specs.AsmVerdict.{written_file}
use Rattle.xinu_commands.proofs.Assembled.{elf_of_image, passed, whole_image}

-- an image file doesn't begin as an ELF file
is_no_elf : (bytes : List ℕ) → has_magic (header_of bytes) ≡ true → is_elf bytes ≡ false
is_no_elf [] magic = refl
is_no_elf (b ∷ bytes) magic = go (is_elf (b ∷ bytes)) (bytes_eq-Decides (take 4 (b ∷ bytes)) (127 ∷ codes "ELF"))
  where
    go : (t : Bool) → Decides t (take 4 (b ∷ bytes) ≡ 127 ∷ codes "ELF") → t ≡ false
    go true d =
        let all = d.0 refl in
        let first : b ≡ 127 = cc in
        let number : number_at (b ∷ bytes) 0 4 ≡ 1196247384 = eqb-true _ _ magic in absurd (omega arith)
    go false d = refl

-- what the tests of an image file tell
record Passes (bytes : List ℕ) : Type 0 where
  magic : has_magic (header_of bytes) ≡ true
  sized : has_length (header_of bytes) (length bytes) ≡ true
  placed : is_placed (header_of bytes) ≡ true
  entered : has_entry (header_of bytes) ≡ true
  ranked : has_priority (header_of bytes) ≡ true

passes : (bytes : List ℕ) → file_fault bytes ≡ None → Passes bytes
passes bytes none =
    let h = header_of bytes in
    let magic = passed (has_magic h) image.Magic _ (passed (nat_le 28 (length bytes)) image.Short _ none).1 in
    let sized = passed (has_length h (length bytes)) image.Length _ (passed (has_version h) image.Version _ magic.1).1 in
    let placed = passed (is_placed h) image.Place _ sized.1 in
    let entered = passed (has_entry h) image.Entry _ placed.1 in
    let ranked = passed (has_priority h) image.Priority _ entered.1 in
    record { magic = magic.0; sized = sized.0; placed = placed.0; entered = entered.0; ranked = ranked.0 }

-- it loads an image
is_image : (bytes : List ℕ) → Passes bytes → IsImage (image_of (header_of bytes) (drop 28 bytes))
is_image bytes p =
    let h = header_of bytes in
    let all : length bytes ≡ 28 + h.length = eqb-true _ _ p.sized in
    let same : length (drop 28 bytes) ≡ h.length = omega (arith, all, length-drop 28 bytes) in
    let place = and_parts (h.place % 4 == 0) (nat_le (h.place + h.length) ram_size) p.placed in
    let entry = and_parts (h.entry % 4 == 0) (nat_le h.place h.entry && nat_le (h.entry + 4) (h.place + h.length)) p.entered in
    let inside = and_parts (nat_le h.place h.entry) (nat_le (h.entry + 4) (h.place + h.length)) entry.1 in
    let priority = and_parts (nat_le 1 h.priority) (nat_le h.priority 32767) p.ranked in
    let high = leb-true (h.entry + 4) (h.place + h.length) inside.1 in
    record {
      some = omega arith;
      few = omega arith;
      lie = rw (place.1, le-leb (length (drop 28 bytes)) h.length (omega (arith, same))) refl;
      apart = refl;
      aligned = eqb-true _ _ entry.0;
      inside = rw (inside.0, le-leb (h.entry + 4) (h.place + length (drop 28 bytes)) (omega (arith, same, high))) refl;
      low = (let a = leb-true 1 h.priority priority.0 in omega (arith, ints));
      high = (let a = leb-true h.priority 32767 priority.1 in omega (arith, ints));
    }

-- ---- a file that was assembled

-- a file that is made is the image file of its header and its content
made_is : (first astray : Option AsmFault) (void : Bool) (made file : List ℕ) → ended first astray void made ≡ Makes file → made ≡ file
made_is None None false made file is = cc
made_is None None true made file is = absurd (cc)
made_is None (Some f) void made file is = absurd (cc)
made_is (Some f) astray void made file is = absurd (cc)

-- so its stack is a word
word_fits : (h : FileHeader) (bytes : List ℕ) → number_at (image_file h bytes) 24 4 < 2 ^ 32
word_fits h bytes = omega arith

stack_fits : (source file : List ℕ) → assembly source ≡ Makes file → number_at file 24 4 < 2 ^ 32
unfolding assembly
stack_fits source file is =
    let lines = lines_in source in
    let end = after_all lines start in
    let bytes = content end.labels lines start in
    let made = image_file (header end (length bytes)) bytes in
    let same : made ≡ file = made_is (first_fault end.labels 1 lines start)
    (first_astray end.labels (unwrap_or end.place 0) end.at 1 lines start) (is_void end (length bytes)) made file is in
    subst (λ (f : List ℕ). number_at f 24 4 < 2 ^ 32) same (word_fits (header end (length bytes)) bytes)

-- ---- what is written

-- what an image file loads, by the fault that it hasn't
record IsImageFile (bytes : List ℕ) (loaded : Loaded) : Type 0 where
  no_elf : is_elf bytes ≡ false
  image : IsImage loaded
  stack : loaded.stack ≡ number_at bytes 24 4

by_fault : (bytes : List ℕ) (loaded : Loaded) (f : Option ImageFault) → file_fault bytes ≡ f
    → loaded_unless f (image_of (header_of bytes) (drop 28 bytes)) ≡ Some loaded
    → IsImageFile bytes loaded
by_fault bytes loaded None none is =
    let p = passes bytes none in
    let same : image_of (header_of bytes) (drop 28 bytes) ≡ loaded = cc in
    record {
      no_elf = is_no_elf bytes p.magic;
      image = subst IsImage same (is_image bytes p);
      stack = ap (λ (l : Loaded). l.stack)
          (sym same);
    }
by_fault bytes loaded (Some f) none is = absurd (cc)

-- an ELF file that is written begins as one
elf_loads : (image : Loaded) → loads (elf_file image) ≡ elf_image (elf_file image)
unfolding loads
elf_loads image = refl

written_loads_image : (elf : Bool) (file : List ℕ) (loaded : Loaded) → image_in file ≡ Some loaded → number_at file 24 4 < 2 ^ 32
    → loads (written_file elf file) ≡ Some loaded
unfolding loads
written_loads_image false file loaded is fits = (let found = by_fault file loaded (file_fault file) refl is in rw found.no_elf is)
written_loads_image true file loaded is fits =
    let found = by_fault file loaded (file_fault file) refl is in
    ap loads (elf_of_image file loaded is) ∙ elf_loads loaded ∙ written_loads loaded found.image (whole_image file loaded is)
    (omega (arith, fits, found.stack))

pub written_files-load : (elf : Bool) (source file : List ℕ) → assembly source ≡ Makes file
    → (image : Loaded) × ((image_in file ≡ Some image) × (loads (written_file elf file) ≡ Some image))
written_files-load elf source file is = go (image_in file) refl (assembled-loads source file is)
  where
    go : (o : Option Loaded) → image_in file ≡ o → is_some o ≡ true
        → (image : Loaded) × ((image_in file ≡ Some image) × (loads (written_file elf file) ≡ Some image))
    go None none some = absurd (cc)
    go (Some image) found some = (image, (found, written_loads_image elf file image found (stack_fits source file is)))
