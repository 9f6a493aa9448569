-- The file of an image loads the image.
use Rattle.std.proofs.Common.{◌≡◌, ◌<◌, ◌+◌, ◌^◌, ◌∷◌, ◌∙◌, ◌||◌, Bool, ℕ, ℤ, pos, negsuc, nat_le, true, false, List, [], length, refl, ap}
use Rattle.std.proofs.Common.{sym, subst, Some, arith}
use Rattle.std.proofs.lemmas.Bool.{leb-true, and_parts}
use Rattle.std.proofs.lemmas.Int.{ints}
use Rattle.elf_loader.proofs.WrittenFiles.{written, written_length, written_header_is, written_segments_are, written_content}
use Rattle.elf_loader.proofs.WrittenFiles.{written_settings}
use Rattle.elf_loader.proofs.WrittenLoads.{CanLoad, ReadsAsOne, content_part, one_segment_loads}
use Rattle.elf_loader.specs.ElfFiles.{elf_image}
use Rattle.elf_loader.specs.WrittenElf.{IsWholeImage, elf_file, only_part}
use Rattle.image_loader.specs.Parts.{IsImage}
use Rattle.xinu_model.specs.Boot.{Loaded, LoadedPart}
use Rattle.xinu_model.specs.Words.{word}

-- the image of one part with this content
abbrev pub one_part : ℕ → ℕ → ℤ → ℕ → List ℕ → Loaded
one_part place entry priority stack content = record {
  parts = content_part place content ∷ [];
  entry = entry;
  priority = priority;
  stack = stack;
}

or_left : (x : Bool) → (x || false) ≡ true → x ≡ true
or_left true e = refl
or_left false e = e

-- It can be loaded if it is an image.
can_load : (place entry n stack : ℕ) (content : List ℕ) → IsImage (one_part place entry (pos n) stack content)
    → CanLoad place entry n content
can_load place entry n stack content is =
    let lies = and_parts _ _ (and_parts _ _ is.lie).0 in
    let word = and_parts (nat_le place entry) (nat_le (entry + 4) (place + length content)) (or_left _ is.inside) in
    record {
      inside = leb-true _ _ lies.0;
      aligned = is.aligned;
      from = leb-true _ _ word.0;
      to = leb-true _ _ word.1;
      low = (let a = is.low in omega (arith, ints));
      high = (let a = is.high in omega (arith, ints));
    }

reads : (place entry n stack : ℕ) (content : List ℕ) → CanLoad place entry n content → stack < 2 ^ 32
    → ReadsAsOne (written place entry n stack content) place entry n stack content
reads place entry n stack content f fits = record {
  size = written_length place entry n stack content;
  header = written_header_is place entry n stack content (let a = f.inside in let b = f.to in omega arith);
  segments = written_segments_are place entry n stack content (let a = f.inside in omega arith) (let a = f.inside in omega arith);
  body = written_content place entry n stack content;
  settings = written_settings place entry n stack content (let a = f.high in omega arith) fits;
}

-- the same of the image by its fields
whole_loads : (place entry stack : ℕ) (priority : ℤ) (content : List ℕ) → IsImage (one_part place entry priority stack content)
    → stack < 2 ^ 32
    → elf_image (elf_file (one_part place entry priority stack content)) ≡ Some (one_part place entry priority stack content)
whole_loads place entry stack (pos n) content is fits =
    let f = can_load place entry n stack content is in
    let same : word (pos n) ≡ n = (let a = f.high in omega (arith, ints)) in
    ap (λ m. elf_image (written place entry m stack content)) same
    ∙ one_segment_loads (written place entry n stack content) place entry n stack content (reads place entry n stack content f fits) f
whole_loads place entry stack (negsuc n) content is fits = absurd (let a = is.low in omega (arith, ints))

pub written_loads : (image : Loaded) → IsImage image → IsWholeImage image → image.stack < 2 ^ 32 → elf_image (elf_file image) ≡ Some image
written_loads image is whole fits =
    let part = only_part image.parts in
    let same : image ≡ one_part part.place image.entry image.priority image.stack part.bytes =
    ap (λ (ps : List LoadedPart). record image { parts = ps }) whole.one
    ∙ ap (λ (s : ℕ). record image { parts = (record part { size = s }) ∷ [] }) whole.size in
    subst (λ (i : Loaded). elf_image (elf_file i) ≡ Some i) (sym same)
    (whole_loads part.place image.entry image.stack image.priority part.bytes (subst IsImage same is) fits)
