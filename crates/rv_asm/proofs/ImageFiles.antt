-- The image file with a sound header loads.
use Rattle.std.proofs.Common.{◌≡◌, ℕ, ◌+◌, ◌*◌, ◌%◌, ◌/◌, ◌≤◌, ◌<◌, eqb, true, List, [], ◌∷◌, length, Some, refl, arith}
use Rattle.std.specs.Prelude.{pos}
use Rattle.std.proofs.lemmas.Bool.{le-leb}
use Rattle.std.proofs.lemmas.Bool.Decides.{nat_tests}
use Rattle.xinu_model.specs.Boot.{Loaded}
use Rattle.image_loader.specs.ImageFiles.{image_in}
use Rattle.rv_asm.specs.Assembly.{image_file, Header}

-- what is true of the header of an image file with this content
pub record IsSound (h : Header) (bytes : List ℕ) : Type 0 where
  pub size : h.size ≡ length bytes
  pub aligned : h.place % 4 ≡ 0
  pub inside : h.place + h.size ≤ 1048576
  pub entry_aligned : h.entry % 4 ≡ 0
  pub entry_low : h.place ≤ h.entry
  pub entry_high : h.entry + 4 ≤ h.place + h.size
  pub priority_low : 1 ≤ h.priority
  pub priority_high : h.priority ≤ 32767
  pub stack : h.stack < 4294967296

-- what the file loads
abbrev pub loaded : Header → List ℕ → Loaded
loaded h bytes = record {
  parts = (record { place = h.place; bytes = bytes; size = h.size }) ∷ [];
  entry = h.entry;
  priority = pos h.priority;
  stack = h.stack;
}

-- the four bytes of a word, read again
abbrev word_read : ℕ → ℕ
word_read w = w % 256 + 256 * (w / 256 % 256 + 256 * (w / 65536 % 256 + 256 * (w / 16777216 % 256 + 256 * 0)))

word_again : (w : ℕ) → w < 4294967296 → word_read w ≡ w
word_again w fits = omega arith

-- a test of equal numbers
equal : (n m : ℕ) → n ≡ m → eqb n m ≡ true
equal n m is = grind (arith, nat_tests)

pub image_file-loads : (h : Header) (bytes : List ℕ) → IsSound h bytes → image_in (image_file h bytes) ≡ Some (loaded h bytes)
image_file-loads h bytes are =
    let place : h.place < 4294967296 = omega (arith, are.inside) in
    let size : h.size < 4294967296 = omega (arith, are.inside) in
    let entry : h.entry < 4294967296 = omega (arith, are.inside, are.entry_high) in
    let priority : h.priority < 4294967296 = omega (arith, are.priority_high) in
    rw (
      word_again h.place place,
      word_again h.size size,
      word_again h.entry entry,
      word_again h.priority priority,
      word_again h.stack are.stack,
    )
    (rw (
      le-leb 28 (length (image_file h bytes)) (omega arith),
      equal (length (image_file h bytes)) (28 + h.size) (omega (arith, are.size)),
      equal (h.place % 4) 0 are.aligned,
      le-leb (h.place + h.size) 1048576 are.inside,
      equal (h.entry % 4) 0 are.entry_aligned,
      le-leb h.place h.entry are.entry_low,
      le-leb (h.entry + 4) (h.place + h.size) are.entry_high,
      le-leb 1 h.priority are.priority_low,
      le-leb h.priority 32767 are.priority_high,
    )
    refl)
