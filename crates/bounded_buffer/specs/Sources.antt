-- The two programs as people write them: texts in assembler, and the image files that they are assembled to.
use Rattle.std.specs.Prelude.{◌≡◌, ℕ, List, [], ◌∷◌, ◌++◌, codes, drop, None}
use Rattle.image_loader.specs.ImageFiles as files
use Rattle.rv_asm.specs.Assembly.{Makes, assembly}
use Rattle.xinu_model.specs.Boot.{Loaded}

-- a text with these lines
abbrev pub text_of : List (List ℕ) → List ℕ
text_of [] = []
text_of (line ∷ lines) = line ++ 10 ∷ text_of lines

abbrev pub producer_text : List ℕ
producer_text = text_of (
    codes "        addi a0, zero, 2" ∷
    codes "        sys  semcreate" ∷
    codes "        addi a0, zero, 0" ∷
    codes "        sys  semcreate" ∷
    codes "again:  addi a0, zero, 4" ∷
    codes "        sys  wait" ∷
    codes "        sw   s0, 164(zero)" ∷
    codes "        addi s0, s0, 1" ∷
    codes "        addi a0, zero, 5" ∷
    codes "        sys  signal" ∷
    codes "        addi a0, zero, 4" ∷
    codes "        sys  wait" ∷
    codes "        sw   s0, 168(zero)" ∷
    codes "        addi s0, s0, 1" ∷
    codes "        addi a0, zero, 5" ∷
    codes "        sys  signal" ∷
    codes "        j    again" ∷
    [])

abbrev pub consumer_text : List ℕ
consumer_text = text_of (
    codes "        .place 96" ∷
    codes "first:  addi a0, zero, 5" ∷
    codes "        sys  wait" ∷
    codes "        bne  a0, zero, first" ∷
    codes "        lw   t0, 164(zero)" ∷
    codes "        addi a0, zero, 4" ∷
    codes "        sys  signal" ∷
    codes "second: addi a0, zero, 5" ∷
    codes "        sys  wait" ∷
    codes "        bne  a0, zero, second" ∷
    codes "        lw   t0, 168(zero)" ∷
    codes "        addi a0, zero, 4" ∷
    codes "        sys  signal" ∷
    codes "        j    first" ∷
    codes "slots:  .word 0" ∷
    codes "        .word 0" ∷
    [])

-- A text is assembled to a file that loads an image.
pub record IsSourceOf (text : List ℕ) (image : Loaded) : Type 0 where
  pub file : List ℕ
  pub makes : assembly text ≡ Makes file
  pub good : files.first_fault file ≡ None
  pub loads : files.image_of (files.header_of file) (drop 28 file) ≡ image
