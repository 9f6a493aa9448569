-- The programs as people write them: texts in assembler, and the image files that they are assembled to.
use Rattle.std.specs.Prelude.{◌≡◌, ℕ, List, [], ◌∷◌, ◌++◌, codes, drop, None}
use Rattle.image_loader.specs.ImageFiles as files
use Rattle.rv_asm.specs.Assembly.{Makes, assembly}
use Rattle.xinu_model.specs.Boot.{Loaded}

-- a text with these lines
abbrev pub text_of : List (List ℕ) → List ℕ
text_of [] = []
text_of (line ∷ lines) = line ++ 10 ∷ text_of lines

-- the loop of both
abbrev pub loop_lines : List (List ℕ)
loop_lines =
    codes "again:  addi a0, zero, 4" ∷
    codes "        sys  wait" ∷
    codes "        bne  a0, zero, again" ∷
    codes "        lw   t0, 108(zero)" ∷
    codes "        addi t0, t0, 1" ∷
    codes "        sw   t0, 108(zero)" ∷
    codes "        addi a0, zero, 4" ∷
    codes "        sys  signal" ∷
    codes "        j    again" ∷
    []

abbrev pub first_text : List ℕ
first_text = text_of (codes "        addi a0, zero, 1" ∷ codes "        sys  semcreate" ∷ loop_lines)

abbrev pub second_text : List ℕ
second_text = text_of (codes "        .place 64" ∷ loop_lines ++ codes "counter: .word 0" ∷ [])

-- A text is assembled to a file that loads an image.
pub record IsSourceOf (text : List ℕ) (image : Loaded) : Type 0 where
  pub file : List ℕ
  pub makes : assembly text ≡ Makes file
  pub good : files.first_fault file ≡ None
  pub loads : files.image_of (files.header_of file) (drop 28 file) ≡ image
