-- Worked examples: texts with what they are assembled to.
use Rattle.std.specs.Prelude.{◌≡◌, ℕ, List, [], ◌∷◌, ◌++◌, codes}
use Rattle.asm_syntax.specs.Statements.{word_bytes}
use Rattle.rv_asm.specs.Assembly.{Assembly, Makes, Fails, image_file, assembly}
use Rattle.rv_asm.specs.declared.faults.AsmFault.TheVariants.{BadLine, UnknownName, OutOfRange, DoubleLabel}

-- a text with these lines
abbrev pub text_of : List (List ℕ) → List ℕ
text_of [] = []
text_of (line ∷ lines) = line ++ 10 ∷ text_of lines

-- words one after another
abbrev pub words : List ℕ → List ℕ
words [] = []
words (w ∷ ws) = word_bytes w ++ words ws

-- the file with this place, entry, priority, stack and content of n bytes
abbrev pub makes : ℕ → ℕ → ℕ → ℕ → ℕ → List ℕ → Assembly
makes place n entry priority stack content =
    Makes (image_file (record { place = place; size = n; entry = entry; priority = priority; stack = stack }) content)

-- a text and what it is assembled to
pub record Example : Type 0 where
  pub text : List ℕ
  pub result : Assembly

abbrev pub example : List (List ℕ) → Assembly → Example
example lines result = record { text = text_of lines; result = result }

-- the examples
abbrev pub examples : List Example
examples =
    example (codes "li a7, 1" ∷ codes "ecall" ∷ codes "sys exit" ∷ [])
    (makes 0 20 0 20 4096 (words (0x000008b7 ∷ 0x00188893 ∷ 0x00000073 ∷ 0x00900893 ∷ 0x00000073 ∷ [])))
    ∷ example (codes "li a7, x" ∷ []) (Fails (UnknownName 1))
    ∷ example
    (codes ".place 0x100" ∷ codes ".priority 25" ∷ codes ".stack 400" ∷ codes ".entry start" ∷ codes "data: .word -1"
    ∷ codes "start: la sp, data" ∷ codes "loop: beq x0, zero, loop # no end" ∷ codes "j start" ∷ [])
    (makes 256 20 260 25 400 (words (0xffffffff ∷ 0x00000137 ∷ 0x10010113 ∷ 0x00000063 ∷ 0xff5ff06f ∷ [])))
    ∷ example (codes "lw a0, -4(sp)" ∷ codes "sw a0,8 ( sp )" ∷ []) (Fails (BadLine 2))
    ∷ example (codes "lui t0, 1048576" ∷ codes "add t0, t1" ∷ []) (Fails (OutOfRange 1))
    ∷ example (codes "a: a: nop" ∷ []) (Fails (DoubleLabel 1))
    ∷ example (codes "a: nop" ∷ codes ".place 4" ∷ []) (Fails (BadLine 2))
    ∷ example (codes "nop" ∷ codes ".place x" ∷ []) (Fails (BadLine 2))
    ∷ example (codes ".entry a" ∷ codes ".entry x" ∷ codes "a: nop" ∷ []) (Fails (BadLine 2))
    ∷ example (codes ".priority 5" ∷ codes ".priority x" ∷ []) (Fails (BadLine 2))
    ∷ example (codes ".stack 4" ∷ codes ".stack -1" ∷ []) (Fails (BadLine 2))
    ∷ example (codes "j far" ∷ codes ".zero 1048572" ∷ codes "far:" ∷ []) (Fails (OutOfRange 1))
    ∷ example (codes "a: .byte 1" ∷ codes ".entry a" ∷ []) (Fails (OutOfRange 2))
    ∷ example [] (Fails (BadLine 0))
    ∷ example ((codes ".ascii " ++ 34 ∷ codes "Hi" ++ 92 ∷ 110 ∷ 34 ∷ []) ∷ codes ".align" ∷ codes "ret" ∷ [])
    (makes 0 8 0 20 4096 (codes "Hi" ++ 10 ∷ 0 ∷ words (0x00008067 ∷ [])))
    ∷ []

-- the text of an example is assembled to its result
abbrev pub IsAssembled : Example → Type 0
IsAssembled e = assembly e.text ≡ e.result
