-- The instruction of a word, by its opcode.
use Rattle.std.proofs.Common.{◌≡◌, ℕ, ◌<◌, ◌^◌, eqb, false, None, sym, ap, ◌∙◌, refl}
use Rattle.rv_isa.specs.RowFields.{opcode_of}
use Rattle.rv_isa.proofs.RowByFields.{row_of-parts}
use Rattle.rv_isa.specs.Words.{decoded, decoded_by, instruction_of}

pub decoded_by-instruction_of : (opcode word : ℕ) → word < 2 ^ 32 → opcode_of word ≡ opcode → decoded_by opcode word ≡ instruction_of word
decoded_by-instruction_of opcode word fits is =
    ap (λ (o : ℕ). decoded_by o word) (sym is) ∙ ap (λ r. decoded r word) (sym (row_of-parts word fits))

-- no row has another opcode than these eleven
pub no_instruction : (opcode word : ℕ) → eqb opcode 0x03 ≡ false → eqb opcode 0x0f ≡ false → eqb opcode 0x13 ≡ false → eqb opcode 0x17 ≡ false → eqb opcode 0x23 ≡ false → eqb opcode 0x33 ≡ false → eqb opcode 0x37 ≡ false → eqb opcode 0x63 ≡ false → eqb opcode 0x67 ≡ false → eqb opcode 0x6f ≡ false → eqb opcode 0x73 ≡ false → decoded_by opcode word ≡ None
no_instruction opcode word a b c d e f g i j k l = rw (a, b, c, d, e, f, g, i, j, k, l) refl
