-- The line of each word is read back.
use Rattle.std.proofs.Common.{◌≡◌, ℕ, ◌+◌, ◌*◌, ◌/◌, ◌%◌, ◌^◌, ◌<◌, Bool, true, false, ◌&&◌, List, [], ◌∷◌, ◌++◌, ℤ, pos, negsuc, Option, Some, None, refl, sym, ap, ◌∙◌, subst, arith, codes, int_le, eqb-true}
use Rattle.std.specs.Prelude.{◌==◌}
use Rattle.std.proofs.lemmas.Bool.Decides.{nat_tests}
use lib.Signed.{mag}
use Rattle.xinu_model.specs.Isa.Instructions.{Row, Form, FormU, FormJ, FormI, FormB, FormS, FormShift, FormR, FormFence, FormWhole, row_of}
use Rattle.xinu_model.specs.Isa.Instructions.{rd_of, rs1_of, rs2_of, imm_j, imm_i, imm_b, imm_s}
use Rattle.xinu_model.specs.Words.{signed}
use Rattle.rv_isa.specs.RowFields.{opcode_of, funct3_of, funct7_of, has_parts}
use Rattle.rv_isa.specs.Table.{Seen, mnemonic, row_named}
use Rattle.asm_syntax.specs.Meanings.{Instruction, meaning_of}
use Rattle.asm_syntax.specs.Operands as asm
use Rattle.asm_syntax.specs.Statements.{Statement, Code, Branch, JumpTo, Bytes, can_name, stated, line_of, word_bytes}
use Rattle.rv_disasm.specs.Disassembly.{disassembly, written, as_data, with_mnemonic, row_seen, moved}
use Rattle.rv_disasm.specs.OperandTexts.{register_name, hex_word, label_of, operand_text, listed}
use Rattle.rv_disasm.specs.Readings.{SaysWord, IsReadBack, is_instruction, is_written_by, offset_of_row}
use Rattle.rv_disasm.specs.declared.operands.Operand.{Operand}
use Rattle.rv_disasm.specs.declared.operands.Operand.TheVariants.{Register, Number, Offset, Target}
use Rattle.rv_disasm.proofs.Words.{is_plain_word}
use Rattle.rv_disasm.proofs.RegisterNames.{named}
use Rattle.rv_disasm.proofs.Offsets.{IsOperand, name_is_operand, number_is_operand, offset_is_operand}
use Rattle.rv_disasm.proofs.Labels.{label_is_operand, data_is_operand}
use Rattle.rv_disasm.proofs.Listings.{AreOperands, line_with, line_alone, line_one}
use Rattle.rv_disasm.proofs.Encoded.{suits, found, bits_u, bits_j, bits_i, bits_r, bits_whole, again_b, again_j}
use Rattle.rv_disasm.proofs.Forms.{low_small, form_u, form_j, form_i_number, form_i_offset, form_b, form_s, form_shift, form_r}
use Rattle.rv_disasm.proofs.Ways.{extended_13, extended_21, extended-less, not_far_13, not_far_21}
use Rattle.rv_disasm.proofs.Says.{bare, IsOffset, code_says, data_says, branch_says, jump_says}
use Rattle.rv_disasm.proofs.RowFacts.{known}

-- what is known of the row of a word
pub record HasRow (word : ℕ) (name : List ℕ) (mask bits : ℕ) (form : Form) : Type 0 where
  pub seen : row_seen word ≡ Some (record { mnemonic = name; mask = mask; bits = bits; form = form })
  pub plain : is_plain_word name ≡ true
  pub names : can_name name ≡ true
  pub means : meaning_of name ≡ Some (Instruction bits form)
  pub suits : suits form mask bits ≡ true
  pub parts : has_parts (opcode_of word) (funct3_of word) (funct7_of word) word mask bits ≡ true
  pub fits : word < 2 ^ 32

-- the line of a word that is written as an instruction with operands
instruction_line : (word at : ℕ) (name : List ℕ) (mask bits : ℕ) (form : Form) (p : asm.Operand) (ps : List asm.Operand) (o : Operand)
    (os : List Operand) (statement : Statement) → HasRow word name mask bits form
    → written (Some (record { mnemonic = name; mask = mask; bits = bits; form = form })) word at ≡ name ++ 32 ∷ [] ++ listed (o ∷ os)
    → AreOperands (p ∷ ps) (o ∷ os) → stated (Some (Instruction bits form)) (Some (p ∷ ps)) ≡ statement
    → line_of (disassembly word at) ≡ bare statement
instruction_line word at name mask bits form p ps o os statement has text are is =
    ap (λ r. line_of (written r word at)) has.seen ∙ ap line_of text ∙ line_with name p ps o os has.plain has.names are
    ∙ ap (λ m. bare (stated m (Some (p ∷ ps)))) has.means ∙ ap bare is

-- a register, as it is written
register : (n : ℕ) → n < 32 → IsOperand (asm.Name (register_name n)) (register_name n)
register n less = let it = named n less in name_is_operand (register_name n) it.word it.name

offset : (z : ℤ) (n : ℕ) → n < 32 → mag z < 4294967296 → IsOperand (asm.Offset z (register_name n)) (operand_text (Offset z n))
offset z n less small = let it = named n less in offset_is_operand z (register_name n) small it.word it.name

-- the line of a word that is written as data
data_line : (word at : ℕ) → word < 2 ^ 32 → line_of (as_data word) ≡ bare (Bytes (word_bytes word))
unfolding meaning_of row_named
data_line word at fits =
    let low : (int_le (negsuc 2147483647) (pos word) && int_le (pos word) (pos 4294967295)) ≡ true = grind (arith, nat_tests) in
    let whole : word % 4294967296 ≡ word = omega arith in
    line_one (codes ".word") (codes "0x" ++ hex_word word) (asm.Number (pos word)) refl refl (data_is_operand word fits)
    ∙ rw (low, whole) refl

data_read : (word at : ℕ) (o : Option Seen) → word < 2 ^ 32 → row_seen word ≡ o → written o word at ≡ as_data word → is_written_by o word ≡ false
    → IsReadBack word at
data_read word at o fits seen text is =
    let line : line_of (disassembly word at) ≡ bare (Bytes (word_bytes word)) =
    ap (λ r. line_of (written r word at)) seen ∙ ap line_of text ∙ data_line word at fits in
    subst (SaysWord word at) (sym line) (data_says word at (ap (λ r. is_written_by r word) seen ∙ is))

-- a word of code, from its line
code_read : (word at : ℕ) → is_instruction word ≡ true → line_of (disassembly word at) ≡ bare (Code (word ∷ [])) → IsReadBack word at
code_read word at is line = subst (SaysWord word at) (sym line) (code_says word at is)

is_code : (word : ℕ) (name : List ℕ) (mask bits : ℕ) (form : Form) → HasRow word name mask bits form
    → is_written_by (Some (record { mnemonic = name; mask = mask; bits = bits; form = form })) word ≡ true → is_instruction word ≡ true
is_code word name mask bits form has is = ap (λ r. is_written_by r word) has.seen ∙ is

read_u : (word at : ℕ) (name : List ℕ) (mask bits : ℕ) → HasRow word name mask bits FormU → IsReadBack word at
read_u word at name mask bits has =
    let fits : word < 2 ^ 32 = has.fits in
    let small : mag (pos (word / 4096)) < 4294967296 = omega arith in
    code_read word at (is_code word name mask bits FormU has refl) (instruction_line word at name mask bits FormU
    (asm.Name (register_name (rd_of word))) (asm.Number (pos (word / 4096)) ∷ []) (Register (rd_of word)) (Number (pos (word / 4096)) ∷ [])
    (Code (word ∷ [])) has refl (register (rd_of word) (omega arith), (number_is_operand (pos (word / 4096)) small, tt))
    (form_u word bits fits (bits_u word mask bits has.suits has.parts)))

read_j : (word at : ℕ) (name : List ℕ) (mask bits : ℕ) → at < 2 ^ 32 → HasRow word name mask bits FormJ → IsReadBack word at
read_j word at name mask bits here has =
    let fits : word < 2 ^ 32 = has.fits in
    let n = word / 2147483648 % 2 * 1048576 + word / 4096 % 256 * 4096 + word / 1048576 % 2 * 2048 + word / 2097152 % 1024 * 2 in
    let target = moved at (imm_j word) in
    let line = instruction_line word at name mask bits FormJ (asm.Name (register_name (rd_of word))) (asm.Name (label_of target) ∷ [])
    (Register (rd_of word)) (Target target ∷ []) (JumpTo (rd_of word) (label_of target)) has refl
    (register (rd_of word) (omega arith), (label_is_operand target, tt)) (form_j word bits (label_of target)) in
    let ways = extended_21 n (omega arith) in
    let o : IsOffset (imm_j word) 1048576 =
    record { fits = extended-less (imm_j word) ways; ways = ways; reached = not_far_21 n (omega arith) (omega arith) } in
    subst (SaysWord word at) (sym line)
    (jump_says word at (rd_of word) (imm_j word) here (is_code word name mask bits FormJ has refl) (ap (λ r. offset_of_row r word) has.seen) o
    (again_j word fits (bits_j word mask bits has.suits has.parts).1))

read_b : (word at : ℕ) (name : List ℕ) (mask bits : ℕ) → at < 2 ^ 32 → HasRow word name mask bits FormB → IsReadBack word at
read_b word at name mask bits here has =
    let fits : word < 2 ^ 32 = has.fits in
    let n = word / 2147483648 % 2 * 4096 + word / 128 % 2 * 2048 + word / 33554432 % 64 * 32 + word / 256 % 16 * 2 in
    let target = moved at (imm_b word) in
    let line = instruction_line word at name mask bits FormB (asm.Name (register_name (rs1_of word)))
    (asm.Name (register_name (rs2_of word)) ∷ asm.Name (label_of target) ∷ [])
    (Register (rs1_of word)) (Register (rs2_of word) ∷ Target target ∷ []) (Branch bits (rs1_of word) (rs2_of word) (label_of target)) has refl
    (register (rs1_of word) (omega arith), (register (rs2_of word) (omega arith), (label_is_operand target, tt))) (form_b word bits (label_of target)) in
    let ways = extended_13 n (omega arith) in
    let o : IsOffset (imm_b word) 4096 =
    record { fits = extended-less (imm_b word) ways; ways = ways; reached = not_far_13 n (omega arith) (omega arith) } in
    subst (SaysWord word at) (sym line)
    (branch_says word at bits (rs1_of word) (rs2_of word) (imm_b word) here (is_code word name mask bits FormB has refl)
    (ap (λ r. offset_of_row r word) has.seen) o (again_b word bits fits (bits_i word mask bits has.suits has.parts)))

read_i : (x : Bool) (word at : ℕ) (name : List ℕ) (mask bits : ℕ) → HasRow word name mask bits FormI → (bits % 128 == 0x13) ≡ x → IsReadBack word at
read_i true word at name mask bits has is =
    let fits : word < 2 ^ 32 = has.fits in
    let z = signed (imm_i word) in
    code_read word at (is_code word name mask bits FormI has refl) (instruction_line word at name mask bits FormI
    (asm.Name (register_name (rd_of word))) (asm.Name (register_name (rs1_of word)) ∷ asm.Number z ∷ [])
    (Register (rd_of word)) (Register (rs1_of word) ∷ Number z ∷ []) (Code (word ∷ [])) has (rw is refl)
    (register (rd_of word) (omega arith), (register (rs1_of word) (omega arith), (number_is_operand z (low_small (word / 1048576 % 4096) (omega arith)), tt)))
    (form_i_number word bits fits (bits_i word mask bits has.suits has.parts) is))
read_i false word at name mask bits has is =
    let fits : word < 2 ^ 32 = has.fits in
    let z = signed (imm_i word) in
    code_read word at (is_code word name mask bits FormI has refl) (instruction_line word at name mask bits FormI
    (asm.Name (register_name (rd_of word))) (asm.Offset z (register_name (rs1_of word)) ∷ [])
    (Register (rd_of word)) (Offset z (rs1_of word) ∷ []) (Code (word ∷ [])) has (rw is refl)
    (register (rd_of word) (omega arith), (offset z (rs1_of word) (omega arith) (low_small (word / 1048576 % 4096) (omega arith)), tt))
    (form_i_offset word bits fits (bits_i word mask bits has.suits has.parts) is))

read_s : (word at : ℕ) (name : List ℕ) (mask bits : ℕ) → HasRow word name mask bits FormS → IsReadBack word at
read_s word at name mask bits has =
    let fits : word < 2 ^ 32 = has.fits in
    let z = signed (imm_s word) in
    code_read word at (is_code word name mask bits FormS has refl) (instruction_line word at name mask bits FormS
    (asm.Name (register_name (rs2_of word))) (asm.Offset z (register_name (rs1_of word)) ∷ [])
    (Register (rs2_of word)) (Offset z (rs1_of word) ∷ []) (Code (word ∷ [])) has refl (
      register (rs2_of word) (omega arith),
      (offset z (rs1_of word) (omega arith) (low_small (word / 33554432 % 128 * 32 + word / 128 % 32) (omega arith)), tt),
    )
    (form_s word bits fits (bits_i word mask bits has.suits has.parts)))

read_shift : (word at : ℕ) (name : List ℕ) (mask bits : ℕ) → HasRow word name mask bits FormShift → IsReadBack word at
read_shift word at name mask bits has =
    let fits : word < 2 ^ 32 = has.fits in
    let small : mag (pos (rs2_of word)) < 4294967296 = omega arith in
    code_read word at (is_code word name mask bits FormShift has refl) (instruction_line word at name mask bits FormShift
    (asm.Name (register_name (rd_of word))) (asm.Name (register_name (rs1_of word)) ∷ asm.Number (pos (rs2_of word)) ∷ [])
    (Register (rd_of word)) (Register (rs1_of word) ∷ Number (pos (rs2_of word)) ∷ []) (Code (word ∷ [])) has refl
    (register (rd_of word) (omega arith), (register (rs1_of word) (omega arith), (number_is_operand (pos (rs2_of word)) small, tt)))
    (form_shift word bits fits (bits_r word mask bits has.suits has.parts)))

read_r : (word at : ℕ) (name : List ℕ) (mask bits : ℕ) → HasRow word name mask bits FormR → IsReadBack word at
read_r word at name mask bits has =
    let fits : word < 2 ^ 32 = has.fits in
    code_read word at (is_code word name mask bits FormR has refl) (instruction_line word at name mask bits FormR
    (asm.Name (register_name (rd_of word))) (asm.Name (register_name (rs1_of word)) ∷ asm.Name (register_name (rs2_of word)) ∷ [])
    (Register (rd_of word)) (Register (rs1_of word) ∷ Register (rs2_of word) ∷ []) (Code (word ∷ [])) has refl
    (register (rd_of word) (omega arith), (register (rs1_of word) (omega arith), (register (rs2_of word) (omega arith), tt)))
    (form_r word bits fits (bits_r word mask bits has.suits has.parts)))

-- an instruction without operands
alone_line : (word at : ℕ) (name : List ℕ) (mask bits : ℕ) (form : Form) → HasRow word name mask bits form
    → written (Some (record { mnemonic = name; mask = mask; bits = bits; form = form })) word at ≡ name
    → stated (Some (Instruction bits form)) (Some []) ≡ Code (word ∷ []) → line_of (disassembly word at) ≡ bare (Code (word ∷ []))
alone_line word at name mask bits form has text is =
    ap (λ r. line_of (written r word at)) has.seen ∙ ap line_of text ∙ line_alone name has.plain has.names
    ∙ ap (λ m. bare (stated m (Some []))) has.means ∙ ap bare is

read_fence : (x : Bool) (word at : ℕ) (name : List ℕ) (mask bits : ℕ) → HasRow word name mask bits FormFence → (word == 0x0ff0000f) ≡ x → IsReadBack word at
read_fence true word at name mask bits has is =
    let same : word ≡ 0x0ff0000f = eqb-true _ _ is in
    let fixed : bits ≡ 0xf = eqb-true _ _ has.suits in
    let again : bits + 0x0ff00000 ≡ word = omega arith in
    code_read word at (is_code word name mask bits FormFence has is)
    (alone_line word at name mask bits FormFence has (rw is refl) (ap (λ (n : ℕ). Code (n ∷ [])) again))
read_fence false word at name mask bits has is =
    data_read word at (Some (record { mnemonic = name; mask = mask; bits = bits; form = FormFence })) has.fits has.seen (rw is refl) is

read_whole : (word at : ℕ) (name : List ℕ) (mask bits : ℕ) → HasRow word name mask bits FormWhole → IsReadBack word at
read_whole word at name mask bits has =
    let same : bits ≡ word = bits_whole word mask bits has.suits has.parts in
    let again : bits + 0 ≡ word = omega arith in
    code_read word at (is_code word name mask bits FormWhole has refl)
    (alone_line word at name mask bits FormWhole has refl (ap (λ (n : ℕ). Code (n ∷ [])) again))

by_form : (form : Form) (word at : ℕ) (name : List ℕ) (mask bits : ℕ) → at < 2 ^ 32 → HasRow word name mask bits form → IsReadBack word at
by_form FormU word at name mask bits here has = read_u word at name mask bits has
by_form FormJ word at name mask bits here has = read_j word at name mask bits here has
by_form FormI word at name mask bits here has = read_i (bits % 128 == 0x13) word at name mask bits has refl
by_form FormB word at name mask bits here has = read_b word at name mask bits here has
by_form FormS word at name mask bits here has = read_s word at name mask bits has
by_form FormShift word at name mask bits here has = read_shift word at name mask bits has
by_form FormR word at name mask bits here has = read_r word at name mask bits has
by_form FormFence word at name mask bits here has = read_fence (word == 0x0ff0000f) word at name mask bits has refl
by_form FormWhole word at name mask bits here has = read_whole word at name mask bits has

-- the row of a word, as it is seen
row_seen-is : (word : ℕ) → row_seen word ≡ with_mnemonic (row_of word)
unfolding row_seen
row_seen-is word = refl

by_row : (o : Option Row) (word at : ℕ) → word < 2 ^ 32 → at < 2 ^ 32 → row_of word ≡ o → row_seen word ≡ with_mnemonic o → IsReadBack word at
by_row None word at fits here is seen = data_read word at None fits seen refl refl
by_row (Some row) word at fits here is seen =
    let facts = known word row is in
    let parts = found (λ r. suits r.form r.mask r.bits) word row fits refl is in
    by_form row.form word at (mnemonic row.name) row.mask row.bits here (record {
      seen = seen;
      plain = facts.0;
      names = facts.1;
      means = facts.2;
      suits = facts.3;
      parts = parts.1;
      fits = fits;
    })

pub read_back : (word at : ℕ) → word < 2 ^ 32 → at < 2 ^ 32 → IsReadBack word at
read_back word at fits here = by_row (row_of word) word at fits here refl (row_seen-is word)
