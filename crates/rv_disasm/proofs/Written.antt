-- Which words are written as instructions.
use Rattle.std.proofs.Common.{◌≡◌, ℕ, ◌<◌, ◌^◌, Bool, true, false, not, ◌||◌, Option, Some, None, refl}
use Rattle.std.specs.Prelude.{◌==◌}
use Rattle.xinu_model.specs.Isa.Instructions as definition
use Rattle.xinu_model.specs.Isa.Instructions.{Name, Form, Row, Fields, FormU, FormJ, FormI, FormB, FormS, FormShift, FormR, FormFence, FormWhole, fields, row_of}
use Rattle.rv_isa.specs.Words.{decoded, instr_of, instruction_of}
use Rattle.rv_isa.specs.declared.instr.Instr.{Instr}
use Rattle.rv_isa.specs.declared.instr.Instr.TheVariants.{Fence}
use Rattle.rv_disasm.specs.Disassembly.{is_written, with_mnemonic, row_seen}
use Rattle.rv_disasm.specs.Readings.{is_written_by, is_instruction}
use Rattle.rv_disasm.proofs.Encoded.{found}

abbrev is_fence : Form → Bool
is_fence FormFence = true
is_fence form = false

abbrev names_fence : Name → Bool
names_fence definition.Fence = true
names_fence name = false

-- a row of the form of fences is that of `fence`
abbrev is_plain_row : Row → Bool
is_plain_row row = not (is_fence row.form) || names_fence row.name

fence_written : (name : Name) (f : Fields) (word : ℕ) (i : Instr) → names_fence name ≡ true → Some (instr_of name f) ≡ Some i
    → (i ≡ Fence → word ≡ 0x0ff0000f) → (word == 0x0ff0000f) ≡ true
fence_written definition.Fence f word i named is whole =
    let fence : i ≡ Fence = cc in
    let same : word ≡ 0x0ff0000f = whole fence in
    rw same refl
fence_written name f word i named is whole = cc

form_written : (form : Form) (name : Name) (f : Fields) (word : ℕ) (i : Instr) → (not (is_fence form) || names_fence name) ≡ true
    → Some (instr_of name f) ≡ Some i → (i ≡ Fence → word ≡ 0x0ff0000f) → is_written form word ≡ true
form_written FormU name f word i plain is whole = refl
form_written FormJ name f word i plain is whole = refl
form_written FormI name f word i plain is whole = refl
form_written FormB name f word i plain is whole = refl
form_written FormS name f word i plain is whole = refl
form_written FormShift name f word i plain is whole = refl
form_written FormR name f word i plain is whole = refl
form_written FormFence name f word i plain is whole = fence_written name f word i plain is whole
form_written FormWhole name f word i plain is whole = refl

row_written : (o : Option Row) (word : ℕ) (i : Instr) → word < 2 ^ 32 → row_of word ≡ o → decoded o word ≡ Some i
    → (i ≡ Fence → word ≡ 0x0ff0000f) → is_written_by (with_mnemonic o) word ≡ true
row_written None word i fits row is whole = cc
row_written (Some row) word i fits found_row is whole =
    form_written row.form row.name (fields row.form word) word i (found is_plain_row word row fits refl found_row).0 is whole

-- each instruction is written as one, but for the fences that the assembler can't write
pub instruction_written : (word : ℕ) (i : Instr) → word < 2 ^ 32 → instruction_of word ≡ Some i → (i ≡ Fence → word ≡ 0x0ff0000f)
    → is_instruction word ≡ true
unfolding row_seen
instruction_written word i fits is whole = row_written (row_of word) word i fits refl is whole

row_unwritten : (o : Option Row) (word : ℕ) → decoded o word ≡ None → is_written_by (with_mnemonic o) word ≡ false
row_unwritten None word is = refl
row_unwritten (Some row) word is = cc

-- and other words are not
pub other_unwritten : (word : ℕ) → instruction_of word ≡ None → is_instruction word ≡ false
unfolding row_seen
other_unwritten word is = row_unwritten (row_of word) word is
