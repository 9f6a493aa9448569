-- The statement of each form, with the operands as they are read.
use Rattle.std.proofs.Common.{◌≡◌, ℕ, ◌+◌, ◌*◌, ◌/◌, ◌%◌, ◌^◌, ◌<◌, ◌≤◌, true, false, ◌&&◌, List, [], ◌∷◌, pos, negsuc, Some, refl, ap, arith, int_le}
use Rattle.std.specs.Prelude.{◌==◌}
use Rattle.std.proofs.lemmas.Bool.Decides.{nat_tests}
use lib.Signed.{mag}
use Rattle.xinu_model.specs.Isa.Instructions.{FormU, FormJ, FormI, FormB, FormS, FormShift, FormR}
use Rattle.xinu_model.specs.Isa.Instructions.{rd_of, rs1_of, rs2_of, imm_i, imm_s, sign_extended}
use Rattle.xinu_model.specs.Words.{signed}
use Rattle.asm_syntax.specs.Meanings.{Instruction}
use Rattle.asm_syntax.specs.Operands.{Name, Number, Offset}
use Rattle.asm_syntax.specs.Statements.{Code, Branch, JumpTo, stated, word_of}
use Rattle.asm_syntax.specs.Values.{register_of}
use Rattle.rv_disasm.specs.OperandTexts.{register_name}
use Rattle.rv_disasm.proofs.RegisterNames.{named}
use Rattle.rv_disasm.proofs.Encoded.{again_u, again_i, again_s, again_shift, again_r}

-- a register's name is known
known : (n : ℕ) → n < 32 → register_of (register_name n) ≡ Some n
known n less = (named n less).known

-- a number of 12 bits with its sign is in the range of such numbers, and as a word it is those bits
pub low_within : (n : ℕ) → n < 4096 → (int_le (negsuc 2047) (signed (sign_extended 12 n)) && int_le (signed (sign_extended 12 n)) (pos 2047)) ≡ true
low_within n less = grind (arith, nat_tests)

pub low_small : (n : ℕ) → n < 4096 → mag (signed (sign_extended 12 n)) < 4294967296
low_small n less = grind (arith, nat_tests)

pub signed_back : (n : ℕ) → n < 2 ^ 32 → word_of (signed n) ≡ n
signed_back n less = grind (arith, nat_tests)

extended_less : (n : ℕ) → n < 4096 → sign_extended 12 n < 2 ^ 32
extended_less n less = grind (arith, nat_tests)

low_back : (n : ℕ) → n < 4096 → word_of (signed (sign_extended 12 n)) ≡ sign_extended 12 n
low_back n less = signed_back (sign_extended 12 n) (extended_less n less)

small_within : (n most : ℕ) → n ≤ most → (int_le (pos 0) (pos n) && int_le (pos n) (pos most)) ≡ true
small_within n most less = grind (arith, nat_tests)

pub form_u : (w bits : ℕ) → w < 2 ^ 32 → bits ≡ w % 128
    → stated (Some (Instruction bits FormU)) (Some (Name (register_name (rd_of w)) ∷ Number (pos (w / 4096)) ∷ [])) ≡ Code (w ∷ [])
form_u w bits fits is =
    rw (known (rd_of w) (omega arith), small_within (w / 4096) 1048575 (omega arith)) (ap (λ (n : ℕ). Code (n ∷ [])) (again_u w bits is))

pub form_j : (w bits : ℕ) (label : List ℕ)
    → stated (Some (Instruction bits FormJ)) (Some (Name (register_name (rd_of w)) ∷ Name label ∷ [])) ≡ JumpTo (rd_of w) label
form_j w bits label = rw (known (rd_of w) (omega arith)) refl

pub form_i_number : (w bits : ℕ) → w < 2 ^ 32 → bits ≡ w / 4096 % 8 * 4096 + w % 128 → (bits % 128 == 0x13) ≡ true
    → stated (Some (Instruction bits FormI)) (Some (Name (register_name (rd_of w)) ∷ Name (register_name (rs1_of w)) ∷ Number (signed (imm_i w)) ∷ []))
    ≡ Code (w ∷ [])
form_i_number w bits fits is computes =
    let n = w / 1048576 % 4096 in
    rw (computes, known (rd_of w) (omega arith), known (rs1_of w) (omega arith), low_within n (omega arith), low_back n (omega arith))
    (ap (λ (k : ℕ). Code (k ∷ [])) (again_i w bits fits is))

pub form_i_offset : (w bits : ℕ) → w < 2 ^ 32 → bits ≡ w / 4096 % 8 * 4096 + w % 128 → (bits % 128 == 0x13) ≡ false
    → stated (Some (Instruction bits FormI)) (Some (Name (register_name (rd_of w)) ∷ Offset (signed (imm_i w)) (register_name (rs1_of w)) ∷ []))
    ≡ Code (w ∷ [])
form_i_offset w bits fits is loads =
    let n = w / 1048576 % 4096 in
    rw (loads, known (rd_of w) (omega arith), known (rs1_of w) (omega arith), low_within n (omega arith), low_back n (omega arith))
    (ap (λ (k : ℕ). Code (k ∷ [])) (again_i w bits fits is))

pub form_b : (w bits : ℕ) (label : List ℕ)
    → stated (Some (Instruction bits FormB)) (Some (Name (register_name (rs1_of w)) ∷ Name (register_name (rs2_of w)) ∷ Name label ∷ []))
    ≡ Branch bits (rs1_of w) (rs2_of w) label
form_b w bits label = rw (known (rs1_of w) (omega arith), known (rs2_of w) (omega arith)) refl

pub form_s : (w bits : ℕ) → w < 2 ^ 32 → bits ≡ w / 4096 % 8 * 4096 + w % 128
    → stated (Some (Instruction bits FormS)) (Some (Name (register_name (rs2_of w)) ∷ Offset (signed (imm_s w)) (register_name (rs1_of w)) ∷ []))
    ≡ Code (w ∷ [])
form_s w bits fits is =
    let n = w / 33554432 % 128 * 32 + w / 128 % 32 in
    rw (known (rs2_of w) (omega arith), known (rs1_of w) (omega arith), low_within n (omega arith), low_back n (omega arith))
    (ap (λ (k : ℕ). Code (k ∷ [])) (again_s w bits fits is))

pub form_shift : (w bits : ℕ) → w < 2 ^ 32 → bits ≡ w / 33554432 % 128 * 33554432 + (w / 4096 % 8 * 4096 + w % 128)
    → stated (Some (Instruction bits FormShift)) (Some (Name (register_name (rd_of w)) ∷ Name (register_name (rs1_of w)) ∷ Number (pos (rs2_of w)) ∷ []))
    ≡ Code (w ∷ [])
form_shift w bits fits is =
    let whole : rs2_of w % 4294967296 ≡ rs2_of w = omega arith in
    rw (known (rd_of w) (omega arith), known (rs1_of w) (omega arith), small_within (rs2_of w) 31 (omega arith), whole)
    (ap (λ (k : ℕ). Code (k ∷ [])) (again_shift w bits fits is))

pub form_r : (w bits : ℕ) → w < 2 ^ 32 → bits ≡ w / 33554432 % 128 * 33554432 + (w / 4096 % 8 * 4096 + w % 128)
    → stated (Some (Instruction bits FormR)) (Some (Name (register_name (rd_of w)) ∷ Name (register_name (rs1_of w)) ∷ Name (register_name (rs2_of w)) ∷ []))
    ≡ Code (w ∷ [])
form_r w bits fits is =
    rw (known (rd_of w) (omega arith), known (rs1_of w) (omega arith), known (rs2_of w) (omega arith))
    (ap (λ (k : ℕ). Code (k ∷ [])) (again_r w bits fits is))
