-- The word of a row is the row's bits and its fields in their places.
use Rattle.std.proofs.Common.{◌≡◌, ℕ, ◌+◌, ◌*◌, ◌/◌, ◌%◌, ◌^◌, ◌<◌, Bool, true, false, cond, ◌&&◌, List, [], ◌∷◌, Option, Some, refl, sym, ap, ◌∙◌, arith, ltb-true, eqb-true}
use Rattle.std.specs.Prelude.{◌==◌, nat_lt}
use Rattle.std.specs.List.{list_all}
use Rattle.std.proofs.lemmas.Bool.{and_parts}
use Rattle.std.proofs.lemmas.Bool.Decides.{nat_tests}
use Rattle.xinu_model.specs.Isa.Instructions.{Row, Form, FormU, FormJ, FormI, FormB, FormS, FormShift, FormR, FormFence, FormWhole, rows, row_of}
use Rattle.xinu_model.specs.Isa.Instructions.{rd_of, rs1_of, rs2_of, imm_j, imm_i, imm_b, imm_s, sign_extended}
use Rattle.rv_isa.specs.Encoding.{placed}
use Rattle.rv_isa.specs.RowFields.{opcode_of, funct3_of, funct7_of, has_parts, row_by}
use Rattle.rv_isa.proofs.RowByFields.{row_of-parts}

-- whether a mask and bits are those of some row of a form
abbrev pub suits : Form → ℕ → ℕ → Bool
suits FormU mask bits = (mask == 0x7f) && nat_lt bits 128
suits FormJ mask bits = (mask == 0x7f) && (bits == 0x6f)
suits FormI mask bits = (mask == 0x707f) && nat_lt (bits % 4096) 128 && nat_lt bits 32768
suits FormB mask bits = (mask == 0x707f) && nat_lt (bits % 4096) 128 && nat_lt bits 32768
suits FormS mask bits = (mask == 0x707f) && nat_lt (bits % 4096) 128 && nat_lt bits 32768
suits FormShift mask bits = (mask == 0xfe00707f) && nat_lt (bits % 4096) 128 && nat_lt (bits % 33554432) 32768
suits FormR mask bits = (mask == 0xfe00707f) && nat_lt (bits % 4096) 128 && nat_lt (bits % 33554432) 32768
suits FormFence mask bits = bits == 0xf
suits FormWhole mask bits = mask == 0xffffffff

found_step : (x : Bool) (test : Row → Bool) (q : Row) (rest : Option Row) (o f s w : ℕ) (r : Row) → has_parts o f s w q.mask q.bits ≡ x → test q ≡ true
    → (rest ≡ Some r → (test r ≡ true) × (has_parts o f s w r.mask r.bits ≡ true)) → cond x (Some q) rest ≡ Some r
    → (test r ≡ true) × (has_parts o f s w r.mask r.bits ≡ true)
found_step true test q rest o f s w r has holds more is =
    let same : q ≡ r = cc in
    (ap test (sym same) ∙ holds, ap (λ (row : Row). has_parts o f s w row.mask row.bits) (sym same) ∙ has)
found_step false test q rest o f s w r has holds more is = more is

-- what is true of each row is true of the one that is found, and the word has its parts
found_by : (test : Row → Bool) (rs : List Row) (o f s w : ℕ) (r : Row) → list_all test rs ≡ true → row_by rs o f s w ≡ Some r
    → (test r ≡ true) × (has_parts o f s w r.mask r.bits ≡ true)
found_by test [] o f s w r all is = cc
found_by test (q ∷ rs) o f s w r all is =
    let both = and_parts (test q) (list_all test rs) all in
    found_step (has_parts o f s w q.mask q.bits) test q (row_by rs o f s w) o f s w r refl both.0 (found_by test rs o f s w r both.1) is

pub found : (test : Row → Bool) (w : ℕ) (r : Row) → w < 2 ^ 32 → list_all test rows ≡ true → row_of w ≡ Some r
    → (test r ≡ true) × (has_parts (opcode_of w) (funct3_of w) (funct7_of w) w r.mask r.bits ≡ true)
found test w r fits all is =
    found_by test rows (opcode_of w) (funct3_of w) (funct7_of w) w r all (sym (row_of-parts w fits) ∙ is)

-- fixed bits that have only an opcode and funct3
pub bits_i : (w mask bits : ℕ) → suits FormI mask bits ≡ true → has_parts (opcode_of w) (funct3_of w) (funct7_of w) w mask bits ≡ true → bits ≡ w / 4096 % 8 * 4096 + w % 128
bits_i w mask bits suit has =
    let last = and_parts ((mask == 0x707f) && nat_lt (bits % 4096) 128) (nat_lt bits 32768) suit in
    let both = and_parts (mask == 0x707f) (nat_lt (bits % 4096) 128) last.0 in
    let is : mask ≡ 0x707f = eqb-true _ _ both.0 in
    let parts = and_parts (w % 128 == bits % 128) (w / 4096 % 8 == bits / 4096) (rw is at has) in
    omega (arith, eqb-true _ _ parts.0, eqb-true _ _ parts.1, ltb-true _ _ both.1, ltb-true _ _ last.1)

-- fixed bits that have funct7 too
pub bits_r : (w mask bits : ℕ) → suits FormR mask bits ≡ true → has_parts (opcode_of w) (funct3_of w) (funct7_of w) w mask bits ≡ true → bits ≡ w / 33554432 % 128 * 33554432 + (w / 4096 % 8 * 4096 + w % 128)
bits_r w mask bits suit has =
    let last = and_parts ((mask == 0xfe00707f) && nat_lt (bits % 4096) 128) (nat_lt (bits % 33554432) 32768) suit in
    let both = and_parts (mask == 0xfe00707f) (nat_lt (bits % 4096) 128) last.0 in
    let is : mask ≡ 0xfe00707f = eqb-true _ _ both.0 in
    let whole = and_parts ((w % 128 == bits % 128) && (w / 4096 % 8 == bits / 4096 % 8)) (w / 33554432 % 128 == bits / 33554432) (rw is at has) in
    let parts = and_parts (w % 128 == bits % 128) (w / 4096 % 8 == bits / 4096 % 8) whole.0 in
    omega (arith, eqb-true _ _ parts.0, eqb-true _ _ parts.1, eqb-true _ _ whole.1, ltb-true _ _ both.1, ltb-true _ _ last.1)

-- fixed bits that are an opcode
pub bits_u : (w mask bits : ℕ) → suits FormU mask bits ≡ true → has_parts (opcode_of w) (funct3_of w) (funct7_of w) w mask bits ≡ true → bits ≡ w % 128
bits_u w mask bits suit has =
    let both = and_parts (mask == 0x7f) (nat_lt bits 128) suit in
    let is : mask ≡ 0x7f = eqb-true _ _ both.0 in
    sym (eqb-true _ _ (rw is at has))

pub bits_j : (w mask bits : ℕ) → suits FormJ mask bits ≡ true → has_parts (opcode_of w) (funct3_of w) (funct7_of w) w mask bits ≡ true → (bits ≡ 0x6f) × (w % 128 ≡ 0x6f)
bits_j w mask bits suit has =
    let both = and_parts (mask == 0x7f) (bits == 0x6f) suit in
    let is : mask ≡ 0x7f = eqb-true _ _ both.0 in
    let b : bits ≡ 0x6f = eqb-true _ _ both.1 in
    (b, eqb-true _ _ (rw is at has) ∙ b)

pub bits_whole : (w mask bits : ℕ) → suits FormWhole mask bits ≡ true → has_parts (opcode_of w) (funct3_of w) (funct7_of w) w mask bits ≡ true → bits ≡ w
bits_whole w mask bits suit has =
    let is : mask ≡ 0xffffffff = eqb-true _ _ suit in
    let parts = and_parts (w % 128 == bits % 128) (w == bits) (rw is at has) in
    sym (eqb-true _ _ parts.1)

-- the word again, form by form
pub again_u : (w bits : ℕ) → bits ≡ w % 128 → bits + placed FormU (rd_of w) 0 0 (w / 4096 * 4096) ≡ w
again_u w bits is = omega arith

low_12 : (n : ℕ) → sign_extended 12 n % 4096 ≡ n % 4096
low_12 n = grind (arith, nat_tests)

low_13 : (n : ℕ) → sign_extended 13 n % 8192 ≡ n % 8192
low_13 n = grind (arith, nat_tests)

low_21 : (n : ℕ) → sign_extended 21 n % 2097152 ≡ n % 2097152
low_21 n = grind (arith, nat_tests)

placed_s : (w imm bits : ℕ) → w < 2 ^ 32 → bits ≡ w / 4096 % 8 * 4096 + w % 128 → imm % 4096 ≡ (w / 33554432 % 128 * 32 + w / 128 % 32) % 4096
    → bits + placed FormS 0 (rs1_of w) (rs2_of w) imm ≡ w
placed_s w imm bits fits is low = omega arith

placed_b : (w imm bits : ℕ) → w < 2 ^ 32 → bits ≡ w / 4096 % 8 * 4096 + w % 128
    → imm % 8192 ≡ (w / 2147483648 % 2 * 4096 + w / 128 % 2 * 2048 + w / 33554432 % 64 * 32 + w / 256 % 16 * 2) % 8192
    → bits + placed FormB 0 (rs1_of w) (rs2_of w) imm ≡ w
placed_b w imm bits fits is low = omega arith

placed_j : (w imm : ℕ) → w < 2 ^ 32 → w % 128 ≡ 0x6f
    → imm % 2097152 ≡ (w / 2147483648 % 2 * 1048576 + w / 4096 % 256 * 4096 + w / 1048576 % 2 * 2048 + w / 2097152 % 1024 * 2) % 2097152
    → 0x6f + placed FormJ (rd_of w) 0 0 imm ≡ w
placed_j w imm fits is low = omega arith

pub again_i : (w bits : ℕ) → w < 2 ^ 32 → bits ≡ w / 4096 % 8 * 4096 + w % 128 → bits + placed FormI (rd_of w) (rs1_of w) 0 (imm_i w) ≡ w
again_i w bits fits is = let imm : imm_i w % 4096 ≡ w / 1048576 % 4096 % 4096 = low_12 (w / 1048576 % 4096) in rw imm (omega arith)

pub again_s : (w bits : ℕ) → w < 2 ^ 32 → bits ≡ w / 4096 % 8 * 4096 + w % 128 → bits + placed FormS 0 (rs1_of w) (rs2_of w) (imm_s w) ≡ w
again_s w bits fits is = placed_s w (imm_s w) bits fits is (low_12 (w / 33554432 % 128 * 32 + w / 128 % 32))

pub again_b : (w bits : ℕ) → w < 2 ^ 32 → bits ≡ w / 4096 % 8 * 4096 + w % 128 → bits + placed FormB 0 (rs1_of w) (rs2_of w) (imm_b w) ≡ w
again_b w bits fits is = placed_b w (imm_b w) bits fits is (low_13 (w / 2147483648 % 2 * 4096 + w / 128 % 2 * 2048 + w / 33554432 % 64 * 32 + w / 256 % 16 * 2))

pub again_j : (w : ℕ) → w < 2 ^ 32 → w % 128 ≡ 0x6f → 0x6f + placed FormJ (rd_of w) 0 0 (imm_j w) ≡ w
again_j w fits is = placed_j w (imm_j w) fits is (low_21 (w / 2147483648 % 2 * 1048576 + w / 4096 % 256 * 4096 + w / 1048576 % 2 * 2048 + w / 2097152 % 1024 * 2))

pub again_shift : (w bits : ℕ) → w < 2 ^ 32 → bits ≡ w / 33554432 % 128 * 33554432 + (w / 4096 % 8 * 4096 + w % 128) → bits + placed FormShift (rd_of w) (rs1_of w) 0 (rs2_of w) ≡ w
again_shift w bits fits is = omega arith

pub again_r : (w bits : ℕ) → w < 2 ^ 32 → bits ≡ w / 33554432 % 128 * 33554432 + (w / 4096 % 8 * 4096 + w % 128) → bits + placed FormR (rd_of w) (rs1_of w) (rs2_of w) 0 ≡ w
again_r w bits fits is = omega arith
