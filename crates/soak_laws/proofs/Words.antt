-- What the words of programs do: `lui` and `addi` give a register a value, `ecall` makes a call, and `jal` jumps back.
use Rattle.std.proofs.Common.{◌≡◌, ◌∙◌, ℕ, zero, suc, ◌+◌, ◌-◌, ◌*◌, ◌/◌, ◌%◌, ◌^◌, ◌≤◌, ◌<◌, ◌==◌, cond, List, length, set, get_or, Some, refl, sym, ap, subst, arith}
use Rattle.std.specs.Prelude.{slice_index}
use Rattle.std.proofs.lemmas.Bool.{cond_both, eq-eqb, le-ltb, lt-ltb}
use Rattle.std.proofs.lemmas.List.{get_or-set_same}
use Rattle.std.proofs.Math.ListN.{length-set}
use Rattle.rv_isa.proofs.RowByFields.{row_of-parts}
use Rattle.rv_isa.specs.Encoding.{placed}
use Rattle.rv_isa.specs.RowFields.{funct3_of, funct7_of, row_by}
use Rattle.soak_laws.specs.Code.{IsPlain, JumpsBack, LoadsRegister, MakesCall, PutsNumber, made_calls}
use Rattle.xinu_base.specs.declared.registers.Cause.TheVariants.{Target}
use Rattle.xinu_base.specs.declared.registers.Hart.{Hart}
use Rattle.xinu_base.specs.declared.registers.Outcome.TheVariants.{Went, Trap}
use Rattle.xinu_model.specs.Isa.Effects.{following, gives, goes, jumps, plus, register, stops, with_register}
use Rattle.xinu_model.specs.Isa.Exec.{obeyed}
use Rattle.xinu_model.specs.Isa.Instructions.{Addi, Fields, FormI, FormJ, FormU, FormWhole, Jal, Lui, fields, imm_i, imm_j, instruction, rd_of, row_of, rows, rs1_of, sign_extended}

-- ---- rows

lui_row : (w : ℕ) → w < 2 ^ 32 → w % 128 ≡ 55 → row_of w ≡ Some (instruction Lui 0x7f 0x37 FormU)
lui_row w fits code = row_of-parts w fits ∙ ap (λ (o : ℕ). row_by rows o (funct3_of w) (funct7_of w) w) code

addi_row : (w : ℕ) → w < 2 ^ 32 → w % 128 ≡ 19 → w / 4096 % 8 ≡ 0 → row_of w ≡ Some (instruction Addi 0x707f 0x13 FormI)
addi_row w fits code three =
    row_of-parts w fits
    ∙ ap (λ (o : ℕ). row_by rows o (funct3_of w) (funct7_of w) w) code
    ∙ ap (λ (n : ℕ). row_by rows 19 n (funct7_of w) w) three

jal_row : (w : ℕ) → w < 2 ^ 32 → w % 128 ≡ 111 → row_of w ≡ Some (instruction Jal 0x7f 0x6f FormJ)
jal_row w fits code = row_of-parts w fits ∙ ap (λ (o : ℕ). row_by rows o (funct3_of w) (funct7_of w) w) code

-- ---- plain instructions

-- a register takes a value, and the next instruction follows
given : (f : Fields) (h : Hart) (memory : List ℕ) (value : ℕ) → length h.regs ≡ 32 → IsPlain h memory (gives f h memory value)
given f h memory value many = record {
  outcome = refl;
  pc = refl;
  regs = cond_both (f.rd == 0) h.regs (set h.regs f.rd value) (λ regs. length regs ≡ 32) (λ _. many) (λ _. length-set h.regs f.rd value ∙ many);
  ram = refl;
}

pub lui_loads : (w : ℕ) → w < 2 ^ 32 → w % 128 ≡ 55 → LoadsRegister w
lui_loads w fits code h memory many =
    subst (λ found. IsPlain h memory (obeyed found w h memory)) (sym (lui_row w fits code)) (given (fields FormU w) h memory (fields FormU w).imm many)

pub addi_loads : (w : ℕ) → w < 2 ^ 32 → w % 128 ≡ 19 → w / 4096 % 8 ≡ 0 → LoadsRegister w
addi_loads w fits code three h memory many =
    let f = fields FormI w in
    subst (λ found. IsPlain h memory (obeyed found w h memory)) (sym (addi_row w fits code three))
    (given f h memory (plus (register h.regs f.rs1) f.imm) many)

-- ---- the number of a call

-- an `addi` of a7 and x0 puts its immediate into a7
sum_put : (f : Fields) (h : Hart) (memory : List ℕ) (n : ℕ) → f.rd ≡ 17 → f.rs1 ≡ 0 → f.imm ≡ n → n < 2048 → length h.regs ≡ 32
    → slice_index (gives f h memory (plus (register h.regs f.rs1) f.imm)).hart.regs 17 ≡ n
sum_put f h memory n rd rs1 imm small many =
    ap (λ r. slice_index (with_register h.regs r (plus (register h.regs f.rs1) f.imm)) 17) rd
    ∙ get_or-set_same h.regs 17 (plus (register h.regs f.rs1) f.imm) 0 (omega arith)
    ∙ ap (λ r. plus (register h.regs r) f.imm) rs1
    ∙ ap (λ i. plus 0 i) imm
    ∙ sum
  where
    sum : plus 0 n ≡ n
    sum = omega arith

pub puts_number : (w n i : ℕ) → w ≡ 0x13 + placed FormI 17 0 0 n → n < 2048 → n ≡ get_or made_calls i 1 → PutsNumber w
puts_number w n i is small call = record {
  plain = addi_loads w (omega arith) (omega arith) (omega arith);
  number = λ h memory many. (
    i,
    subst (λ found. slice_index (obeyed found w h memory).hart.regs 17 ≡ get_or made_calls i 1) (sym (addi_row w (omega arith) (omega arith) (omega arith)))
        (sum_put (fields FormI w) h memory n rd rs1 imm small many ∙ call),
  );
}
  where
    rd : rd_of w ≡ 17
    rd = omega arith

    rs1 : rs1_of w ≡ 0
    rs1 = omega arith

    field : w / 2 ^ 20 % 2 ^ 12 ≡ n
    field = omega arith

    imm : imm_i w ≡ n
    imm = ap (sign_extended 12) field ∙ ap (λ b. cond b n (n + (2 ^ 32 - 2 ^ 12))) (lt-ltb n 2048 small)

-- ---- calls

pub ecall_calls : MakesCall (0x73 + placed FormWhole 0 0 0 0)
ecall_calls h memory = refl

-- ---- the jump back

-- a jump by an offset in two's complement
back : (f : Fields) (h : Hart) (memory : List ℕ) (first n : ℕ) → f.rd ≡ 0 → f.imm ≡ (2 ^ 32 - 4 * n) % 2 ^ 32 → h.pc ≡ first + 4 * n → first % 4 ≡ 0
    → h.pc < 2 ^ 32 → jumps f h memory (plus h.pc f.imm) ≡ record { outcome = Went; hart = record h { pc = first }; memory = memory }
back f h memory first n rd imm pc whole fits =
    ap (λ t. jumps f h memory t) target
    ∙ ap (λ b. cond b (goes h memory f.rd (following h) first) (stops h memory (Trap Target))) (eq-eqb (first % 4) 0 whole)
    ∙ ap (λ r. goes h memory r (following h) first) rd
  where
    target : plus h.pc f.imm ≡ first
    target = omega arith

-- an offset comes back from its bits
field_of : (u w : ℕ) → u % 2 ≡ 0 → w ≡ 0x6f + placed FormJ 0 0 0 u
    → w / 2 ^ 31 % 2 ^ 1 * 2 ^ 20 + w / 2 ^ 12 % 2 ^ 8 * 2 ^ 12 + w / 2 ^ 20 % 2 ^ 1 * 2 ^ 11 + w / 2 ^ 21 % 2 ^ 10 * 2 ≡ u % 2097152
field_of u w even is = omega arith

offset : (n w : ℕ) → n < 1024 → w ≡ 0x6f + placed FormJ 0 0 0 ((4294967296 - 4 * n) % 4294967296) → imm_j w ≡ (4294967296 - 4 * n) % 4294967296
offset zero w few is = ap imm_j is
offset (suc n) w few is =
    let u = (4294967296 - 4 * suc n) % 4294967296 in
    let field = field_of u w (omega arith) is in
    let high : 1048576 ≤ u % 2097152 = omega arith in
    let whole : u % 2097152 + (2 ^ 32 - 2 ^ 21) ≡ u = omega arith in
    ap (sign_extended 21) field
    ∙ ap (λ b. cond b (u % 2097152) (u % 2097152 + (2 ^ 32 - 2 ^ 21))) (le-ltb (u % 2097152) 1048576 high)
    ∙ whole

pub jumps_back : (n w : ℕ) → n < 1024 → w ≡ 0x6f + placed FormJ 0 0 0 ((4294967296 - 4 * n) % 4294967296) → JumpsBack n w
jumps_back n w few is h memory first pc whole fits =
    subst (λ found. obeyed found w h memory ≡ record { outcome = Went; hart = record h { pc = first }; memory = memory })
    (sym (jal_row w (omega arith) (omega arith)))
    (back (fields FormJ w) h memory first n (omega arith) (offset n w few is) pc whole fits)
