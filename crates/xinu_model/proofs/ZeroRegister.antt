-- Register x0 stays 0: no instruction writes it.
use Rattle.std.proofs.Common.{◌≡◌, ◌==◌, ℕ, Bool, true, false, cond, if◌then◌else◌, ◌+◌, ◌*◌, ◌/◌, ◌%◌, not, List, Option, None, Some, slice_index, slice_set, refl, ap, ◌∙◌}
use Rattle.std.proofs.lemmas.Bool.{true≢false}
use Rattle.std.proofs.lemmas.List.{get_or-set_other}
use Rattle.xinu_base.specs.Constants.{INITRET}
use Rattle.xinu_base.specs.declared.Hart.{Hart}
use Rattle.xinu_base.specs.declared.Outcome.TheVariants.{Went, Exit, Trap}
use Rattle.xinu_base.specs.declared.Cause.TheVariants.{Fetch, Target, Load, Store}
use Rattle.xinu_model.specs.Isa.Effects.{Executed, wrapped, register, with_register, stops, following, goes, gives, jumps, branches, loads, stores, effect_on, truth, plus, minus, less, less_unsigned, shift_left, shift_right, shift_right_signed, as_it_is}
use Rattle.xinu_model.specs.Isa.Exec.{exec, obeyed, perform}
use Rattle.xinu_model.specs.Memory.{may_access, number_at, with_number}
use Rattle.std.specs.Prelude.{bit_and, bit_or, bit_xor}
use Rattle.xinu_model.specs.Isa.Instructions.{Fields, Name, Row, row_of, sign_extended, Lui, Auipc, Jal, Jalr, Beq, Bne, Blt, Bge, Bltu, Bgeu, Lb, Lh, Lw, Lbu, Lhu, Sb, Sh, Sw, Addi, Slti, Sltiu, Xori, Ori, Andi, Slli, Srli, Srai, Add, Sub, Sll, Slt, Sltu, Xor, Srl, Sra, Or, And, Fence, Ecall, Ebreak}

-- If x0 was 0 before this step, it is 0 after it.
pub record KeepsZero (h : Hart) (did : Executed) : Type 0 where
  pub zero : slice_index h.regs 0 ≡ 0 → slice_index did.hart.regs 0 ≡ 0

-- one of two steps
either : (b : Bool) (h : Hart) (did other : Executed) → KeepsZero h did → KeepsZero h other → KeepsZero h (cond b did other)
either true h did other first second = first
either false h did other first second = second

-- x0 takes no value
taken : (b : Bool) (regs : List ℕ) (n value : ℕ) → (n == 0) ≡ b → slice_index regs 0 ≡ 0 → slice_index (with_register regs n value) 0 ≡ 0
taken true regs n value is zero = ap (λ b. slice_index (cond b regs (slice_set regs n value)) 0) is ∙ zero
taken false regs n value is zero =
    ap (λ b. slice_index (cond b regs (slice_set regs n value)) 0) is ∙ (get_or-set_other regs n 0 value 0 (λ same. true≢false (ap (λ m. m == 0) same ∙ is)) ∙ zero)

-- a step that puts a value into a register
gone : (h : Hart) (memory : List ℕ) (rd value next : ℕ) → KeepsZero h (goes h memory rd value next)
gone h memory rd value next = record { zero = λ zero. taken (rd == 0) h.regs rd value refl zero }

-- a step that writes no register
same : (h : Hart) (did : Executed) → did.hart.regs ≡ h.regs → KeepsZero h did
same h did is = record { zero = λ zero. ap (λ regs. slice_index regs 0) is ∙ zero }

-- what the effects of instructions are made of
gives_kept : (f : Fields) (h : Hart) (memory : List ℕ) (value : ℕ) → KeepsZero h (gives f h memory value)
gives_kept f h memory value = gone h memory f.rd value (following h)

jumps_kept : (f : Fields) (h : Hart) (memory : List ℕ) (target : ℕ) → KeepsZero h (jumps f h memory target)
jumps_kept f h memory target =
    either (target % 4 == 0) h (goes h memory f.rd (following h) target) (stops h memory (Trap Target))
    (gone h memory f.rd (following h) target) (same h (stops h memory (Trap Target)) refl)

branches_kept : (f : Fields) (h : Hart) (memory : List ℕ) (holds : Bool) → KeepsZero h (branches f h memory holds)
branches_kept f h memory holds =
    let target = wrapped (h.pc + f.imm) in
    let taken : Executed = record { outcome = Went; hart = record h { pc = target }; memory = memory } in
    let passed : Executed = record { outcome = Went; hart = record h { pc = following h }; memory = memory } in
    let trapped = stops h memory (Trap Target) in
    either holds h (if target % 4 == 0 then taken else trapped) passed (either (target % 4 == 0) h taken trapped (same h taken refl) (same h trapped refl)) (same h passed refl)

loads_kept : (f : Fields) (h : Hart) (memory : List ℕ) (width : ℕ) (extended : ℕ → ℕ) → KeepsZero h (loads f h memory width extended)
loads_kept f h memory width extended =
    let address = wrapped (register h.regs f.rs1 + f.imm) in
    let value = extended (number_at memory address width) in
    let trapped = stops h memory (Trap Load) in
    either (may_access address width) h (gives f h memory value) trapped (gives_kept f h memory value) (same h trapped refl)

stores_kept : (f : Fields) (h : Hart) (memory : List ℕ) (width : ℕ) → KeepsZero h (stores f h memory width)
stores_kept f h memory width =
    let address = wrapped (register h.regs f.rs1 + f.imm) in
    let stored : Executed = record { outcome = Went; hart = record h { pc = following h }; memory = with_number memory address width (register h.regs f.rs2) } in
    let trapped = stops h memory (Trap Store) in
    either (may_access address width) h stored trapped (same h stored refl) (same h trapped refl)

-- each instruction
kept : (name : Name) (f : Fields) (h : Hart) (memory : List ℕ) (a b : ℕ) → KeepsZero h (effect_on name f h memory a b)
kept Lui f h memory a b = gives_kept f h memory f.imm
kept Auipc f h memory a b = gives_kept f h memory (plus h.pc f.imm)
kept Jal f h memory a b = jumps_kept f h memory (plus h.pc f.imm)
kept Jalr f h memory a b = jumps_kept f h memory (plus a f.imm / 2 * 2)
kept Beq f h memory a b = branches_kept f h memory (a == b)
kept Bne f h memory a b = branches_kept f h memory (not (a == b))
kept Blt f h memory a b = branches_kept f h memory (less a b)
kept Bge f h memory a b = branches_kept f h memory (not (less a b))
kept Bltu f h memory a b = branches_kept f h memory (less_unsigned a b)
kept Bgeu f h memory a b = branches_kept f h memory (not (less_unsigned a b))
kept Lb f h memory a b = loads_kept f h memory 1 (sign_extended 8)
kept Lh f h memory a b = loads_kept f h memory 2 (sign_extended 16)
kept Lw f h memory a b = loads_kept f h memory 4 as_it_is
kept Lbu f h memory a b = loads_kept f h memory 1 as_it_is
kept Lhu f h memory a b = loads_kept f h memory 2 as_it_is
kept Sb f h memory a b = stores_kept f h memory 1
kept Sh f h memory a b = stores_kept f h memory 2
kept Sw f h memory a b = stores_kept f h memory 4
kept Addi f h memory a b = gives_kept f h memory (plus a f.imm)
kept Slti f h memory a b = gives_kept f h memory (truth (less a f.imm))
kept Sltiu f h memory a b = gives_kept f h memory (truth (less_unsigned a f.imm))
kept Xori f h memory a b = gives_kept f h memory (bit_xor a f.imm)
kept Ori f h memory a b = gives_kept f h memory (bit_or a f.imm)
kept Andi f h memory a b = gives_kept f h memory (bit_and a f.imm)
kept Slli f h memory a b = gives_kept f h memory (shift_left a f.imm)
kept Srli f h memory a b = gives_kept f h memory (shift_right a f.imm)
kept Srai f h memory a b = gives_kept f h memory (shift_right_signed a f.imm)
kept Add f h memory a b = gives_kept f h memory (plus a b)
kept Sub f h memory a b = gives_kept f h memory (minus a b)
kept Sll f h memory a b = gives_kept f h memory (shift_left a b)
kept Slt f h memory a b = gives_kept f h memory (truth (less a b))
kept Sltu f h memory a b = gives_kept f h memory (truth (less_unsigned a b))
kept Xor f h memory a b = gives_kept f h memory (bit_xor a b)
kept Srl f h memory a b = gives_kept f h memory (shift_right a b)
kept Sra f h memory a b = gives_kept f h memory (shift_right_signed a b)
kept Or f h memory a b = gives_kept f h memory (bit_or a b)
kept And f h memory a b = gives_kept f h memory (bit_and a b)
kept Fence f h memory a b = record { zero = λ zero. zero }
kept Ecall f h memory a b = record { zero = λ zero. zero }
kept Ebreak f h memory a b = record { zero = λ zero. zero }

-- the instruction of a row, or of none
obeyed_kept : (row : Option Row) (word : ℕ) (h : Hart) (memory : List ℕ) → KeepsZero h (obeyed row word h memory)
obeyed_kept None word h memory = same h _ refl
obeyed_kept (Some row) word h memory = kept row.name _ h memory _ _

-- what a word does
pub zero_register : (word : ℕ) (h : Hart) (memory : List ℕ) → KeepsZero h (perform word h memory)
zero_register word h memory = obeyed_kept (row_of word) word h memory

-- a step
pub zero_register_of_step : (h : Hart) (memory : List ℕ) → KeepsZero h (exec h memory)
unfolding exec
zero_register_of_step h memory =
    let trapped = stops h memory (Trap Fetch) in
    either (h.pc == INITRET) h (stops h memory Exit) (if may_access h.pc 4 then perform (number_at memory h.pc 4) h memory else trapped) (same h (stops h memory Exit) refl)
    (either (may_access h.pc 4) h (perform (number_at memory h.pc 4) h memory) trapped (zero_register (number_at memory h.pc 4) h memory) (same h trapped refl))
