-- What each instruction does to the registers, the pc and RAM (RISC-V unprivileged manual, chapter "RV32I Base Integer Instruction Set").
-- The traps are those of this machine: a transfer that traps changes nothing.
use Rattle.std.specs.Prelude.{ℕ, ◌+◌, ◌-◌, ◌*◌, ◌/◌, ◌%◌, ◌^◌, Bool, not, nat_lt, int_lt, ◌==◌, if◌then◌else◌, List, slice_index, slice_set, bit_and, bit_or, bit_xor}
use Rattle.std.specs.Int.{w32, cast_unsigned, int_shr}
use Rattle.xinu_base.specs.declared.Hart.{Hart}
use Rattle.xinu_base.specs.declared.Outcome.{Outcome}
use Rattle.xinu_base.specs.declared.Outcome.TheVariants.{Went, Call, Trap}
use Rattle.xinu_base.specs.declared.Cause.TheVariants.{Break, Target, Load, Store}
use Rattle.xinu_model.specs.Memory.{may_access, number_at, with_number}
use Rattle.xinu_model.specs.Words.{signed}
use Rattle.xinu_model.specs.Isa.Instructions.{Name, Fields, sign_extended, Lui, Auipc, Jal, Jalr, Beq, Bne, Blt, Bge, Bltu, Bgeu, Lb, Lh, Lw, Lbu, Lhu, Sb, Sh, Sw, Addi, Slti, Sltiu, Xori, Ori, Andi, Slli, Srli, Srai, Add, Sub, Sll, Slt, Sltu, Xor, Srl, Sra, Or, And, Fence, Ecall, Ebreak}

-- what came of one step of a process
pub record Executed : Type 0 where
  pub outcome : Outcome
  pub hart : Hart
  pub memory : List ℕ

-- arithmetic wraps at 32 bits
abbrev pub wrapped : ℕ → ℕ
wrapped n = n % 2 ^ 32

-- the value of a comparison: 1 if it holds, else 0
abbrev pub truth : Bool → ℕ
truth holds = if holds then 1 else 0

-- what a register reads as: x0 reads as 0
abbrev pub register : List ℕ → ℕ → ℕ
register regs n = if n == 0 then 0 else slice_index regs n

-- the registers once a value was put into one: x0 takes none
abbrev pub with_register : List ℕ → ℕ → ℕ → List ℕ
with_register regs n value = if n == 0 then regs else slice_set regs n value

-- nothing is changed
abbrev pub stops : Hart → List ℕ → Outcome → Executed
stops h memory outcome = record { outcome = outcome; hart = h; memory = memory }

-- the address of the instruction that follows
abbrev pub following : Hart → ℕ
following h = wrapped (h.pc + 4)

-- a register takes a value, and the process goes on at an address
abbrev pub goes : Hart → List ℕ → ℕ → ℕ → ℕ → Executed
goes h memory rd value next =
    record { outcome = Went; hart = record { regs = with_register h.regs rd value; pc = next }; memory = memory }

-- the destination register takes a value
abbrev pub gives : Fields → Hart → List ℕ → ℕ → Executed
gives f h memory value = goes h memory f.rd value (following h)

-- the destination register takes the address of the instruction that follows, and the process goes on at a target, if that is a multiple of 4
abbrev pub jumps : Fields → Hart → List ℕ → ℕ → Executed
jumps f h memory target =
    if target % 4 == 0 then goes h memory f.rd (following h) target else stops h memory (Trap Target)

-- if the condition holds the process goes on at a target, if that is a multiple of 4, and else after the branch
abbrev pub branches : Fields → Hart → List ℕ → Bool → Executed
branches f h memory holds =
    let target = wrapped (h.pc + f.imm) in
    if holds then (if target % 4 == 0 then (record { outcome = Went; hart = record h { pc = target }; memory = memory }) else stops h memory (Trap Target))
    else (record { outcome = Went; hart = record h { pc = following h }; memory = memory })

-- the destination register takes what was loaded, extended to a word
abbrev pub loads : Fields → Hart → List ℕ → ℕ → (ℕ → ℕ) → Executed
loads f h memory width extended =
    let address = wrapped (register h.regs f.rs1 + f.imm) in
    if may_access address width then gives f h memory (extended (number_at memory address width)) else stops h memory (Trap Load)

-- RAM takes the lowest bytes of the second source register
abbrev pub stores : Fields → Hart → List ℕ → ℕ → Executed
stores f h memory width =
    let address = wrapped (register h.regs f.rs1 + f.imm) in
    if may_access address width then (record { outcome = Went; hart = record h { pc = following h }; memory = with_number memory address width (register h.regs f.rs2) })
    else stops h memory (Trap Store)

-- sums, differences and shifts of words
abbrev pub plus : ℕ → ℕ → ℕ
plus a b = wrapped (a + b)

abbrev pub minus : ℕ → ℕ → ℕ
minus a b = wrapped (a + (2 ^ 32 - b))

-- a shift takes the lowest 5 bits of its amount
abbrev pub amount : ℕ → ℕ
amount n = n % 32

abbrev pub shift_left : ℕ → ℕ → ℕ
shift_left a n = wrapped (a * 2 ^ amount n)

-- zeros are shifted in from above
abbrev pub shift_right : ℕ → ℕ → ℕ
shift_right a n = a / 2 ^ amount n

-- the sign is shifted in from above
abbrev pub shift_right_signed : ℕ → ℕ → ℕ
shift_right_signed a n = cast_unsigned w32 (int_shr (signed a) (amount n))

-- whether one word is less than another, as signed numbers and as unsigned numbers
abbrev pub less : ℕ → ℕ → Bool
less a b = int_lt (signed a) (signed b)

abbrev pub less_unsigned : ℕ → ℕ → Bool
less_unsigned a b = nat_lt a b

-- what a loaded number becomes
abbrev pub as_it_is : ℕ → ℕ
as_it_is n = n

-- The effect of each instruction. `a` and `b` are the values of the source registers.
abbrev pub effect_on : Name → Fields → Hart → List ℕ → ℕ → ℕ → Executed
effect_on Lui f h memory a b = gives f h memory f.imm
effect_on Auipc f h memory a b = gives f h memory (plus h.pc f.imm)
effect_on Jal f h memory a b = jumps f h memory (plus h.pc f.imm)
effect_on Jalr f h memory a b = jumps f h memory (plus a f.imm / 2 * 2)
effect_on Beq f h memory a b = branches f h memory (a == b)
effect_on Bne f h memory a b = branches f h memory (not (a == b))
effect_on Blt f h memory a b = branches f h memory (less a b)
effect_on Bge f h memory a b = branches f h memory (not (less a b))
effect_on Bltu f h memory a b = branches f h memory (less_unsigned a b)
effect_on Bgeu f h memory a b = branches f h memory (not (less_unsigned a b))
effect_on Lb f h memory a b = loads f h memory 1 (sign_extended 8)
effect_on Lh f h memory a b = loads f h memory 2 (sign_extended 16)
effect_on Lw f h memory a b = loads f h memory 4 as_it_is
effect_on Lbu f h memory a b = loads f h memory 1 as_it_is
effect_on Lhu f h memory a b = loads f h memory 2 as_it_is
effect_on Sb f h memory a b = stores f h memory 1
effect_on Sh f h memory a b = stores f h memory 2
effect_on Sw f h memory a b = stores f h memory 4
effect_on Addi f h memory a b = gives f h memory (plus a f.imm)
effect_on Slti f h memory a b = gives f h memory (truth (less a f.imm))
effect_on Sltiu f h memory a b = gives f h memory (truth (less_unsigned a f.imm))
effect_on Xori f h memory a b = gives f h memory (bit_xor a f.imm)
effect_on Ori f h memory a b = gives f h memory (bit_or a f.imm)
effect_on Andi f h memory a b = gives f h memory (bit_and a f.imm)
effect_on Slli f h memory a b = gives f h memory (shift_left a f.imm)
effect_on Srli f h memory a b = gives f h memory (shift_right a f.imm)
effect_on Srai f h memory a b = gives f h memory (shift_right_signed a f.imm)
effect_on Add f h memory a b = gives f h memory (plus a b)
effect_on Sub f h memory a b = gives f h memory (minus a b)
effect_on Sll f h memory a b = gives f h memory (shift_left a b)
effect_on Slt f h memory a b = gives f h memory (truth (less a b))
effect_on Sltu f h memory a b = gives f h memory (truth (less_unsigned a b))
effect_on Xor f h memory a b = gives f h memory (bit_xor a b)
effect_on Srl f h memory a b = gives f h memory (shift_right a b)
effect_on Sra f h memory a b = gives f h memory (shift_right_signed a b)
effect_on Or f h memory a b = gives f h memory (bit_or a b)
effect_on And f h memory a b = gives f h memory (bit_and a b)
effect_on Fence f h memory a b = record { outcome = Went; hart = record h { pc = following h }; memory = memory }
effect_on Ecall f h memory a b = record { outcome = Call; hart = record h { pc = following h }; memory = memory }
effect_on Ebreak f h memory a b = stops h memory (Trap Break)

-- the effect of the instruction of this name with these fields
abbrev pub effect : Name → Fields → Hart → List ℕ → Executed
effect name f h memory = effect_on name f h memory (register h.regs f.rs1) (register h.regs f.rs2)
