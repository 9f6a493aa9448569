-- What an instruction does, as far as what is known of the registers tells.
use Rattle.std.specs.Prelude.{ℕ, ◌+◌, ◌*◌, ◌/◌, ℤ, Option, Some, option_map}
use Rattle.std.specs.Int.{w32, cast_unsigned}
use Rattle.rv_isa.specs.declared.instr.Instr.{Instr}
use Rattle.rv_isa.specs.declared.instr.Instr.TheVariants as instr
use Rattle.xinu_model.specs.Isa.Effects.{less, less_unsigned, wrapped}
use Rattle.program_logic.specs.Operations.{folded}
use Rattle.program_logic.specs.Terms.{are_equal, compared, constant, negated, number_in, slot_of, slot_shifted, slots_added, slots_taken}
use Rattle.program_logic.specs.declared.acts.Act.{Act}
use Rattle.program_logic.specs.declared.acts.Act.TheVariants as act
use Rattle.program_logic.specs.declared.acts.Width.{Width}
use Rattle.program_logic.specs.declared.acts.Width.TheVariants as width
use Rattle.program_logic.specs.declared.knowledge.Facts.{Facts}
use Rattle.program_logic.specs.declared.operations.Operation.TheVariants as operation
use Rattle.program_logic.specs.declared.values.Slot.{Slot}
use Rattle.program_logic.specs.declared.values.Slot.TheVariants.{Known, Unknown}

-- how many bytes are moved
abbrev pub bytes_in : Width → ℕ
bytes_in width.Byte = 1
bytes_in width.Half = 2
bytes_in width.Word = 4

-- what is known of the sum of a register and an immediate
abbrev pub moved : Facts → ℕ → ℤ → Slot
moved s register imm = slots_added (slot_of s register) (Known (constant (cast_unsigned w32 imm)))

-- the even number at or below a value, if it is known
abbrev pub even : Slot → Option ℕ
even slot = option_map (λ a. a / 2 * 2) (number_in slot)

-- What an instruction at an address does.
abbrev pub act_of : Instr → ℕ → Facts → Act
act_of (instr.Lui rd imm) pc s = act.Sets rd (Known (constant (cast_unsigned w32 imm)))
act_of (instr.Auipc rd imm) pc s = act.Sets rd (Known (constant (wrapped (pc + cast_unsigned w32 imm))))
act_of (instr.Jal rd imm) pc s = act.Jumps rd (Some (wrapped (pc + cast_unsigned w32 imm)))
act_of (instr.Jalr rd rs1 imm) pc s = act.Jumps rd (even (moved s rs1 imm))
act_of (instr.Beq rs1 rs2 imm) pc s = act.Branches (cast_unsigned w32 imm) (are_equal (slot_of s rs1) (slot_of s rs2))
act_of (instr.Bne rs1 rs2 imm) pc s = act.Branches (cast_unsigned w32 imm) (negated (are_equal (slot_of s rs1) (slot_of s rs2)))
act_of (instr.Blt rs1 rs2 imm) pc s = act.Branches (cast_unsigned w32 imm) (compared less (slot_of s rs1) (slot_of s rs2))
act_of (instr.Bge rs1 rs2 imm) pc s = act.Branches (cast_unsigned w32 imm) (negated (compared less (slot_of s rs1) (slot_of s rs2)))
act_of (instr.Bltu rs1 rs2 imm) pc s = act.Branches (cast_unsigned w32 imm) (compared less_unsigned (slot_of s rs1) (slot_of s rs2))
act_of (instr.Bgeu rs1 rs2 imm) pc s = act.Branches (cast_unsigned w32 imm) (negated (compared less_unsigned (slot_of s rs1) (slot_of s rs2)))
act_of (instr.Lb rd rs1 imm) pc s = act.Loads rd width.Byte (moved s rs1 imm)
act_of (instr.Lh rd rs1 imm) pc s = act.Loads rd width.Half (moved s rs1 imm)
act_of (instr.Lw rd rs1 imm) pc s = act.Loads rd width.Word (moved s rs1 imm)
act_of (instr.Lbu rd rs1 imm) pc s = act.Loads rd width.Byte (moved s rs1 imm)
act_of (instr.Lhu rd rs1 imm) pc s = act.Loads rd width.Half (moved s rs1 imm)
act_of (instr.Sb rs1 rs2 imm) pc s = act.Stores width.Byte (slot_of s rs2) (moved s rs1 imm)
act_of (instr.Sh rs1 rs2 imm) pc s = act.Stores width.Half (slot_of s rs2) (moved s rs1 imm)
act_of (instr.Sw rs1 rs2 imm) pc s = act.Stores width.Word (slot_of s rs2) (moved s rs1 imm)
act_of (instr.Addi rd rs1 imm) pc s = act.Sets rd (moved s rs1 imm)
act_of (instr.Slti rd rs1 imm) pc s = act.Sets rd (folded operation.Less (slot_of s rs1) (Known (constant (cast_unsigned w32 imm))))
act_of (instr.Slt rd rs1 rs2) pc s = act.Sets rd (folded operation.Less (slot_of s rs1) (slot_of s rs2))
act_of (instr.Sltiu rd rs1 imm) pc s = act.Sets rd (folded operation.Below (slot_of s rs1) (Known (constant (cast_unsigned w32 imm))))
act_of (instr.Sltu rd rs1 rs2) pc s = act.Sets rd (folded operation.Below (slot_of s rs1) (slot_of s rs2))
act_of (instr.Xori rd rs1 imm) pc s = act.Sets rd (folded operation.Xor (slot_of s rs1) (Known (constant (cast_unsigned w32 imm))))
act_of (instr.Xor rd rs1 rs2) pc s = act.Sets rd (folded operation.Xor (slot_of s rs1) (slot_of s rs2))
act_of (instr.Ori rd rs1 imm) pc s = act.Sets rd (folded operation.Or (slot_of s rs1) (Known (constant (cast_unsigned w32 imm))))
act_of (instr.Or rd rs1 rs2) pc s = act.Sets rd (folded operation.Or (slot_of s rs1) (slot_of s rs2))
act_of (instr.Andi rd rs1 imm) pc s = act.Sets rd (folded operation.And (slot_of s rs1) (Known (constant (cast_unsigned w32 imm))))
act_of (instr.And rd rs1 rs2) pc s = act.Sets rd (folded operation.And (slot_of s rs1) (slot_of s rs2))
act_of (instr.Srli rd rs1 imm) pc s = act.Sets rd Unknown
act_of (instr.Srl rd rs1 rs2) pc s = act.Sets rd Unknown
act_of (instr.Srai rd rs1 imm) pc s = act.Sets rd Unknown
act_of (instr.Sra rd rs1 rs2) pc s = act.Sets rd Unknown
act_of (instr.Slli rd rs1 imm) pc s = act.Sets rd (slot_shifted (slot_of s rs1) (Some (cast_unsigned w32 imm)))
act_of (instr.Sll rd rs1 rs2) pc s = act.Sets rd (slot_shifted (slot_of s rs1) (number_in (slot_of s rs2)))
act_of (instr.Add rd rs1 rs2) pc s = act.Sets rd (slots_added (slot_of s rs1) (slot_of s rs2))
act_of (instr.Sub rd rs1 rs2) pc s = act.Sets rd (slots_taken (slot_of s rs1) (slot_of s rs2))
act_of instr.Fence pc s = act.Passes
act_of instr.Ecall pc s = act.Calls
act_of instr.Ebreak pc s = act.Stops
