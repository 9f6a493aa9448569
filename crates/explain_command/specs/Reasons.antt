-- The address for which an instruction reaches.
use Rattle.std.specs.Prelude.{ℕ, ◌+◌, ◌%◌, ◌^◌, ◌==◌, ◌||◌, if◌then◌else◌, Option, None, Some, option_map, slice_index}
use Rattle.explain_command.specs.declared.reasons.Reach.{Reach}
use Rattle.xinu_base.specs.declared.registers.Hart.{Hart}
use Rattle.xinu_model.specs.Isa.Instructions.{imm_i, imm_s, rs1_of}

-- the offset of a load, a store or a jump by a register
abbrev pub offset_of : ℕ → Option ℕ
offset_of word =
    if word % 128 == 35 then Some (imm_s word)
    else if (word % 128 == 3) || (word % 128 == 103) then Some (imm_i word)
    else None

-- the address that a register and an offset make
abbrev pub reach_by : ℕ → Hart → ℕ → Reach
reach_by word hart offset = record {
  address = (slice_index hart.regs (rs1_of word) + offset) % 2 ^ 32;
  register = rs1_of word;
  offset = offset;
}

-- the address that a load, a store or a jump by a register makes
abbrev pub reach_of : ℕ → Hart → Option Reach
reach_of word hart = option_map (reach_by word hart) (offset_of word)
