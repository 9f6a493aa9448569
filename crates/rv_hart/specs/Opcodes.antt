-- What a word does, by its opcode: the part of the table that each function of `execute` answers for.
use Rattle.std.specs.Prelude.{ℕ, List}
use Rattle.xinu_base.specs.declared.Hart.{Hart}
use Rattle.xinu_model.specs.Isa.Instructions.{rows}
use Rattle.xinu_model.specs.Isa.Exec.{Executed, obeyed}
use Rattle.rv_isa.specs.RowFields.{row_by, funct3_of, funct7_of}

-- what a word with this opcode does
abbrev pub of_opcode : ℕ → ℕ → Hart → List ℕ → Executed
of_opcode opcode word h memory = obeyed (row_by rows opcode (funct3_of word) (funct7_of word) word) word h memory
