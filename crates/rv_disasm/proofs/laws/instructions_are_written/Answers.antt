-- By the row of the word.
use Rattle.rv_disasm.proofs.Written.{instruction_written, other_unwritten}
use Rattle.rv_disasm.proofs.laws.instructions_are_written.Goals as goal

pub returns : goal.returns
returns c = record { written = instruction_written; unwritten = other_unwritten }
