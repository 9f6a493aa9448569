-- By the row of the word.
use Rattle.rv_disasm.proofs.ReadBack.{read_back}
use Rattle.rv_disasm.proofs.laws.lines_are_read_back.Goals as goal

pub returns : goal.returns
returns c = read_back
