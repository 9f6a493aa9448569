-- The label is a name.
use Rattle.rv_disasm.proofs.Labels.{label_before}
use Rattle.rv_disasm.proofs.laws.lines_take_labels.Goals as goal

pub returns : goal.returns
returns c = label_before
