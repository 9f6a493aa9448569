-- The digits tell the address.
use Rattle.rv_disasm.proofs.Labels.{label_of-injective}
use Rattle.rv_disasm.proofs.laws.labels_are_distinct.Goals as goal

pub returns : goal.returns
returns c = label_of-injective
