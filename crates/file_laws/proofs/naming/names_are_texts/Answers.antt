use Rattle.file_laws.proofs.Named.{names_same, names_order}
use Rattle.file_laws.proofs.naming.names_are_texts.Goals as goal

pub returns-clause-same : goal.returns-clause-same
returns-clause-same c = names_same

pub returns-clause-order : goal.returns-clause-order
returns-clause-order c = names_order
