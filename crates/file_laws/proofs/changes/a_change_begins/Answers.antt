use Rattle.file_laws.proofs.Middles.{middle_begins}
use Rattle.file_laws.proofs.changes.a_change_begins.Goals as goal

pub returns : goal.returns
returns c = middle_begins
