use Rattle.std.proofs.Common.{ap}
use Rattle.xinu_model.specs.Rows.{done_by}
use Rattle.xinu_laws.proofs.Rows.CallRows.{no_row}
use Rattle.xinu_laws.proofs.moments.calls_are_rows.Goals as goal

pub returns-clause-row : goal.returns-clause-row
returns-clause-row c = λ number args s r e. ap (λ x. done_by x args s) e

pub returns-clause-other : goal.returns-clause-other
returns-clause-other c = λ number args s e. ap (λ x. done_by x args s) (no_row number e)
