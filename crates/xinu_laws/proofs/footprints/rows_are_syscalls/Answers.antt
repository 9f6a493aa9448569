use Rattle.xinu_laws.proofs.Rows.CallRows.{rows_are_syscalls}
use Rattle.xinu_laws.proofs.footprints.rows_are_syscalls.Goals as goal

pub returns : goal.returns
returns c = rows_are_syscalls
