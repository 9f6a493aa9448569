use Rattle.std.proofs.Common.{sym}
use Rattle.table_laws.proofs.Tables.Found.{free_process_free}
use Rattle.core_calls.proofs.creation.create.Goals as goal

pub make_on_stack-requires-clause-free : goal.make_on_stack-requires-clause-free
make_on_stack-requires-clause-free c = free_process_free c.k.inside.tables c.in-Some-place_free.p
    (sym c.in-Some-place_free.ensures.found)
