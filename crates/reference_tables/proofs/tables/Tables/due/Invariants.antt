use Rattle.std.proofs.Common.{◌≡◌, ◌++◌, drop}
use Rattle.xinu_model.specs.Clock as model
use Rattle.reference_tables.proofs.tables.Tables.due.Given as goal

abbrev pub invariant-loop-e : goal.invariant-loop-e
invariant-loop-e l = l.due.items ++ model.due l.tick (drop l.e-index l.self.sleepers) ≡ model.due l.tick l.self.sleepers
