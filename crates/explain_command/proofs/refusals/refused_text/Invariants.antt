-- What follows of the kinds that are left makes the text whole.
use Rattle.std.proofs.Common.{drop}
use Rattle.explain_command.proofs.ToldRefusals.{Goes}
use Rattle.explain_command.proofs.refusals.refused_text.Given as goal

abbrev pub invariant-loop-kind : goal.invariant-loop-kind
invariant-loop-kind l = Goes l.kind-items (drop l.kind-index l.kind-items) l.told.items
