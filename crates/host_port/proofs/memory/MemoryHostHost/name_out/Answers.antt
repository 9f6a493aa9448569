-- If memory ran out for the list of calls, nothing was changed.
use Rattle.std.proofs.Common.{rules, arith, false}
use Rattle.std.proofs.lemmas.Grind.{common_steps}
use Rattle.host_port.proofs.Answered.{on_err}
use Rattle.host_port.proofs.memory.MemoryHostHost.name_out.Goals as goal

pub returns-in_err-record_call-clause-named : goal.returns-in_err-record_call-clause-named
returns-in_err-record_call-clause-named c = record {
  ok = grind (arith, common_steps);
  failed = search rules;
  refused = on_err c.from_residual.result _ (0, false, grind (arith, common_steps));
}
