use Rattle.xinu_examples.proofs.Computed.Calls.{prints_round_robin, prints_preemption, prints_self_suspension, prints_process_refusals, prints_full_table, shows_preemption_tables}
use Rattle.xinu_examples.proofs.systems.processes.Goals as goal

pub returns : goal.returns
returns c = record {
  round_robin = prints_round_robin;
  preemption = prints_preemption;
  self_suspension = prints_self_suspension;
  process_refusals = prints_process_refusals;
  full_table = prints_full_table;
  preemption_tables = shows_preemption_tables;
}
