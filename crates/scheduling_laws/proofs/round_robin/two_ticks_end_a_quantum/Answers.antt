use Rattle.scheduling_laws.proofs.TwoTicks.{quantum_ends}
use Rattle.scheduling_laws.proofs.round_robin.two_ticks_end_a_quantum.Goals as goal

pub returns : goal.returns
returns c = quantum_ends
