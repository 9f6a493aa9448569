use Rattle.xinu_commands.proofs.UnnamedDisks.{soak_done, soak_line, soak_status}
use Rattle.xinu_commands.proofs.laws.soak_tests_are_carried_out.Goals as goal

pub returns-clause-does : goal.returns-clause-does
returns-clause-does c = soak_done

pub returns-clause-ends : goal.returns-clause-ends
returns-clause-ends c = soak_line

pub returns-clause-status : goal.returns-clause-status
returns-clause-status c = soak_status
