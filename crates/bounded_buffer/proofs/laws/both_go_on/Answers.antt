use Rattle.bounded_buffer.proofs.Ending.{always_goes_on}
use Rattle.bounded_buffer.proofs.laws.both_go_on.Goals as goal

pub returns : goal.returns
returns c = record { end = always_goes_on }
