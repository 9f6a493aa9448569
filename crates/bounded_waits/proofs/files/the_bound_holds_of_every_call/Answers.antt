use Rattle.bounded_waits.proofs.Bound.{turns_bounded}
use Rattle.bounded_waits.proofs.files.the_bound_holds_of_every_call.Goals as goal

pub returns : goal.returns
returns c = turns_bounded
