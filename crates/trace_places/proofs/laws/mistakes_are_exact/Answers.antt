use Rattle.trace_places.proofs.Whole.{exact}
use Rattle.trace_places.proofs.laws.mistakes_are_exact.Goals as goal

pub returns : goal.returns
returns c = exact
