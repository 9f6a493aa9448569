use Rattle.proved_programs.proofs.Counted.{always_alive, always_goes_on}
use Rattle.proved_programs.proofs.laws.both_go_on.Goals as goal

pub returns : goal.returns
returns c = record { alive = always_alive; end = always_goes_on }
