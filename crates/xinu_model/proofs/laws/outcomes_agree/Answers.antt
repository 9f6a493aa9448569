use Rattle.xinu_model.proofs.Outcomes.{agree}
use Rattle.xinu_model.proofs.laws.outcomes_agree.Goals as goal

pub returns : goal.returns
returns c = agree
