use Rattle.refusal_reasons.proofs.Later.{goes_on_ahead, later_refusals}
use Rattle.refusal_reasons.proofs.laws.later_refusals_have_reasons.Goals as goal

pub returns : goal.returns
returns c = record { calls = later_refusals; ahead = goes_on_ahead }
