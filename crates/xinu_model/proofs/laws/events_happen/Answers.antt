use Rattle.xinu_model.specs.Events.{effect_of}
use Rattle.xinu_model.proofs.Outcomes.{least_happens}
use Rattle.xinu_model.proofs.laws.events_happen.Goals as goal

pub returns : goal.returns
returns c = λ old e. ((effect_of old e 0).lines, (effect_of old e 0).state, least_happens old e)
