use Rattle.xinu_laws.proofs.Touches.Continued.{continued_touches}
use Rattle.xinu_laws.proofs.footprints.continuations_stay_within.Goals as goal

pub returns : goal.returns
returns c = continued_touches
