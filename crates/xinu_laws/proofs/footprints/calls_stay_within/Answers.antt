use Rattle.xinu_laws.proofs.Touches.Table.{call_touches}
use Rattle.xinu_laws.proofs.footprints.calls_stay_within.Goals as goal

pub returns : goal.returns
returns c = call_touches
