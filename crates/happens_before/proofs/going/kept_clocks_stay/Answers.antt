use Rattle.happens_before.proofs.Knowing.{kept_stays}
use Rattle.happens_before.proofs.going.kept_clocks_stay.Goals as goal

pub returns : goal.returns
returns c = kept_stays
