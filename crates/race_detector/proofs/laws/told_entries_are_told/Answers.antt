-- Both tell the same.
use Rattle.race_detector.proofs.Alike.{tells_alike}
use Rattle.race_detector.proofs.laws.told_entries_are_told.Goals as goal

pub returns : goal.returns
returns c = tells_alike
