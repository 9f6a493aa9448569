use Rattle.happens_before.proofs.Telling.{told_is_race}
use Rattle.happens_before.proofs.races.told_pairs_are_races.Goals as goal

pub returns : goal.returns
returns c = λ h x y sound told. told_is_race h sound x y told
