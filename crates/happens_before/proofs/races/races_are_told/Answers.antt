use Rattle.happens_before.proofs.Telling.{last_told}
use Rattle.happens_before.proofs.races.races_are_told.Goals as goal

pub returns : goal.returns
returns c = record {
  last = λ h x y sound race. last_told h sound x y race;
  none = λ h sound nothing x y race. let told = last_told h sound x y race in nothing told.0 y told.3;
}
