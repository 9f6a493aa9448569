use Rattle.happens_before.proofs.Telling.{last_told, told_is_race}
use Rattle.data_races.proofs.Counted.{is_history}
use Rattle.data_races.proofs.races.races_of_runs_are_told.Goals as goal

pub returns : goal.returns
returns c = record {
  told = λ start events h last x y has told. told_is_race h (is_history start events h last has) x y told;
  races = λ start events h last x y has race. last_told h (is_history start events h last has) x y race;
  none = λ start events h last has nothing x y race.
      let told = last_told h (is_history start events h last has) x y race in nothing told.0 y told.3;
}
