use Rattle.data_races.proofs.Loaded.{instruction_alike}
use Rattle.data_races.proofs.deeds.instructions_load_what_they_depend_on.Goals as goal

pub returns : goal.returns
returns c = λ p h one two fetched same. instruction_alike one two p h fetched same
