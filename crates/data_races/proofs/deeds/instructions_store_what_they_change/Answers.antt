use Rattle.data_races.proofs.Stored.{instruction_stores}
use Rattle.data_races.proofs.deeds.instructions_store_what_they_change.Goals as goal

pub returns : goal.returns
returns c = λ p h memory b ram changed. instruction_stores p h memory ram b changed
