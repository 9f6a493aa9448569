use Rattle.reference_files.proofs.Small.{sound_is_small}
use Rattle.reference_files.proofs.laws.sound_files_are_small.Goals as goal

pub returns : goal.returns
returns c = sound_is_small
