use Rattle.file_laws.proofs.Resting.{clean_holds}
use Rattle.file_laws.proofs.rest.files_are_held_between_calls.Goals as goal

pub returns : goal.returns
returns c = clean_holds
