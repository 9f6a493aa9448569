use Rattle.bounded_waits.proofs.FileEvents.{files_event}
use Rattle.bounded_waits.proofs.files.completions_bring_effects_nearer.Goals as goal

pub returns : goal.returns
returns c = files_event
