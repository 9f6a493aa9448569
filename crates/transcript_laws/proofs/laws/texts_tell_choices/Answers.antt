use Rattle.transcript_laws.proofs.Told.{tells}
use Rattle.transcript_laws.proofs.laws.texts_tell_choices.Goals as goal

pub returns : goal.returns
returns c = tells
