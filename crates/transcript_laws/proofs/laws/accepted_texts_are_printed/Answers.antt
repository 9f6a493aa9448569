use Rattle.transcript_laws.specs.Choices.{told}
use Rattle.transcript_laws.proofs.Accepted.{accepts_exactly}
use Rattle.transcript_laws.proofs.Told.{tells}
use Rattle.transcript_laws.proofs.laws.accepted_texts_are_printed.Goals as goal

pub returns : goal.returns
returns c = accepts_exactly told tells
