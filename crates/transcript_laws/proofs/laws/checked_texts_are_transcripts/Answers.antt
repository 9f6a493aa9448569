use Rattle.transcript_laws.proofs.Checked.{checks_exactly}
use Rattle.transcript_laws.proofs.laws.checked_texts_are_transcripts.Goals as goal

pub returns : goal.returns
returns c = checks_exactly
