use Rattle.transcript_laws.proofs.OneRun.{transcripts_agree}
use Rattle.transcript_laws.proofs.laws.transcripts_have_one_run.Goals as goal

pub returns : goal.returns
returns c = transcripts_agree
