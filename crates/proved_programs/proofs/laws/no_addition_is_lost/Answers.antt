use Rattle.proved_programs.proofs.Counted.{moments_counted, transcripts_tell}
use Rattle.proved_programs.proofs.laws.no_addition_is_lost.Goals as goal

pub returns : goal.returns
returns c = record { moment = moments_counted; transcript = transcripts_tell }
