use Rattle.program_logic.proofs.Stored.{always_counted, transcripts_counted}
use Rattle.program_logic.proofs.laws.the_word_is_counted.Goals as goal

pub returns : goal.returns
returns c = record { moment = always_counted; transcript = transcripts_counted }
