use Rattle.proved_programs.proofs.Loaded.{adding_kept, sleeping_kept, tens_kept}
use Rattle.proved_programs.proofs.laws.others_keep_their_rules.Goals as goal

pub returns : goal.returns
returns c = record { adding = adding_kept; sleeping = sleeping_kept; tens = tens_kept }
