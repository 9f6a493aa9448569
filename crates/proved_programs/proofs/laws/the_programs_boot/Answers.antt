use Rattle.proved_programs.proofs.Loaded.{adding_boots, counting_boots, sleeping_boots, tens_boots}
use Rattle.proved_programs.proofs.laws.the_programs_boot.Goals as goal

pub returns : goal.returns
returns c = record { counting = counting_boots; adding = adding_boots; sleeping = sleeping_boots; tens = tens_boots }
