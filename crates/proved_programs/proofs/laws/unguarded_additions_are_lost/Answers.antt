use Rattle.proved_programs.proofs.Lost.{kept, lost}
use Rattle.proved_programs.proofs.laws.unguarded_additions_are_lost.Goals as goal

pub returns : goal.returns
returns c = record { lost = lost; kept = kept }
