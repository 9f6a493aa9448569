-- An access is entered in both.
use Rattle.race_entries.proofs.Holding.{held_access}
use Rattle.race_entries.proofs.laws.accesses_are_held.Goals as goal

pub returns : goal.returns
returns c = held_access
