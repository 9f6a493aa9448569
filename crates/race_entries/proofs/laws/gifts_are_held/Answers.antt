-- Bytes are given in both.
use Rattle.race_entries.proofs.Holding.{held_gift}
use Rattle.race_entries.proofs.laws.gifts_are_held.Goals as goal

pub returns : goal.returns
returns c = held_gift
