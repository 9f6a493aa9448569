-- None is in either.
use Rattle.race_entries.proofs.laws.none_are_held.Goals as goal

pub returns : goal.returns
returns c bytes none = record { same = none }
