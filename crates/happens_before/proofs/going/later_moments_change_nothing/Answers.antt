use Rattle.happens_before.proofs.Prefixes.{clocks_stay, entries_stay, told_stays}
use Rattle.happens_before.proofs.going.later_moments_change_nothing.Goals as goal

pub returns : goal.returns
returns c = record { clocks = clocks_stay; entries = entries_stay; told = told_stays }
