use Rattle.happens_before.proofs.Prefixes.{all_entries_come, clocks_come, entries_come}
use Rattle.happens_before.proofs.going.moments_come_one_by_one.Goals as goal

pub returns : goal.returns
returns c = record { clocks = clocks_come; entries = entries_come; all = all_entries_come }
