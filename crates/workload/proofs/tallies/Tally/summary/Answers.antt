-- The line is what is formatted.
use Rattle.std.proofs.Common.{sym, append_assoc}
use Rattle.workload.proofs.tallies.Tally.summary.Goals as goal

pub returns-in-Ok : goal.returns-in-Ok
returns-in-Ok c = record { line = rw (← c.self.view_is, sym c.name.ensures.word) (simp append_assoc at c.in-Ok.ensures.ok) }
