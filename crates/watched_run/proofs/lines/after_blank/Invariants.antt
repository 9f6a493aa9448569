-- No byte so far is a blank.
use Rattle.std.proofs.Common.{◌≡◌, drop}
use Rattle.watched_run.specs.Traps.{after_blank}
use Rattle.watched_run.proofs.lines.after_blank.Given as goal

abbrev pub invariant-loop-i : goal.invariant-loop-i
invariant-loop-i l = after_blank (drop l.i l.bytes) ≡ after_blank l.bytes
