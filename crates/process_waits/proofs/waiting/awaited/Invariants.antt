-- The process waits on none of the semaphores so far.
use Rattle.std.proofs.Common.{◌≡◌, ◌-◌}
use Rattle.process_waits.specs.Waiting.{awaited_from}
use Rattle.process_waits.proofs.waiting.awaited.Given as goal

abbrev pub invariant-loop-number : goal.invariant-loop-number
invariant-loop-number l = awaited_from l.tables l.p 0 128 ≡ awaited_from l.tables l.p l.number (128 - l.number)
