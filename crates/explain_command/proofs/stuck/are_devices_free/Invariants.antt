-- Nobody waits on the semaphores so far.
use Rattle.std.proofs.Common.{◌≡◌, ◌<◌, ℕ, []}
use Rattle.xinu_model.specs.Tables.{semaphore_at}
use Rattle.explain_command.proofs.stuck.are_devices_free.Given as goal

abbrev pub invariant-loop-number : goal.invariant-loop-number
invariant-loop-number l = (sem : ℕ) → sem < l.number → (semaphore_at l.tables sem).waiters ≡ []
