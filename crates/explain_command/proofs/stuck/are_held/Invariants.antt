-- The processes so far are held.
use Rattle.std.proofs.Common.{◌≡◌, ◌<◌, ◌≤◌, ℕ, true}
use Rattle.scheduling_laws.specs.Stuck.{is_held}
use Rattle.xinu_model.specs.Tables.{state_at}
use Rattle.explain_command.proofs.stuck.are_held.Given as goal

abbrev pub invariant-loop-number : goal.invariant-loop-number
invariant-loop-number l = (p : ℕ) → 1 ≤ p → p < l.number → is_held (state_at l.tables p) ≡ true
