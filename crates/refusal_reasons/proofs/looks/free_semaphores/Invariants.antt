-- The free ones among the semaphores so far are counted.
use Rattle.std.proofs.Common.{◌≡◌, ◌≤◌, not, take}
use Rattle.std.specs.Prelude.{is_some}
use Rattle.xinu_model.specs.Sound.Tables.{times}
use Rattle.xinu_model.specs.Tables.{Semaphore}
use Rattle.refusal_reasons.proofs.looks.free_semaphores.Given as goal

abbrev pub invariant-loop-number : goal.invariant-loop-number
invariant-loop-number l = record {
  counted : l.free ≡ times (λ (x : Semaphore). not (is_some x.owner)) (take l.number l.tables.semaphores);
  few : l.free ≤ l.number;
}
