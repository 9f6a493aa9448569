use Rattle.std.proofs.Common.{◌≡◌, ◌+◌, ◌-◌, ◌*◌, ◌≤◌, length, reverse}
use Rattle.std.specs.Prelude.{vec_capacity}
use Rattle.xinu_model.specs.Pools.Buffers.{addresses}
use Rattle.buffer_pools.proofs.pool.fill.Given as goal

-- The addresses from the next one on are in.
abbrev pub invariant-loop-left : goal.invariant-loop-left
invariant-loop-left l = record {
  next : l.next ≡ l.first + l.left * l.step;
  within : l.left ≤ l.number;
  count : length l.free.items ≡ l.number - l.left;
  free : reverse l.free.items ≡ addresses l.next l.step (l.number - l.left);
  capacity : vec_capacity l.fn.free ≤ vec_capacity l.free;
}

abbrev pub decreases-loop-left : goal.decreases-loop-left
decreases-loop-left l = l.left
