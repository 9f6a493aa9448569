-- The next address is so many steps after the first, and those that are left go after those that are in.
use Rattle.std.proofs.Common.{◌≡◌, ◌+◌, ◌-◌, ◌*◌, ◌++◌}
use Rattle.xinu_model.specs.Pools.Buffers.{addresses}
use Rattle.reference_ports.proofs.buffers.addresses.Given as goal

abbrev pub invariant-loop-i : goal.invariant-loop-i
invariant-loop-i l = record {
  next : l.next ≡ l.first + l.i * l.step;
  list : l.list.items ++ addresses l.next l.step (l.n - l.i) ≡ addresses l.first l.step l.n;
}
