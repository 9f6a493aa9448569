-- The bytes so far are those of RAM.
use Rattle.std.proofs.Common.{◌≡◌, ◌≤◌, length, take}
use Rattle.xinu_model.specs.Memory.{bytes_from}
use Rattle.io_calls.proofs.disk_calls.bytes_at.Given as goal

abbrev pub invariant-loop-i : goal.invariant-loop-i
invariant-loop-i l = record {
  low : l.i ≤ 512;
  size : length l.bytes ≡ 512;
  read : take l.i l.bytes ≡ bytes_from l.k.call.state.memory l.at l.i;
}
