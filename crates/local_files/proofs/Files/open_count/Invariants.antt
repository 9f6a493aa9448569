use Rattle.std.proofs.Common.{◌≡◌, ◌+◌, drop, count_by, is_some}
use Rattle.local_files.proofs.Files.open_count.Given as goal

abbrev pub invariant-loop-d : goal.invariant-loop-d
invariant-loop-d l = l.n + count_by is_some (drop l.d l.self.devices) ≡ count_by is_some l.self.devices
