use Rattle.std.proofs.Common.{◌≡◌, drop}
use Rattle.local_files.specs.Steps.{is_this_open}
use Rattle.local_files.proofs.Files.is_open.Given as goal

abbrev pub invariant-loop-d : goal.invariant-loop-d
invariant-loop-d l = is_this_open l.name (drop l.d l.self.devices) ≡ is_this_open l.name l.self.devices
