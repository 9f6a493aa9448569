use Rattle.std.proofs.Common.{◌≡◌, ◌+◌, drop, map}
use Rattle.xinu_model.specs.Files.Systems.{free_device}
use Rattle.local_files.specs.Steps.{shown}
use Rattle.local_files.proofs.Files.free_device.Given as goal

abbrev pub invariant-loop-d : goal.invariant-loop-d
invariant-loop-d l = l.d + free_device (map shown (drop l.d l.self.devices)) ≡ free_device (map shown l.self.devices)
