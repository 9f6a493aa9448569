use Rattle.std.proofs.Common.{◌≡◌, ◌+◌, drop}
use Rattle.xinu_model.specs.Files.Systems as model
use Rattle.reference_files.proofs.systems.free_device.Given as goal

abbrev pub invariant-loop-x : goal.invariant-loop-x
invariant-loop-x l = (l.d + model.free_device (drop l.x-index l.s.devices) ≡ model.free_device l.s.devices) × (l.d ≡ l.x-index)
