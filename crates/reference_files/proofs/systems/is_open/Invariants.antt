use Rattle.std.proofs.Common.{◌≡◌, drop}
use Rattle.std.specs.List.{list_any}
use Rattle.xinu_model.specs.Files.Systems as model
use Rattle.reference_files.proofs.systems.is_open.Given as goal

abbrev pub invariant-loop-x : goal.invariant-loop-x
invariant-loop-x l = list_any (model.has_open l.name) (drop l.x-index l.s.devices) ≡ list_any (model.has_open l.name) l.s.devices
