-- Those that are left become ready as all do.
use Rattle.std.proofs.Common.{◌≡◌, ◌+◌, drop, map}
use Rattle.image_loader.specs.Images.{loaded_of}
use Rattle.xinu_model.specs.Boot as model
use Rattle.reference_boot.proofs.boot.all_ready.Given as goal

abbrev pub invariant-loop-i : goal.invariant-loop-i
invariant-loop-i l = model.all_ready (l.i + 1) (map loaded_of (drop l.i l.images)) l.t ≡ model.all_ready 1 (map loaded_of l.images) l.fn.t
