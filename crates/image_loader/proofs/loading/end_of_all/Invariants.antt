-- The greatest end so far and those that are left give the end of all.
use Rattle.std.proofs.Common.{◌≡◌, ◌≤◌, drop, map, max}
use Rattle.image_loader.specs.Images.{loaded_of}
use Rattle.xinu_model.specs.Boot as boot
use Rattle.image_loader.proofs.loading.end_of_all.Given as goal

abbrev pub invariant-loop-image : goal.invariant-loop-image
invariant-loop-image l = (max l.end (boot.end_of_all (map loaded_of (drop l.image-index l.images))) ≡ boot.end_of_all (map loaded_of l.images)) × (l.end ≤ 1048576)
