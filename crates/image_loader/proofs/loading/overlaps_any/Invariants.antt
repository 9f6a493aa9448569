-- Those that are left decide.
use Rattle.std.proofs.Common.{◌≡◌, drop, map}
use Rattle.std.specs.List.{list_any}
use Rattle.image_loader.specs.Images.{loaded_of}
use Rattle.xinu_model.specs.Boot.{overlap}
use Rattle.image_loader.proofs.loading.overlaps_any.Given as goal

abbrev pub invariant-loop-other : goal.invariant-loop-other
invariant-loop-other l = list_any (overlap (loaded_of l.image)) (map loaded_of (drop l.other-index l.others)) ≡ list_any (overlap (loaded_of l.image)) (map loaded_of l.others)
