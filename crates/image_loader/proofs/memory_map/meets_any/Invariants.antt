-- Those that are left decide.
use Rattle.std.proofs.Common.{◌≡◌, drop, map}
use Rattle.std.specs.List.{list_any}
use Rattle.image_loader.specs.Parts.{part_of}
use Rattle.xinu_model.specs.Boot.{parts_meet}
use Rattle.image_loader.proofs.memory_map.meets_any.Given as goal

abbrev pub invariant-loop-other : goal.invariant-loop-other
invariant-loop-other l = list_any (parts_meet (part_of l.part)) (map part_of (drop l.other-index l.others)) ≡ list_any (parts_meet (part_of l.part)) (map part_of l.others)
