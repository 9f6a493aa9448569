-- Those that are left decide.
use Rattle.std.proofs.Common.{◌≡◌, drop, map}
use Rattle.std.specs.List.{list_any}
use Rattle.image_loader.specs.Parts.{part_of}
use Rattle.xinu_model.specs.Boot.{parts_meet}
use Rattle.image_loader.proofs.memory_map.overlap.Given as goal

abbrev pub invariant-loop-part : goal.invariant-loop-part
invariant-loop-part l =
    list_any (λ x. list_any (parts_meet x) (map part_of l.others)) (map part_of (drop l.part-index l.parts))
    ≡ list_any (λ x. list_any (parts_meet x) (map part_of l.others)) (map part_of l.parts)
