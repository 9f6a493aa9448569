-- The greatest end so far and those that are left give the end of all; the parts that are left lie in RAM.
use Rattle.std.proofs.Common.{◌≡◌, ◌≤◌, true, drop, map, max}
use Rattle.std.specs.List.{list_all}
use Rattle.image_loader.specs.Parts.{lies_in_ram, part_of}
use Rattle.xinu_model.specs.Boot as boot
use Rattle.image_loader.proofs.memory_map.end_of.Given as goal

abbrev pub invariant-loop-part : goal.invariant-loop-part
invariant-loop-part l =
    (max l.end (boot.end_of (map part_of (drop l.part-index l.parts))) ≡ boot.end_of (map part_of l.parts))
    × (list_all lies_in_ram (map part_of (drop l.part-index l.parts)) ≡ true) × (l.end ≤ 1048576)
