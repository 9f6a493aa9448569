-- The parts that are left give what all give, and lie in RAM.
use Rattle.std.proofs.Common.{◌≡◌, true, drop, map}
use Rattle.std.specs.List.{list_all}
use Rattle.image_loader.specs.Parts.{lies_in_ram, part_of}
use Rattle.xinu_model.specs.Boot.{with_parts}
use Rattle.image_loader.proofs.loading.load.Given as goal

abbrev pub invariant-loop-part : goal.invariant-loop-part
invariant-loop-part l =
    (with_parts (map part_of (drop l.part-index l.parts)) l.ram ≡ with_parts (map part_of l.parts) l.initial.ram) × (list_all lies_in_ram (map part_of (drop l.part-index l.parts)) ≡ true)
