-- The parts so far share no address with those after them.
use Rattle.std.proofs.Common.{◌≡◌, drop, map}
use Rattle.elf_loader.proofs.parts.are_apart.Given as goal
use Rattle.image_loader.specs.Parts.{are_apart, part_of}

abbrev pub invariant-loop-i : goal.invariant-loop-i
invariant-loop-i l = are_apart (map part_of (drop l.i l.parts)) ≡ are_apart (map part_of l.parts)
