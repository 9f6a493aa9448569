-- None of the others so far shares an address with the part.
use Rattle.std.proofs.Common.{◌≡◌, drop, map, not}
use Rattle.std.specs.List.{list_all}
use Rattle.elf_loader.proofs.parts.shares_none.Given as goal
use Rattle.image_loader.specs.Parts.{part_of, share_address}

abbrev pub invariant-loop-other : goal.invariant-loop-other
invariant-loop-other l =
    list_all (λ other. not (share_address (part_of l.part) other)) (map part_of (drop l.other-index l.others))
    ≡ list_all (λ other. not (share_address (part_of l.part) other)) (map part_of l.others)
