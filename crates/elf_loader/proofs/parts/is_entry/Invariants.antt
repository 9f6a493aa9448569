-- None of the parts so far has the word.
use Rattle.std.proofs.Common.{◌≡◌, drop, map}
use Rattle.std.specs.List.{list_any}
use Rattle.elf_loader.proofs.parts.is_entry.Given as goal
use Rattle.image_loader.specs.Parts.{holds_word, part_of}

abbrev pub invariant-loop-part : goal.invariant-loop-part
invariant-loop-part l =
    list_any (holds_word l.entry) (map part_of (drop l.part-index l.parts)) ≡ list_any (holds_word l.entry) (map part_of l.parts)
