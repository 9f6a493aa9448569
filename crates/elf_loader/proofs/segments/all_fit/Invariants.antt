-- The loaded segments so far fit.
use Rattle.std.proofs.Common.{◌≡◌, length, filter}
use Rattle.std.specs.List.{list_all}
use Rattle.elf_loader.specs.ElfHeaders.{fits_memory, is_load}
use Rattle.elf_loader.proofs.segments.all_fit.Given as goal

abbrev pub invariant-loop-segment : goal.invariant-loop-segment
invariant-loop-segment l =
    list_all (fits_memory l.bytes) (filter is_load l.rest) ≡ list_all (fits_memory l.bytes) (filter is_load l.initial.rest)

abbrev pub decreases-loop-segment : goal.decreases-loop-segment
decreases-loop-segment l = length l.rest
