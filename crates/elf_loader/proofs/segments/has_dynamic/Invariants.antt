-- The segments so far aren't dynamic.
use Rattle.std.proofs.Common.{◌≡◌, length}
use Rattle.std.specs.List.{list_any}
use Rattle.elf_loader.specs.ElfHeaders.{is_dynamic}
use Rattle.elf_loader.proofs.segments.has_dynamic.Given as goal

abbrev pub invariant-loop-segment : goal.invariant-loop-segment
invariant-loop-segment l = list_any is_dynamic l.rest ≡ list_any is_dynamic l.initial.rest

abbrev pub decreases-loop-segment : goal.decreases-loop-segment
decreases-loop-segment l = length l.rest
