-- The parts so far, and those of the segments that are left.
use Rattle.std.proofs.Common.{◌≡◌, ◌+◌, ◌≤◌, ◌++◌, ℕ, true, List, length, filter, map}
use Rattle.std.specs.List.{list_all}
use Rattle.elf_loader.specs.declared.segments.Segment.{Segment}
use Rattle.elf_loader.specs.ElfHeaders.{fits_memory, is_load, loaded_segments}
use Rattle.elf_loader.proofs.parts.parts_of.Given as goal
use Rattle.image_loader.specs.Parts.{lies_in_ram, part_of}
use Rattle.xinu_model.specs.Boot.{LoadedPart}

pub record PartsSoFar (bytes : List ℕ) (all rest : List Segment) (parts : List LoadedPart) : Type 0 where
  pub fit : list_all (fits_memory bytes) (filter is_load rest) ≡ true
  pub whole : parts ++ loaded_segments bytes rest ≡ loaded_segments bytes all
  pub count : length parts + length (filter is_load rest) ≡ length (filter is_load all)
  pub few : length parts ≤ 8
  pub lie : list_all lies_in_ram parts ≡ true

abbrev pub invariant-loop-segment : goal.invariant-loop-segment
invariant-loop-segment l = PartsSoFar l.bytes l.initial.rest l.rest (map part_of l.parts.items)

abbrev pub decreases-loop-segment : goal.decreases-loop-segment
decreases-loop-segment l = length l.rest
