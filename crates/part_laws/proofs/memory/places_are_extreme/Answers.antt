use Rattle.part_laws.proofs.HeapCells.Found.{lowest_is_least, highest_is_greatest}
use Rattle.part_laws.proofs.memory.places_are_extreme.Goals as goal

pub returns : goal.returns
returns c = record {
  lowest = lowest_is_least;
  highest = highest_is_greatest;
}
