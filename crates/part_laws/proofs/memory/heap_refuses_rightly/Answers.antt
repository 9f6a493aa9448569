use Rattle.part_laws.proofs.HeapCells.Refused.{getmem_refuses, getstk_refuses}
use Rattle.part_laws.proofs.memory.heap_refuses_rightly.Goals as goal

pub returns : goal.returns
returns c = record {
  memory = getmem_refuses;
  stacks = getstk_refuses;
}
