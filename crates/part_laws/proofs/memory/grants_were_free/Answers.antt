use Rattle.part_laws.proofs.HeapCells.Taken.{grants_were_free as granted, stacks_were_free}
use Rattle.part_laws.proofs.HeapCells.Granted.{getmem_was_free, getstk_was_free}
use Rattle.part_laws.proofs.memory.grants_were_free.Goals as goal

pub returns : goal.returns
returns c = record {
  memory = granted;
  stacks = stacks_were_free;
  getmem = getmem_was_free;
  getstk = getstk_was_free;
}
