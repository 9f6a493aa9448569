use Rattle.xinu_examples.proofs.Computed.Ports.{prints_freed_last_first, prints_greatest_pools, prints_greatest_buffers, shows_freed_last_first_number}
use Rattle.xinu_examples.proofs.systems.buffers.Goals as goal

pub returns : goal.returns
returns c = record {
  freed_last_first = prints_freed_last_first;
  greatest_pools = prints_greatest_pools;
  greatest_buffers = prints_greatest_buffers;
  freed_last_first_number = shows_freed_last_first_number;
}
