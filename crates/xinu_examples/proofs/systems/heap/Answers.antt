use Rattle.xinu_examples.proofs.Computed.Calls.{prints_heap_replies, prints_stacks}
use Rattle.xinu_examples.proofs.systems.heap.Goals as goal

pub returns : goal.returns
returns c = record {
  heap_replies = prints_heap_replies;
  stacks = prints_stacks;
}
