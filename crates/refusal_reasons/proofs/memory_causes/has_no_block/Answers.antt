use Rattle.refusal_reasons.proofs.Blocks.{place_none}
use Rattle.refusal_reasons.proofs.memory_causes.has_no_block.Goals as goal

pub returns : goal.returns
returns c = record { none = place_none c.args.n c.args.heap.now c.place_for.result c.is_none.result c.requires.some c.place_for.ensures.place c.is_none.ensures }
