use Rattle.std.proofs.lemmas.List.{get_or_default}
use Rattle.xinu_base.specs.declared.lines.TranscriptLine.TheVariants.{Node}
use Rattle.machine.proofs.Walks.{printed_more}
use Rattle.machine.proofs.tables.print_messages.Goals as goal

pub loop-message-preserved : goal.loop-message-preserved
loop-message-preserved g c =
    printed_more (Node c.args.port) c.args.messages.now c.loop-message.message-index _ _ _ _ _ _ _ c.loop-message-test.true
    (get_or_default c.args.messages.now c.loop-message.message-index 0 _ c.loop-message-test.true) c.loop-message.invariant
    c.print_line.ensures.prints
