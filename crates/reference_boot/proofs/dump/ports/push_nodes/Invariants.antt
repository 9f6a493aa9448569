-- What was pushed and what is left are the lines of all.
use Rattle.std.proofs.Common.{◌≡◌, ◌++◌, map, drop}
use Rattle.xinu_base.specs.declared.lines.TranscriptLine.TheVariants as line
use Rattle.reference_boot.proofs.dump.ports.push_nodes.Given as goal

abbrev pub invariant-loop-message : goal.invariant-loop-message
invariant-loop-message l =
    l.lines.items ++ map (line.Node l.q) (drop l.message-index l.messages) ≡ l.fn.lines.items ++ map (line.Node l.q) l.messages
