-- What was pushed and what is left are the lines of all.
use Rattle.std.proofs.Common.{◌≡◌, ◌++◌, map, drop}
use Rattle.xinu_base.specs.declared.lines.TranscriptLine.TheVariants as line
use Rattle.reference_boot.proofs.dump.pools.push_buffers.Given as goal

abbrev pub invariant-loop-a : goal.invariant-loop-a
invariant-loop-a l =
    l.lines.items ++ map (line.Buffer l.i) (drop l.a-index l.free) ≡ l.fn.lines.items ++ map (line.Buffer l.i) l.free
