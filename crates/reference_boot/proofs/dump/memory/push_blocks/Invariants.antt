-- What was pushed and what is left are the lines of all.
use Rattle.std.proofs.Common.{◌≡◌, ◌++◌, map, drop}
use Rattle.xinu_model.specs.Text as model
use Rattle.reference_boot.proofs.dump.memory.push_blocks.Given as goal

abbrev pub invariant-loop-block : goal.invariant-loop-block
invariant-loop-block l =
    l.lines.items ++ map model.free_line (drop l.block-index l.blocks) ≡ l.fn.lines.items ++ map model.free_line l.blocks
