-- The disk differs in the blocks that are left.
use Rattle.std.proofs.Common.{drop}
use Rattle.file_server.specs.Settled.{DiffersIn}
use Rattle.file_server.proofs.settled.copy_blocks.Given as goal

abbrev pub invariant-loop-n : goal.invariant-loop-n
invariant-loop-n l = record { left : DiffersIn (drop l.n-index l.blocks) l.settled l.disk }
