use Rattle.std.proofs.Common.{ℕ, ◌<◌}
use Rattle.freelist_memory.specs.Blocks.{block_at}
use Rattle.freelist_memory.proofs.blocks.place_of.Given as goal

-- the blocks so far begin below the cell
abbrev pub invariant-loop-i : goal.invariant-loop-i
invariant-loop-i l = (j : ℕ) → j < l.i → (block_at l.blocks j).first < l.cell
