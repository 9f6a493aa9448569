use Rattle.std.proofs.Common.{ℕ, ◌<◌, ◌≤◌, length}
use Rattle.freelist_memory.specs.Blocks.{block_at}
use Rattle.freelist_memory.proofs.blocks.highest.Given as goal

-- the blocks from here on are short
abbrev pub invariant-loop-i : goal.invariant-loop-i
invariant-loop-i l = (j : ℕ) → l.i ≤ j → j < length l.blocks → (block_at l.blocks j).count < l.count
