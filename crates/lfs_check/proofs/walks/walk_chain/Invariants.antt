use Rattle.std.proofs.Common.{◌≡◌, ℕ, [], ◌<◌, length, get_or, false}
use Rattle.lfs_check.specs.Walks.{walk, walk_end, is_met}
use Rattle.lfs_check.proofs.walks.walk_chain.Given as goal

abbrev pub invariant-loop-left : goal.invariant-loop-left
invariant-loop-left l = record {
  met : walk l.links l.low l.high l.left l.met.items l.at ≡ walk l.links l.low l.high l.steps [] l.start;
  end : walk_end l.links l.low l.high l.left l.met.items l.at ≡ walk_end l.links l.low l.high l.steps [] l.start;
  size : length l.seen.items ≡ length l.links;
  marks : (n : ℕ) → n < length l.links → get_or l.seen.items n false ≡ is_met n l.met.items;
}

abbrev pub decreases-loop-left : goal.decreases-loop-left
decreases-loop-left l = l.left
