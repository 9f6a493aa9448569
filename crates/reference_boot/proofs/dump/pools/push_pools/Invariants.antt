-- What was pushed and what is left are the lines of all.
use Rattle.std.proofs.Common.{◌≡◌, ◌++◌, drop}
use Rattle.xinu_model.specs.Text as model
use Rattle.reference_boot.proofs.dump.pools.push_pools.Given as goal

abbrev pub invariant-loop-number : goal.invariant-loop-number
invariant-loop-number l =
    l.lines.items ++ model.pool_lines l.number (drop l.number l.list) ≡ l.fn.lines.items ++ model.pool_lines 0 l.list
