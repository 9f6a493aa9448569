use Rattle.std.proofs.Common.{◌≡◌, drop}
use Rattle.lfs_check.specs.Rules.{has_name}
use Rattle.lfs_check.proofs.rules.is_repeated.Given as goal

abbrev pub invariant-loop-entry : goal.invariant-loop-entry
invariant-loop-entry l = has_name (drop l.entry-index l.entries) l.name ≡ has_name l.entries l.name
