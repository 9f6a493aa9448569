-- The free entries so far are counted.
use Rattle.std.proofs.Common.{◌≡◌, take, not}
use Rattle.std.specs.List.{count_by}
use Rattle.std.specs.Option.{is_some}
use Rattle.semaphores.proofs.sems.count_free.Given as goal

abbrev pub invariant-loop-entry : goal.invariant-loop-entry
invariant-loop-entry l = l.count ≡ count_by (λ e. not (is_some e.owner)) (take l.entry-index l.entries)
