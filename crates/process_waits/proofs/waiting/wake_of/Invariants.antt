-- The process wakes as those from the next sleeper on say.
use Rattle.std.proofs.Common.{◌≡◌, length}
use Rattle.std.specs.Prelude.{IfSome, option_map}
use Rattle.process_waits.specs.Waiting.{wake_in}
use Rattle.kernel_tables.specs.Walks.{entries_from, StandsAt}
use Rattle.process_waits.proofs.waiting.wake_of.Given as goal

abbrev pub invariant-loop-next : goal.invariant-loop-next
invariant-loop-next l =
    let sleepers = l.tables.sleepers in
    (wake_in l.p sleepers ≡ wake_in l.p (entries_from (option_map (λ e. e.0) l.next) sleepers)) × IfSome l.next (λ e. StandsAt e.0 e.1 sleepers)

abbrev pub decreases-loop-next : goal.decreases-loop-next
decreases-loop-next l = length (entries_from (option_map (λ e. e.0) l.next) l.tables.sleepers)
