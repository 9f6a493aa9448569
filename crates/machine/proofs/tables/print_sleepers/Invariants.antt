-- The sleepers up to the next one were printed.
use Rattle.std.proofs.Common.{length}
use Rattle.std.specs.Prelude.{IfSome, option_map}
use Rattle.kernel_tables.specs.Walks.{entries_from, StandsAt}
use Rattle.xinu_model.specs.Text.{sleeper_line}
use Rattle.machine.proofs.Walks.{PrintedUpTo}
use Rattle.machine.proofs.tables.print_sleepers.Given as goal

abbrev pub invariant-loop-next : goal.invariant-loop-next
invariant-loop-next g l =
    let sleepers = l.tables.sleepers in
    PrintedUpTo sleeper_line sleepers (entries_from (option_map (λ e. e.0) l.next) sleepers) l.initial.out l.out (g.H.Host.view l.initial.host) (g.H.Host.view l.host)
    × IfSome l.next (λ e. StandsAt e.0 e.1 sleepers)

abbrev pub decreases-loop-next : goal.decreases-loop-next
decreases-loop-next g l = length (entries_from (option_map (λ e. e.0) l.next) l.tables.sleepers)
