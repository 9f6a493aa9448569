-- The ready list up to the next process was printed.
use Rattle.std.proofs.Common.{◌≡◌, length}
use Rattle.std.specs.Prelude.{IfSome}
use Rattle.kernel_tables.specs.Walks.{entries_from}
use Rattle.xinu_base.specs.declared.processes.State.TheVariants.{Ready}
use Rattle.xinu_model.specs.Tables.{state_at}
use Rattle.xinu_model.specs.Text.{ready_line}
use Rattle.machine.proofs.Walks.{PrintedUpTo}
use Rattle.machine.proofs.tables.print_ready.Given as goal

abbrev pub invariant-loop-next : goal.invariant-loop-next
invariant-loop-next g l =
    let t = l.tables in
    PrintedUpTo ready_line t.ready (entries_from l.next t.ready) l.initial.out l.out (g.H.Host.view l.initial.host) (g.H.Host.view l.host)
    × IfSome l.next (λ p. state_at t p ≡ Ready)

abbrev pub decreases-loop-next : goal.decreases-loop-next
decreases-loop-next g l = length (entries_from l.next l.tables.ready)
