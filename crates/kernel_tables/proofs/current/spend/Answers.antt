use Rattle.std.proofs.Common.{◌∙◌, ◌-◌, cond, nat_lt, ap, sym}
use Rattle.queue_table.specs.Table.{lists}
use Rattle.process_core.specs.Tables.{tables_of}
use Rattle.xinu_model.specs.Process.Scheduling.{resched}
use Rattle.kernel_tables.proofs.Running.{quantum_ends, quantum_goes, quantum_of, with_quantum}
use Rattle.kernel_tables.proofs.current.spend.Goals as goal

pub returns-then-quantum_tick-clause-spent : goal.returns-then-quantum_tick-clause-spent
returns-then-quantum_tick-clause-spent c b =
    let ls = lists c.args.lists.now in
    let s = c.args.procs.now in
    let q = cond (nat_lt 1 s.quantum) (s.quantum - 1) 2 in
    c.resched.ensures.resched b
    ∙ ap (λ u. resched (tables_of ls u b)) c.quantum_tick.ensures.procs
    ∙ ap resched (with_quantum ls s b)
    ∙ quantum_ends (tables_of ls s b) (quantum_of ls s b _ (sym c.quantum_tick.ensures.falls ∙ c.if-quantum_tick.true))

pub returns-else-quantum_tick-clause-spent : goal.returns-else-quantum_tick-clause-spent
returns-else-quantum_tick-clause-spent c b =
    let ls = lists c.args.lists.now in
    let s = c.args.procs.now in
    ap (λ u. tables_of ls u b) c.quantum_tick.ensures.procs
    ∙ with_quantum ls s b
    ∙ quantum_goes (tables_of ls s b) (quantum_of ls s b _ (sym c.quantum_tick.ensures.falls ∙ c.if-quantum_tick.false))
