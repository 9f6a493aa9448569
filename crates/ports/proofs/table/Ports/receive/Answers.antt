use Rattle.std.proofs.Common.{◌==◌, pos, ◌≤ℤ◌, arith, rules, w32}
use Rattle.std.proofs.lemmas.Int.{ints}
use mir.Val.{SFits}
use Rattle.xinu_model.specs.Ports.Queues.{port_at}
use Rattle.ports.proofs.Entries.{first_signed}
use Rattle.ports.proofs.table.Ports.receive.Goals as goal

pub returns-clause-signed : goal.returns-clause-signed
returns-clause-signed c queue is =
    let port = port_at c.args.self.now.ports c.args.ticket.port in
    let h = c.in_ok-head.head in
    let f : SFits w32 h.first_count = search rules in
    let fits : h.first_count ≤ℤ pos 2147483647 = omega (arith, ints) in
    first_signed port.queue (port.seq == c.args.ticket.seq) h queue c.in_ok-head.ensures.head is fits
