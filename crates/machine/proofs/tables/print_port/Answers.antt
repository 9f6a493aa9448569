use Rattle.std.proofs.Common.{◌≡◌, ◌∙◌, rules, sym, ap}
use Rattle.std.specs.Prelude.{is_some, not}
use Rattle.xinu_model.specs.Ports.Queues.{port_at}
use Rattle.machine.proofs.Walks.{not_false, port_printed, used_by_head}
use Rattle.machine.proofs.tables.print_port.Goals as goal

pub returns : goal.returns
returns g c =
    let port = port_at c.args.ports.now.ports c.args.port in
    let none : c.is_none.result ≡ not (is_some c.head_of.result) = search rules in
    let some = not_false (is_some c.head_of.result) (sym none ∙ c.if-is_none.false) in
    record {
      prints = port_printed c.args.port port c.seq_of.result c.as_slice-messages.result.now _ _ _ _ _ _
          (sym (used_by_head port.queue) ∙ sym (ap is_some c.head_of.ensures.head) ∙ some) c.seq_of.ensures.seq
          (c.as_slice-messages.ensures.value ∙ c.messages_of-held.ensures.messages) c.print_line.ensures.prints c.print_messages.ensures.prints;
    }
