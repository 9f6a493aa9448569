-- `has_same_list`: with the keys the lists are compared whole.
use Rattle.std.proofs.Common.{◌∙◌, ap, sym, true}
use Rattle.queue_table.specs.Lists.{compared, list_at}
use Rattle.queue_table.specs.Table.{lists}
use Rattle.queue_table.proofs.Agreement.{with_keys-whole}
use Rattle.queue_table.proofs.table.QueueTable.has_same_list.Goals as goal

pub returns : goal.returns
returns g c =
    let l = list_at (lists c.args.self.now) c.args.q in
    let m = list_at (lists c.args.other.now) c.args.q in
    let same = c.agrees.ensures.same in
    record { same = (λ y. sym (with_keys-whole l) ∙ same.0 y ∙ with_keys-whole m, λ e. same.1 (ap (compared true) e)) }
