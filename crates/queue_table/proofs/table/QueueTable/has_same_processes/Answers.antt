-- `has_same_processes`: without the keys the lists are compared by their processes.
use Rattle.std.proofs.Common.{◌∙◌, ℕ, pos, List, map, ap, sym}
use Rattle.queue_table.specs.Lists.{list_at, numbers}
use Rattle.queue_table.specs.Table.{lists}
use Rattle.queue_table.proofs.Agreement.{compared-numbers, numbers-compared}
use Rattle.queue_table.proofs.table.QueueTable.has_same_processes.Goals as goal

pub returns : goal.returns
returns g c =
    let l = list_at (lists c.args.self.now) c.args.q in
    let m = list_at (lists c.args.other.now) c.args.q in
    let same = c.agrees.ensures.same in
    record {
      same = (
        λ y. sym (numbers-compared l) ∙ ap numbers (same.0 y) ∙ numbers-compared m,
        λ e. same.1 (sym (compared-numbers l) ∙ ap (λ (ps : List ℕ). map (λ p. (p, pos 0)) ps) e ∙ compared-numbers m),
      );
    }
