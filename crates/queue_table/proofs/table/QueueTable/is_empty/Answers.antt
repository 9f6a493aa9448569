-- `is_empty`: the entry after the head is no process if and only if the list is empty.
use Rattle.std.proofs.Common.{◌≡◌, ◌≤◌, ap, arith}
use Rattle.std.proofs.lemmas.Bool.Decides.{nat_tests}
use Rattle.queue_table.specs.declared.links.Links.{Links}
use Rattle.queue_table.proofs.Tables.{head_above, head_none}
use Rattle.queue_table.proofs.table.QueueTable.is_empty.Goals as goal

pub returns : goal.returns
returns g c =
    let t = c.args.self.now in
    let n : c.links.result.next ≡ _ = ap (λ (r : Links). r.next) c.links.ensures.entry in
    record {
      empty = (
        λ h. head_none t c.args.q c.links.result.next c.requires.q_in n (let le : g.row.P ≤ c.links.result.next = grind (arith, nat_tests) in le),
        λ h. (let le : g.row.P ≤ c.links.result.next = head_above t c.args.q c.links.result.next c.requires.q_in n h in grind (arith, nat_tests)),
      );
    }
