use Rattle.std.proofs.Common.{◌∙◌, ap, sym}
use Rattle.queue_table.specs.Lists.{first_key_of, list_at}
use Rattle.queue_table.specs.Table.{lists}
use Rattle.lists_c.specs.Held.{Lists}
use Rattle.lists_c.proofs.Holding.{first_delay}
use Rattle.lists_c.proofs.lists.HeldLists.first_delay.Goals as goal

pub returns : goal.returns
returns c = record {
  key = c.first_key.ensures.key ∙ sym (first_delay (list_at (lists c.self.inside.table) 2)) ∙ ap (λ (s : Lists). first_key_of s.sleepers) c.self.view_is;
}
