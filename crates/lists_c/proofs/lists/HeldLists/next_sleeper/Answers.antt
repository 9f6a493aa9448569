use Rattle.std.proofs.Common.{◌∙◌, ap, sym}
use Rattle.queue_table.proofs.Laws.{queues_of}
use Rattle.queue_table.specs.Lists.{first_process, list_at}
use Rattle.queue_table.specs.Table.{lists}
use Rattle.lists_c.specs.Held.{Lists, is_due, sleeper_taken}
use Rattle.lists_c.specs.Views.{seen_in}
use Rattle.lists_c.proofs.Holding.{Became, first_due_out, first_sleeper}
use Rattle.lists_c.proofs.lists.HeldLists.next_sleeper.Goals as goal

-- the lists without it
after : (c : goal.After-dequeue) → Became (lists c.dequeue.new.self) (sleeper_taken (seen_in (lists c.self.inside.table)))
after c =
    first_due_out (lists c.self.inside.table) (lists c.dequeue.new.self) (queues_of c.self.inside.table) c.self.invariant
    (ap is_due c.self.view_is ∙ c.requires.due) c.dequeue.ensures.lists

pub invariant_of-self : goal.invariant_of-self
invariant_of-self c = (after c).kept

pub returns-clause-first : goal.returns-clause-first
returns-clause-first c =
    c.dequeue.ensures.first ∙ sym (first_sleeper (list_at (lists c.self.inside.table) 2)) ∙ ap (λ (s : Lists). first_process s.sleepers) c.self.view_is

pub returns-clause-lists : goal.returns-clause-lists
returns-clause-lists c = (after c).seen ∙ ap sleeper_taken c.self.view_is
