use Rattle.std.proofs.Common.{◌≡◌, ◌∙◌, ◌+◌, ap}
use Rattle.std.proofs.lemmas.List.{set-set}
use Rattle.queue_table.specs.Lists.{list_at, with_list}
use Rattle.queue_table.specs.Table.{lists}
use Rattle.queue_table.proofs.Laws.{queues_of}
use Rattle.process_core.specs.Tables.{sleepers_of, tables_of}
use Rattle.delta_clock.specs.Wakeups.{not_due}
use Rattle.delta_clock.proofs.Delays.{tables-ticked}
use Rattle.delta_clock.proofs.clock.Clock.tick.Goals as goal

pub returns-clause-ticked : goal.returns-clause-ticked
returns-clause-ticked c s b e =
    let n = c.args.self.now in
    let ls = lists c.args.lists.now in
    let low = list_at (lists c.lower.new.lists) 129 in
    let l = list_at (lists c.take_due.new.lists) 129 in
    let is : lists c.take_due.new.lists ≡ with_list ls 129 l
    = c.take_due.ensures.lists ∙ ap (λ m. with_list m 129 l) c.lower.ensures.lists ∙ set-set ls 129 low l in
    let rest : sleepers_of (n + 1) l ≡ not_due (n + 1) (sleepers_of n (list_at ls 129))
    = c.take_due.ensures.rest (n + 1) ∙ ap (not_due (n + 1)) (c.lower.ensures.sleepers n) in
    ap (λ m. tables_of m s (record b { ticks = c.advance.new.self })) is
    ∙ ap (λ k. tables_of (with_list ls 129 l) s (record b { ticks = k })) c.advance.ensures.ticks
    ∙ tables-ticked ls s b n l (queues_of c.args.lists.now) e rest
