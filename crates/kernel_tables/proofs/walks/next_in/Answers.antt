use Rattle.std.proofs.Common.{◌∙◌, ℕ, ap, Some, sym}
use Rattle.queue_table.proofs.Laws.{list_of-placed}
use Rattle.queue_table.specs.Lists.{after_in, list_of}
use Rattle.queue_table.specs.Table as table
use Rattle.kernel_tables.proofs.walks.next_in.Goals as goal

pub returns-in_err-next : goal.returns-in_err-next
returns-in_err-next c =
    let ls = table.lists c.args.lists.now in
    let i = ap (λ (q : ℕ). after_in q (list_of ls q)) c.index.ensures.index in
    let e = list_of-placed ls c.args.p c.args.q c.requires.placed in
    record { next = c.from_residual.ensures ∙ sym c.in_err-next.was ∙ c.next_after.ensures.next ∙ i ∙ ap (after_in c.args.p) e }

pub returns : goal.returns
returns c =
    let ls = table.lists c.args.lists.now in
    let i = ap (λ (q : ℕ). after_in q (list_of ls q)) c.index.ensures.index in
    let e = list_of-placed ls c.args.p c.args.q c.requires.placed in
    record { next = ap Some c.at.ensures.number ∙ sym c.in_ok-next.was ∙ c.next_after.ensures.next ∙ i ∙ ap (after_in c.args.p) e }
