use Rattle.std.proofs.Common.{◌≡◌, ◌∙◌, ap, rules, w32}
use Rattle.std.proofs.lemmas.Int.{to_z-of_z}
use mir.Val.{SFits}
use Rattle.process_core.specs.Tables.{tables_of}
use Rattle.semaphores.specs.Counts.{SemaphoreTable, beside, no_entry, tokens_of, with_entry}
use Rattle.semaphores.proofs.Counting.{undone}
use Rattle.xinu_model.specs.Semaphores.Counts.{make_semaphore}
use Rattle.semaphores.proofs.sems.Sems.create_two.Goals as goal

pub returns-in_err-second-clause-made : goal.returns-in_err-second-clause-made
returns-in_err-second-clause-made c ls s m ticks k =
    let old = c.args.self.now in
    let first = c.in_ok-first.first in
    let e : c.create_second.new.self ≡ old = c.in_err-second.ensures.undone
    ∙ ap (λ l. record (with_entry first no_entry c.create.new.self) { last_semaphore = l }) c.last_given-last.ensures.last
    ∙ ap (λ (x : SemaphoreTable). record (with_entry first no_entry x) { last_semaphore = old.last_semaphore }) c.in_ok-first.ensures.sems
    ∙ undone ls old first _ _ k c.in_ok-first.ensures.free in
    rw (c.from_residual-in_err-second.ensures) (ap (λ (x : SemaphoreTable). tables_of ls s (beside x m ticks)) e)

pub returns-clause-made : goal.returns-clause-made
returns-clause-made c ls s m ticks k =
    let by = c.args.owner.now in
    let f : SFits w32 c.args.count = search rules in
    c.in_ok-second.ensures.made ls s m ticks (c.in_ok-first.ensures.counts ls k)
    ∙ ap (make_semaphore c.in_ok-second.second by 0) (c.in_ok-first.ensures.made ls s m ticks k)
    ∙ ap (λ z. make_semaphore c.in_ok-second.second by 0
    (make_semaphore c.in_ok-first.first by (tokens_of z) (tables_of ls s (beside c.args.self.now m ticks)))) (to_z-of_z w32 c.args.count f)

pub returns-clause-counts : goal.returns-clause-counts
returns-clause-counts c ls k = c.in_ok-second.ensures.counts ls (c.in_ok-first.ensures.counts ls k)
