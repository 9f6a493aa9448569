use Rattle.std.proofs.Common.{◌≡◌, ◌∙◌, ◌++◌, ◌+◌, [], ℕ, List, length, sym, ap, subst, append-nil}
use Rattle.arrayvec.specs.ArrayVec.{array_vec_len}
use Rattle.queue_table.specs.Lists.{list_at}
use Rattle.queue_table.specs.Table.{lists}
use Rattle.xinu_model.specs.Clock.{due}
use Rattle.process_core.specs.Tables.{sleepers_of}
use Rattle.delta_clock.proofs.Waking.{IsWaking, all_later, none_due, none_woken, one_woken}
use Rattle.delta_clock.proofs.clock.take_due.Goals as goal

pub loop-p-init : goal.loop-p-init
loop-p-init c =
    let t = c.args.lists.now in
    let A : List ℕ → Type 0 = λ d. IsWaking (lists t) (lists t) d (length d) in
    subst A (sym c.new-due.ensures) (none_woken t c.requires.delta)

pub loop-p-preserved : goal.loop-p-preserved
loop-p-preserved c =
    let ls0 = lists c.args.lists.now in
    let ls = lists c.next_due.new.lists in
    let n = array_vec_len c.loop-p.due in
    let A : List ℕ → Type 0 = λ d. IsWaking ls0 ls d (n + 1) in
    let B : ℕ → Type 0 = λ m. IsWaking ls0 ls c.push.new.self.items m in
    subst B (sym c.push.ensures.len) (subst A (sym c.push.ensures.items)
    (one_woken ls0 c.loop-p.lists c.loop-p.due.items n c.in-Some.p ls c.loop-p.invariant c.in-Some.ensures.first c.in-Some.ensures.lists))

pub returns-clause-due : goal.returns-clause-due
returns-clause-due c tick =
    let done = c.loop-p.due.items in
    let none : due tick (sleepers_of tick (list_at (lists c.loop-p.lists) 129)) ≡ []
    = none_due tick (list_at (lists c.loop-p.lists) 129) c.in_default.ensures.later in
    sym (append-nil done) ∙ ap (λ m. done ++ m) (sym none) ∙ c.loop-p.invariant.woken tick

pub returns-clause-rest : goal.returns-clause-rest
returns-clause-rest c tick =
    ap (λ ls. sleepers_of tick (list_at ls 129)) c.in_default.ensures.same
    ∙ sym (all_later tick (list_at (lists c.loop-p.lists) 129) c.in_default.ensures.later) ∙ c.loop-p.invariant.rest tick
