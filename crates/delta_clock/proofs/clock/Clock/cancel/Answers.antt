use Rattle.std.proofs.Common.{◌∙◌, ℕ, List, Option, IsSome, sym, subst, refl}
use Rattle.queue_table.specs.Lists.{Entry, IsDelta, list_at}
use Rattle.queue_table.specs.Table.{lists}
use Rattle.queue_table.proofs.Deltas.{delta_without-absent}
use Rattle.queue_table.proofs.Laws.{disjoint, list_at_delta_without, list_of-placed, place_delta_without_same}
use Rattle.process_core.proofs.Removals.{left_sleepers}
use Rattle.delta_clock.proofs.Delays.{cancelled_fits, later-without}
use Rattle.delta_clock.proofs.clock.Clock.cancel.Goals as goal

pub unsleep-requires : goal.unsleep-requires
unsleep-requires c =
    let D : List Entry → Type 0 = λ l. IsDelta l in
    let F : Option ℕ → Type 0 = λ o. IsSome o in
    let t = c.args.lists.now in
    record {
      present = subst F (sym c.requires.asleep) refl;
      delta = subst D (sym (list_of-placed (lists t) c.args.p 129 c.requires.asleep)) c.requires.later.delta;
    }

pub returns-clause-cancelled : goal.returns-clause-cancelled
returns-clause-cancelled c s b =
    let t = c.args.lists.now in
    rw c.unsleep.ensures.lists
    (left_sleepers (lists t) s b c.args.p (λ q n. disjoint t c.args.p 129 q c.requires.asleep (λ e. n (sym e))))

pub returns-clause-absent : goal.returns-clause-absent
returns-clause-absent c =
    rw c.unsleep.ensures.lists (place_delta_without_same (lists c.args.lists.now) c.args.p)

pub returns-clause-others : goal.returns-clause-others
returns-clause-others c q n =
    let t = c.args.lists.now in
    rw c.unsleep.ensures.lists
    (list_at_delta_without (lists t) c.args.p q
    ∙ delta_without-absent c.args.p (list_at (lists t) q) (disjoint t c.args.p 129 q c.requires.asleep (λ e. n (sym e))))

pub returns-clause-fits : goal.returns-clause-fits
returns-clause-fits c ps f =
    rw c.unsleep.ensures.lists (cancelled_fits c.args.lists.now ps c.args.p c.requires.asleep f)

pub returns-clause-later : goal.returns-clause-later
returns-clause-later c =
    rw c.unsleep.ensures.lists (later-without c.args.lists.now c.args.p c.requires.asleep c.requires.later)
