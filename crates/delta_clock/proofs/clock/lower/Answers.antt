use Rattle.std.proofs.Common.{◌≡◌, ◌∙◌, ◌+◌, List, sym, ap, subst, rules, arith}
use Rattle.queue_table.specs.Lists.{Entry, IsDelta, delta_sooner, list_at, with_list}
use Rattle.queue_table.specs.Table.{lists}
use Rattle.queue_table.proofs.Laws.{list_at-other, list_at-same, place_sooner, queues_of}
use Rattle.process_core.specs.Tables.{sleepers_of}
use Rattle.delta_clock.proofs.Delays.{due_first, fits_same_places, none_asleep, sooner_delta, sooner_sleepers}
use Rattle.delta_clock.proofs.clock.lower.Goals as goal

pub lower_first-requires : goal.lower_first-requires
lower_first-requires c = (
  search rules,
  (
    omega arith,
    due_first (list_at (lists c.args.lists.now) 129)
        (λ e. (let h = c.if-not-is_empty.ensures.empty.1 e in absurd (cc))) c.requires.later.later,
  ),
)

-- the queue after the call
lowered : (c : goal.After-lower_first) → list_at (lists c.lower_first.new.self) 129 ≡ delta_sooner (list_at (lists c.args.lists.now) 129)
lowered c =
    let t = c.args.lists.now in
    ap (λ ls. list_at ls 129) c.lower_first.ensures.lists ∙ list_at-same (lists t) 129 (delta_sooner (list_at (lists t) 129))
    (omega (arith, queues_of t))

pub returns-then-not-is_empty-clause-delta : goal.returns-then-not-is_empty-clause-delta
returns-then-not-is_empty-clause-delta c =
    let F : List Entry → Type 0 = λ l. IsDelta l in
    subst F (sym (lowered c)) (sooner_delta (list_at (lists c.args.lists.now) 129) c.requires.later.delta c.requires.later.later)

pub returns-then-not-is_empty-clause-sleepers : goal.returns-then-not-is_empty-clause-sleepers
returns-then-not-is_empty-clause-sleepers c ticks =
    ap (sleepers_of (ticks + 1)) (lowered c) ∙ sooner_sleepers ticks
    (list_at (lists c.args.lists.now) 129) c.requires.later.delta c.requires.later.later

pub returns-then-not-is_empty-clause-fits : goal.returns-then-not-is_empty-clause-fits
returns-then-not-is_empty-clause-fits c ps f =
    let ls = lists c.args.lists.now in
    rw c.lower_first.ensures.lists
    (fits_same_places ls (with_list ls 129 (delta_sooner (list_at ls 129))) ps f
    (list_at-other ls 129 (delta_sooner (list_at ls 129)) 128 (λ e. omega (arith, e))) (place_sooner ls 129))

pub returns-else-not-is_empty-clause-sleepers : goal.returns-else-not-is_empty-clause-sleepers
returns-else-not-is_empty-clause-sleepers c ticks = none_asleep (ticks + 1) ticks (list_at (lists c.args.lists.now) 129)
    (c.if-not-is_empty.ensures.empty.0 (search rules))
