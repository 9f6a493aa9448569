use Rattle.std.proofs.Common.{◌≡◌, pos, ◌+ℤ◌, Some, refl, arith}
use Rattle.queue_table.specs.Lists.{place}
use Rattle.queue_table.specs.Table.{lists}
use Rattle.queue_table.proofs.Laws.{disjoint, place_without_same}
use Rattle.process_core.proofs.Removals.{left}
use Rattle.semaphores.specs.Counts.{beside, entry_at}
use Rattle.semaphores.proofs.Counting.{more, some_waiting, unmarked}
use Rattle.semaphores.proofs.Forgetting.{forgotten_counts, forgotten_fits, has_room, others_stay, placed_as, queue_below, waited_on}
use Rattle.semaphores.proofs.sems.Sems.forget_waiter.Goals as goal

-- the semaphore on which the process waits
placed_at : (c : goal.After-at) → place (lists c.args.lists.now) c.args.p ≡ Some c.at.result
placed_at c =
    placed_as (lists c.args.lists.now) c.args.p c.index.result c.in-Some.q c.at.result c.in-Some.ensures.place c.index.ensures.index c.at.ensures.number

pub raise-requires-clause-room : goal.raise-requires-clause-room
raise-requires-clause-room c =
    let k = c.args.self.now in
    let lt = queue_below (place (lists c.args.lists.now) c.args.p) c.at.result (placed_at c) c.requires.waits in
    has_room (entry_at k.entries c.at.result).count
    (some_waiting (entry_at k.entries c.at.result).count
    (waited_on c.args.lists.now k.entries c.args.p c.at.result c.requires.counts lt (placed_at c)))

-- the same at the end
placed_then : (c : goal.After-remove) → place (lists c.args.lists.now) c.args.p ≡ Some c.at.result
placed_then c =
    placed_as (lists c.args.lists.now) c.args.p c.index.result c.in-Some.q c.at.result c.in-Some.ensures.place c.index.ensures.index c.at.ensures.number

pub returns-in-Some-clause-forgotten : goal.returns-in-Some-clause-forgotten
returns-in-Some-clause-forgotten c s m ticks =
    let t = c.args.lists.now in
    let k = c.args.self.now in
    let sem = c.at.result in
    let z = (entry_at k.entries sem).count in
    let w = waited_on t k.entries c.args.p sem c.requires.counts c.raise.ensures.within (placed_then c) in
    let y = (more z (z +ℤ pos 1) 1 refl).0 in
    rw (
      c.remove.ensures.lists,
      c.raise.ensures.sems,
      c.index-in-Some.ensures.index,
      unmarked k sem (z +ℤ pos 1) m ticks
          (omega (arith, y, w)),
    )
    (left (lists t) s (beside k m ticks) c.args.p
    (disjoint t c.args.p sem 129 (placed_then c) (let lt = c.raise.ensures.within in λ e. omega (arith, e, lt))))

pub returns-in-Some-clause-absent : goal.returns-in-Some-clause-absent
returns-in-Some-clause-absent c =
    rw (c.remove.ensures.lists, c.index-in-Some.ensures.index) (place_without_same (lists c.args.lists.now) c.args.p)

pub returns-in-Some-clause-others : goal.returns-in-Some-clause-others
returns-in-Some-clause-others c q n =
    let lt = c.raise.ensures.within in
    rw (c.remove.ensures.lists, c.index-in-Some.ensures.index)
    (others_stay c.args.lists.now c.args.p c.at.result q (placed_then c) (λ e. omega (arith, e, lt, n)))

pub returns-in-Some-clause-fits : goal.returns-in-Some-clause-fits
returns-in-Some-clause-fits c ps f =
    rw (c.remove.ensures.lists, c.index-in-Some.ensures.index)
    (forgotten_fits c.args.lists.now c.args.p c.at.result ps (placed_then c) c.raise.ensures.within f)

pub returns-in-Some-clause-counts : goal.returns-in-Some-clause-counts
returns-in-Some-clause-counts c =
    rw (c.remove.ensures.lists, c.raise.ensures.sems, c.index-in-Some.ensures.index)
    (forgotten_counts c.args.lists.now c.args.self.now c.args.p c.at.result c.requires.counts c.raise.ensures.within (placed_then c))
