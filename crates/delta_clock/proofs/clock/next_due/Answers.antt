use Rattle.std.proofs.Common.{◌≡◌, ◌∙◌, ◌∷◌, ◌≤ℤ◌, ◌<ℤ◌, pos, sym, ap, arith}
use Rattle.std.proofs.lemmas.Int.{ints}
use Rattle.queue_table.specs.Lists.{list_at, rest_of}
use Rattle.queue_table.specs.Table.{lists}
use Rattle.queue_table.proofs.Laws.{list_at-same, queues_of}
use Rattle.delta_clock.proofs.Delays.{first_zero, no_key, none_later, some_later}
use Rattle.delta_clock.proofs.clock.next_due.Goals as goal

pub returns-in_default-clause-later : goal.returns-in_default-clause-later
returns-in_default-clause-later c =
    let l = list_at (lists c.args.lists.now) 129 in none_later l (no_key l c.in_default.ensures.key)

pub returns-then-key-gt0-clause-later : goal.returns-then-key-gt0-clause-later
returns-then-key-gt0-clause-later c =
    let above : pos 0 <ℤ c.in-Some.key = grind (arith, ints) in
    some_later (list_at (lists c.args.lists.now) 129) c.in-Some.key c.in-Some.ensures.key c.requires.delta above

pub returns-in-Some-dequeue-clause-first : goal.returns-in-Some-dequeue-clause-first
returns-in-Some-dequeue-clause-first c =
    let t = c.args.lists.now in
    let l = list_at (lists t) 129 in
    let p = c.in-Some-dequeue.first in
    let below : c.in-Some.key ≤ℤ pos 0 = grind (arith, ints) in
    let new : list_at (lists c.dequeue.new.self) 129 ≡ rest_of l
    = ap (λ ls. list_at ls 129) c.dequeue.ensures.lists ∙ list_at-same (lists t) 129 (rest_of l) (omega (arith, queues_of t)) in
    first_zero l c.in-Some.key p c.in-Some.ensures.key c.in-Some-dequeue.ensures.first c.requires.delta below
    ∙ ap (λ q. (q, pos 0) ∷ rest_of l) (sym c.at.ensures.number) ∙ ap (λ m. (c.at.result, pos 0) ∷ m) (sym new)
