use Rattle.std.proofs.Common.{rules, arith, w32}
use Rattle.std.proofs.lemmas.Int.{ints}
use mir.Val.{SFits}
use Rattle.queue_table.specs.Table.{lists}
use Rattle.queue_table.proofs.Laws.{queues_of}
use Rattle.std.proofs.lemmas.Int.{to_z-of_z}
use Rattle.delta_clock.proofs.Delays.{later-insert, slept, slept_fits}
use Rattle.delta_clock.proofs.clock.Clock.sleep_for.Goals as goal

pub returns-clause-sleeps : goal.returns-clause-sleeps
returns-clause-sleeps c s b =
    let t = c.args.lists.now in
    let f : SFits w32 c.args.delay = search rules in
    rw (c.insert_delta.ensures.lists, c.index.ensures.index, to_z-of_z w32 c.args.delay f)
    (slept (lists t) s b c.args.p c.args.delay (queues_of t) c.requires.absent c.requires.later.delta c.requires.longer)

pub returns-clause-fits : goal.returns-clause-fits
returns-clause-fits c ps fits may =
    let t = c.args.lists.now in
    rw (c.insert_delta.ensures.lists, c.index.ensures.index)
    (slept_fits (lists t) ps c.args.p _ fits (queues_of t)
    (omega (arith, c.index.ensures.index, c.index.ensures.bound)) c.requires.absent may)

pub returns-clause-later : goal.returns-clause-later
returns-clause-later c =
    let t = c.args.lists.now in
    let f : SFits w32 c.args.delay = search rules in
    rw (c.insert_delta.ensures.lists, c.index.ensures.index, to_z-of_z w32 c.args.delay f)
    (later-insert (lists t) c.args.p c.args.delay (queues_of t) c.requires.later c.requires.longer
    (omega (arith, ints, c.ranges.delay.sfits)))
