-- No trap is told, so the event was passed, or the run stops after it.
use Rattle.std.proofs.Common.{subst, sym}
use Rattle.watched_run.proofs.Moving.{moved, takes-none, told-none}
use Rattle.watched_run.specs.Moves.{orders_of}
use Rattle.watched_run.specs.Watching.{HaveSeen}
use Rattle.watched_run.specs.declared.points.Points.{Points}
use Rattle.watched_run.proofs.forward.take_one.Goals as goal

pub returns-in-None-clause-moves : goal.returns-in-None-clause-moves
returns-in-None-clause-moves c =
    let old = c.args.run.now in
    let mid = c.step.new.run in
    let o = orders_of c.args.goal.now old in
    let now = orders_of c.args.goal.now mid in
    let found = c.in_ok-stopped.field-0 in
    let P : Points → Type 0 = λ p. HaveSeen old.replay.state.memory p.watches.items in
    let seen = subst P (sym c.step.ensures.points) c.requires.seen in
    moved o now old.replay mid.replay c.after.new.run.replay c.args.who.now c.after.result
    (told-none mid.replay.taken o now found c.in-None.is c.in_ok-stopped.ensures.told)
    c.requires.acts c.requires.no_point
    (takes-none o old.replay mid.replay c.args.who.now found c.in-None.is c.in_ok-stopped.ensures.steps)
    c.after.ensures.stays (c.after.ensures.stop old.replay.state.memory seen)
