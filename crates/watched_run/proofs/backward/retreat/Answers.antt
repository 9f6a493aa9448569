-- The event was taken, and what changed in it is known.
use Rattle.std.proofs.Common.{◌∙◌, ap, subst, sym}
use Rattle.watched_run.proofs.PassedBack.{further, retreats-over}
use Rattle.watched_run.specs.Moments.{actor}
use Rattle.watched_run.specs.Moves.{orders_of}
use Rattle.watched_run.specs.Stops.{changer}
use Rattle.watched_run.specs.Watching.{HaveSeen, areas_of, first_changed}
use Rattle.watched_run.specs.Windows.{stop_ahead, stop_over}
use Rattle.watched_run.specs.declared.points.Points.{Points}
use Rattle.watched_run.proofs.backward.retreat.Goals as goal

pub returns-clause-retreats : goal.returns-clause-retreats
returns-clause-retreats c =
    let old = c.args.run.now in
    let mid = c.take_quietly.new.self in
    let o = orders_of c.args.goal.now old in
    let P : Points → Type 0 = λ p. HaveSeen old.replay.state.memory p.watches.items in
    let seen = subst P (sym c.in_ok-take_quietly.ensures.points) c.requires.seen in
    retreats-over o old.replay mid.replay c.over.new.run.replay c.over.result (c.in_ok-take_quietly.ensures.takes c.requires.goes_on) c.over.ensures.stays
    (c.over.ensures.stop old.replay.state.memory seen
    ∙ ap (λ (p : Points). stop_over (first_changed old.replay.state.memory mid.replay.state.memory (areas_of p.watches.items)) c.changer-process.result c.stop_ahead-ahead.result)
    c.in_ok-take_quietly.ensures.points
    ∙ ap (λ p. stop_over (first_changed old.replay.state.memory mid.replay.state.memory o.areas) p c.stop_ahead-ahead.result)
    (c.changer-process.ensures.changer ∙ ap (changer c.args.goal.now old.replay.state) c.actor-who.ensures.actor)
    ∙ ap (stop_over (first_changed old.replay.state.memory mid.replay.state.memory o.areas) (changer o.goal old.replay.state (actor old.replay)))
    (c.stop_ahead-ahead.ensures.ahead ∙ ap (stop_ahead o old.replay.state) c.actor-who.ensures.actor))

pub returns-clause-further : goal.returns-clause-further
returns-clause-further c =
    further c.args.run.now.replay c.take_quietly.new.self.replay c.over.new.run.replay (c.in_ok-take_quietly.ensures.takes c.requires.goes_on) c.over.ensures.stays
