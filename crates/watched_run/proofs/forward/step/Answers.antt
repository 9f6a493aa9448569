-- The run went back to where the event of the trap comes next, so it is in the state that it had there.
use Rattle.std.proofs.Common.{◌≡◌, ◌∙◌, ap}
use Rattle.replayed_run.proofs.OneRun.{one-run}
use Rattle.replayed_run.proofs.SameRuns.{again}
use Rattle.watched_run.proofs.Moving.{kept-orders, stands-ahead}
use Rattle.watched_run.specs.Moves.{orders_of, stop_at_trap}
use Rattle.watched_run.specs.Stops.{Orders}
use Rattle.watched_run.proofs.forward.step.Goals as goal

pub returns-in_ok-stand_before-in-Some-clause-steps :
    goal.returns-in_ok-stand_before-in-Some-clause-steps
returns-in_ok-stand_before-in-Some-clause-steps c =
    let old = c.args.run.now in
    let mid = c.take_next.new.self in
    let new = c.stand_before.new.self in
    let o = orders_of c.args.goal.now old in
    let trap = c.in_ok-trap.trap in
    let who = c.args.who.now in
    let orders : orders_of c.args.goal.now mid ≡ o = kept-orders c.args.goal.now old mid c.take_next.ensures.points c.take_next.ensures.told in
    let same = again old.replay mid.replay new.replay c.in_ok-trap.ensures.same c.in_ok-stand_before-in-Some.ensures.same in
    let stood = c.in_ok-stand_before-in-Some.ensures.stands ∙ c.taken-number.ensures.taken in
    stands-ahead o old.replay mid.replay new.replay who trap c.in-Some.stopped (c.in_ok-trap.ensures.takes c.requires.goes_on)
    (c.in-Some.ensures.stop ∙ ap (λ (x : Orders). stop_at_trap x c.taken-number.result trap who) orders
    ∙ ap (λ n. stop_at_trap o n trap who) c.taken-number.ensures.taken)
    stood (λ known. one-run old.replay new.replay c.runs.ensures.runs c.runs-in-Some.ensures.runs same known stood)
