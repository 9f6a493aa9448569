-- Stretch by stretch from where the run stood, and at last its beginning.
use Rattle.std.proofs.Common.{◌≡◌, ◌∙◌, ℕ, true, None, refl, subst, arith, rules}
use Rattle.replayed_run.proofs.SameRuns.{again, still}
use Rattle.watched_run.proofs.LookedBack.{looked-more, looked-stop, looks-some, none-looked, stops-at-beginning, with-ok}
use Rattle.replayed_run.specs.Replayed.{Replayed}
use Rattle.watched_run.specs.Backward.{IsStoppedBack, StopsBack}
use Rattle.watched_run.specs.Moves.{orders_of}
use Rattle.watched_run.specs.Stops.{Orders}
use Rattle.watched_run.specs.Windows.{HasStood, IsLookedThrough}
use Rattle.watched_run.specs.declared.stopped.Stopped.{Stopped}
use Rattle.watched_run.proofs.backward.look_back.Goals as goal

pub loop-to-init : goal.loop-to-init
loop-to-init c =
    let r = c.args.run.now.replay in
    record {
      some = omega arith;
      same = still r;
      looked = λ known. none-looked (orders_of c.args.goal.now c.args.run.now) c.taken-to.result r r c.runs.ensures.runs known c.taken-to.ensures.taken c.taken-to.ensures.within refl;
      orders = refl;
    }

pub returns-in-Some-clause-stops : goal.returns-in-Some-clause-stops
returns-in-Some-clause-stops c = λ known.
    let old = c.args.run.now in
    let mid = c.loop-to.run in
    let new = c.last_stop.new.run in
    let i = c.loop-to.invariant in
    let is = i.looked known in
    let now = orders_of c.args.goal.now mid in
    looked-stop (orders_of c.args.goal.now old) now c.loop-to.to old.replay mid.replay new.replay c.in-Some.stopped i.orders is
    (looks-some now c.saturating_sub-from.result is.far new.replay c.in_ok-stopped.field-0 c.in-Some.stopped c.in-Some.is
    (c.in_ok-stopped.ensures.looks is.far is.stood))

pub loop-to-preserved : goal.loop-to-preserved
loop-to-preserved c =
    let old = c.args.run.now in
    let mid = c.loop-to.run in
    let new = c.last_stop.new.run in
    let i = c.loop-to.invariant in
    let o = orders_of c.args.goal.now old in
    let none : c.in_ok-stopped.field-0 ≡ None = search rules in
    record {
      some = search rules;
      same = again old.replay mid.replay new.replay i.same c.in_ok-stopped.ensures.same;
      looked = λ known.
          (let is = i.looked known in
          looked-more o (orders_of c.args.goal.now mid) c.saturating_sub-from.result c.loop-to.to old.replay mid.replay new.replay c.in_ok-stopped.field-0 i.orders none is
          (c.in_ok-stopped.ensures.looks is.far is.stood));
      orders = c.in_ok-stopped.ensures.orders ∙ i.orders;
    }

pub returns-clause-stops : goal.returns-clause-stops
returns-clause-stops c =
    let old = c.args.run.now in
    let mid = c.loop-to.run in
    let new = c.begin.new.run in
    let i = c.loop-to.invariant in
    let o = orders_of c.args.goal.now old in
    let none : c.loop-to.to ≡ 0 = omega (arith, c.loop-to-test.false) in
    with-ok (λ (stopped : Stopped). (x : Orders) (place : Replayed) → HasStood 0 place mid.replay → IsStoppedBack x new.replay place stopped.process stopped.stop)
    (λ (stopped : Stopped). old.replay.known ≡ true → StopsBack o old.replay new.replay stopped) c.begin.result c.begin.ensures.begins
    (λ stopped begins known.
    let P : ℕ → Type 0 = λ n. IsLookedThrough o n old.replay mid.replay in
    let is = subst P none (i.looked known) in
    stops-at-beginning o old.replay mid.replay new.replay stopped is (begins o is.far is.stood))
