-- A stop that is found is later than those before.
use Rattle.std.proofs.Common.{◌≡◌, ◌∙◌, ap, arith, subst, sym}
use Rattle.replayed_run.proofs.SameRuns.{again}
use Rattle.watched_run.proofs.Moving.{looked-at, same-still, seen-still}
use Rattle.watched_run.proofs.PassedBack.{finds-more, none-passed-back}
use Rattle.watched_run.proofs.Passing.{stands-still}
use Rattle.replayed_run.specs.Replayed.{Replayed}
use Rattle.watched_run.specs.Moves.{orders_of}
use Rattle.watched_run.specs.Windows.{Finds, HasPassedBack}
use Rattle.watched_run.proofs.backward.find_last.Goals as goal

pub loop-run-init : goal.loop-run-init
loop-run-init c =
    let old = c.args.run.now in
    let new = c.changed.new.self in
    let stays = c.changed.ensures.stays in
    let P : Replayed → Type 0 = λ r. HasPassedBack (orders_of c.args.goal.now old) old.replay r in
    let taken : new.replay.taken ≡ old.replay.taken = ap (λ (r : Replayed). r.taken) stays in
    record {
      same = same-still old.replay new.replay stays;
      within = (let few = c.requires.before in omega (arith, few, taken));
      finds = subst P (sym stays) (none-passed-back (orders_of c.args.goal.now old) old.replay old.replay (stands-still old.replay));
      seen = seen-still old.replay new.replay new.points.watches.items stays c.changed.ensures.seen;
      orders = looked-at c.args.goal.now old new c.changed.ensures.addresses c.changed.ensures.areas c.changed.ensures.told;
    }

pub loop-run-preserved : goal.loop-run-preserved
loop-run-preserved c =
    let old = c.args.run.now in
    let mid = c.loop-run.run in
    let new = c.retreat.new.run in
    let o = orders_of c.args.goal.now old in
    let now = orders_of c.args.goal.now mid in
    let i = c.loop-run.invariant in
    let e = c.in_ok-stop.ensures in
    let P = Finds o old.replay new.replay in
    record {
      same = again old.replay mid.replay new.replay i.same e.same;
      within = (let less = c.loop-run-test.true in let at = c.taken.ensures.taken in let further = e.further in omega (arith, less, at, further));
      finds = subst P (sym c.latest-found.ensures.latest)
          (finds-more o now old.replay mid.replay new.replay c.loop-run.found c.taken-number.result c.in_ok-stop.stop i.orders i.finds c.runs.ensures.runs i.same e.same
          (sym c.taken-number.ensures.taken) e.further e.retreats);
      seen = e.seen;
      orders = e.orders ∙ i.orders;
    }
