-- The run passes events, and then more events.
use Rattle.std.proofs.Common.{◌≡◌, ◌∙◌, None, rules}
use Rattle.replayed_run.proofs.SameRuns.{again}
use Rattle.watched_run.proofs.Moving.{goes-on-none, looked-at, none-passed-still, passed-more, same-still, seen-still, told-none}
use Rattle.watched_run.specs.Moves.{orders_of}
use Rattle.watched_run.proofs.forward.go_on.Goals as goal

pub loop-run-init : goal.loop-run-init
loop-run-init c =
    let old = c.args.run.now in
    let new = c.changed.new.self in
    record {
      same = same-still old.replay new.replay c.changed.ensures.stays;
      passed = none-passed-still (orders_of c.args.goal.now old) old.replay new.replay c.changed.ensures.stays;
      seen = seen-still old.replay new.replay new.points.watches.items c.changed.ensures.stays c.changed.ensures.seen;
      told = looked-at c.args.goal.now old new c.changed.ensures.addresses c.changed.ensures.areas c.changed.ensures.told;
    }

pub loop-run-preserved : goal.loop-run-preserved
loop-run-preserved c =
    let old = c.args.run.now in
    let mid = c.loop-run.run in
    let new = c.advance.new.run in
    let o = orders_of c.args.goal.now old in
    let now = orders_of c.args.goal.now mid in
    let found = c.in_ok-stopped.field-0 in
    let none : found ≡ None = search rules in
    record {
      same = again old.replay mid.replay new.replay c.loop-run.invariant.same c.in_ok-stopped.ensures.same;
      passed = passed-more o now old.replay mid.replay new.replay c.loop-run.invariant.told c.loop-run.invariant.passed
          (goes-on-none now mid.replay new.replay found none c.in_ok-stopped.ensures.advances);
      seen = c.in_ok-stopped.ensures.seen none;
      told = told-none new.replay.taken now (orders_of c.args.goal.now new) found none c.in_ok-stopped.ensures.told ∙ c.loop-run.invariant.told;
    }
