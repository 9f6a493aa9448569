-- The run went back, came to where it stood, and perhaps went back to a stop.
use Rattle.std.proofs.Common.{◌≡◌}
use Rattle.watched_run.proofs.LookedBack.{found-none, found-some, looked-none, looked-some}
use Rattle.watched_run.proofs.Moving.{kept-orders}
use Rattle.watched_run.specs.Moves.{orders_of}
use Rattle.watched_run.proofs.backward.last_stop.Goals as goal

pub returns-in_ok-seek-in-Some-clause-looks : goal.returns-in_ok-seek-in-Some-clause-looks
returns-in_ok-seek-in-Some-clause-looks c = λ place stood.
    let old = c.args.run.now in
    let start = c.seek.new.self in
    let end = c.find_last.new.run in
    let o = orders_of c.args.goal.now old in
    let orders : orders_of c.args.goal.now start ≡ o = kept-orders c.args.goal.now old start c.seek.ensures.points c.seek.ensures.told in
    let stop = found-some o (orders_of c.args.goal.now start) start.replay end.replay c.in_ok-found.found c.in-Some.found orders c.in-Some.is c.in_ok-found.ensures.finds in
    looked-some o c.args.to place old.replay start.replay end.replay c.seek-in-Some.new.self.replay c.in-Some.found stood c.in_ok-seek.ensures.same
    c.runs-2.ensures.runs c.in_ok-found.ensures.same c.in_ok-found.ensures.within c.in_ok-found.ensures.reached stop c.in_ok-seek-in-Some.ensures.same
    c.runs-in-Some.ensures.runs c.in_ok-seek-in-Some.ensures.within c.in_ok-seek-in-Some.ensures.reached

pub returns-in-None-clause-looks : goal.returns-in-None-clause-looks
returns-in-None-clause-looks c = λ place stood.
    let old = c.args.run.now in
    let start = c.seek.new.self in
    let end = c.find_last.new.run in
    let o = orders_of c.args.goal.now old in
    let orders : orders_of c.args.goal.now start ≡ o = kept-orders c.args.goal.now old start c.seek.ensures.points c.seek.ensures.told in
    let passed = found-none o (orders_of c.args.goal.now start) start.replay end.replay c.in_ok-found.found orders c.in-None.is c.in_ok-found.ensures.finds in
    looked-none o c.args.from c.args.to place old.replay start.replay end.replay stood c.in_ok-seek.ensures.same c.runs.ensures.runs
    c.in_ok-seek.ensures.within c.requires.farther c.in_ok-seek.ensures.reached c.in_ok-found.ensures.same c.runs-2.ensures.runs
    c.in_ok-found.ensures.within c.in_ok-found.ensures.reached passed
