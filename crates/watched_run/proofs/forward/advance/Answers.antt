-- An event is passed, and then some steps.
use Rattle.std.proofs.Common.{◌≡◌, None, rules}
use Rattle.watched_run.proofs.Moving.{goes-on, passes-none, told-none}
use Rattle.watched_run.specs.Moves.{orders_of}
use Rattle.watched_run.proofs.forward.advance.Goals as goal

pub returns-clause-advances : goal.returns-clause-advances
returns-clause-advances c =
    let old = c.args.run.now in
    let mid = c.advance_one.new.run in
    let o = orders_of c.args.goal.now old in
    let now = orders_of c.args.goal.now mid in
    let found = c.in_ok-stopped.field-0 in
    let none : found ≡ None = search rules in
    goes-on o now old.replay mid.replay c.jump.new.run.replay
    (told-none mid.replay.taken o now found none c.in_ok-stopped.ensures.told)
    (passes-none o old.replay mid.replay found none c.in_ok-stopped.ensures.moves)
    c.jump.ensures.passed
