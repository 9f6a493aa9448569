-- Steps are passed at once if only a trap can stop the run.
use Rattle.std.proofs.Common.{◌∙◌, sym, ap}
use Rattle.watched_run.proofs.Moving.{jumped, none-passed}
use Rattle.watched_run.specs.Moves.{orders_of}
use Rattle.watched_run.specs.Watching.{areas_of}
use Rattle.watched_run.proofs.forward.jump.Goals as goal

pub returns-then-is_empty-clause-passed : goal.returns-then-is_empty-clause-passed
returns-then-is_empty-clause-passed c =
    jumped (orders_of c.args.goal.now c.args.run.now) c.args.run.now.replay c.take_steps.new.self.replay c.changed.new.self.replay
    (record { free = sym c.is_free.ensures.free ∙ c.if-is_free.true; no_addresses = c.is_empty.ensures.addresses c.if-is_empty.true; no_areas = ap areas_of (c.is_empty.ensures.watches c.if-is_empty.true) })
    c.take_steps.ensures.steps c.changed.ensures.stays

pub returns-else-is_free-clause-passed : goal.returns-else-is_free-clause-passed
returns-else-is_free-clause-passed c = none-passed (orders_of c.args.goal.now c.args.run.now) c.args.run.now.replay
