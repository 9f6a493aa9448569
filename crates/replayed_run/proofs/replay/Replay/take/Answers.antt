-- An event was left.
use Rattle.std.proofs.Common.{sym, ap, not}
use Rattle.replayed_run.proofs.Ends.{comes-next}
use Rattle.replayed_run.proofs.replay.Replay.take.Goals as goal

pub returns-in-Ok-clause-left : goal.returns-in-Ok-clause-left
returns-in-Ok-clause-left c =
    let old = c.args.self.now in
    sym (ap not (comes-next old.over old.events old.taken c.in-Some.event c.in-Some.ensures.goes_on c.in-Some.ensures.next))
