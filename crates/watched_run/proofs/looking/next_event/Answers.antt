use Rattle.watched_run.proofs.Taking.{next-event-is}
use Rattle.watched_run.proofs.looking.next_event.Goals as goal

pub returns : goal.returns
returns c = record { next = next-event-is c.args.replay.now c.next.result c.next.ensures.next c.next.ensures.goes_on }
