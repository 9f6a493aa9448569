-- The event happened, and its lines were printed.
use Rattle.replayed_run.proofs.Sent.{bytes-sent}
use Rattle.replayed_run.proofs.events.take_event.Goals as goal

pub returns : goal.returns
returns c =
    let event = c.event-go.ensures.happens in
    record {
      printed = record {
        lines = event.lines;
        happens = event.happens;
        bytes = bytes-sent c.sent.result _ _ _ _ event.lines c.new-out.ensures.fresh c.new-host.ensures.empty event.prints c.sent.ensures.sent;
      };
      goes = c.event-go.ensures.goes;
      over = c.event-go.ensures.over;
      counted = c.event-go.ensures.counted;
    }
