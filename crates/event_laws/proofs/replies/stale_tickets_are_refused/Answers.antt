use Rattle.event_laws.proofs.Reply.Tickets.{later_is_stale, stale_sender_refused, stale_receiver_refused, fresh_sender_answers, fresh_receiver_answers}
use Rattle.event_laws.proofs.replies.stale_tickets_are_refused.Goals as goal

pub returns : goal.returns
returns c = record {
  renewed = later_is_stale;
  send = stale_sender_refused;
  receive = stale_receiver_refused;
  fresh_send = fresh_sender_answers;
  fresh_receive = fresh_receiver_answers;
}
