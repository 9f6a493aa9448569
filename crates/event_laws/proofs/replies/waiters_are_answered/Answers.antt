use Rattle.event_laws.proofs.Reply.Released.{released_by_delete, left_by_delete, released_by_reset, released_by_signal, released_by_signals}
use Rattle.event_laws.proofs.replies.waiters_are_answered.Goals as goal

pub returns : goal.returns
returns c = record {
  deleted = released_by_delete;
  left = left_by_delete;
  reset = released_by_reset;
  signal = released_by_signal;
  signals = released_by_signals;
}
