use Rattle.event_laws.proofs.Reply.Timeouts.{timeouts_told, time_ran_out, served_in_time, effects_timely, ticks_answer}
use Rattle.event_laws.proofs.replies.only_recvtime_times_out.Goals as goal

pub returns : goal.returns
returns c = record {
  continued = timeouts_told;
  timed = time_ran_out;
  disk = served_in_time;
  files = effects_timely;
  tick = ticks_answer;
}
