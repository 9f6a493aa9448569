use Rattle.xinu_examples.proofs.Computed.Promises.{prints_message_preempts, prints_third_waits, prints_third_runs, prints_sleeper_sleeps, prints_sleeper_wakes, prints_first_come, prints_count_adds_up, prints_one_at_a_time}
use Rattle.xinu_examples.proofs.systems.promises.Goals as goal

pub returns : goal.returns
returns c = record {
  message_preempts = prints_message_preempts;
  third_waits = prints_third_waits;
  third_runs = prints_third_runs;
  sleeper_sleeps = prints_sleeper_sleeps;
  sleeper_wakes = prints_sleeper_wakes;
  first_come = prints_first_come;
  count_adds_up = prints_count_adds_up;
  one_at_a_time = prints_one_at_a_time;
}
