use Rattle.xinu_examples.proofs.Computed.Calls.{prints_timed_receive_and_sleep, prints_timed_receive_in_time, prints_three_sleepers_and_a_kill, prints_seconds, shows_longest_sleep_sleepers}
use Rattle.xinu_examples.proofs.systems.clock.Goals as goal

pub returns : goal.returns
returns c = record {
  timed_receive_and_sleep = prints_timed_receive_and_sleep;
  timed_receive_in_time = prints_timed_receive_in_time;
  three_sleepers_and_a_kill = prints_three_sleepers_and_a_kill;
  seconds = prints_seconds;
  longest_sleep_sleepers = shows_longest_sleep_sleepers;
}
