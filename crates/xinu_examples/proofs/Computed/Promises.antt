-- What becomes of the examples of who runs, when a sleeper wakes, and whom a semaphore lets in is computed.
use Rattle.std.proofs.Common.{◌≡◌, refl}
use Rattle.xinu_model.specs.Boot.{first_semaphores}
use Rattle.xinu_model.specs.Calls.{calls}
use Rattle.xinu_model.specs.Ports.Queues.{first_ports}
use Rattle.xinu_examples.specs.Played.{outcome_of, printed}
use Rattle.xinu_examples.specs.Promises.{message_preempts, message_preempts_lines, third_waits, third_waits_lines, third_runs, third_runs_lines, sleeper_sleeps, sleeper_sleeps_lines, sleeper_wakes, sleeper_wakes_lines, first_come, first_come_lines, count_adds_up, count_adds_up_lines, one_at_a_time, one_at_a_time_lines}

pub prints_message_preempts : printed message_preempts ≡ message_preempts_lines
unfolding outcome_of calls first_semaphores first_ports
prints_message_preempts = refl

pub prints_third_waits : printed third_waits ≡ third_waits_lines
unfolding outcome_of calls first_semaphores first_ports
prints_third_waits = refl

pub prints_third_runs : printed third_runs ≡ third_runs_lines
unfolding outcome_of calls first_semaphores first_ports
prints_third_runs = refl

pub prints_sleeper_sleeps : printed sleeper_sleeps ≡ sleeper_sleeps_lines
unfolding outcome_of calls first_semaphores first_ports
prints_sleeper_sleeps = refl

pub prints_sleeper_wakes : printed sleeper_wakes ≡ sleeper_wakes_lines
unfolding outcome_of calls first_semaphores first_ports
prints_sleeper_wakes = refl

pub prints_first_come : printed first_come ≡ first_come_lines
unfolding outcome_of calls first_semaphores first_ports
prints_first_come = refl

pub prints_count_adds_up : printed count_adds_up ≡ count_adds_up_lines
unfolding outcome_of calls first_semaphores first_ports
prints_count_adds_up = refl

pub prints_one_at_a_time : printed one_at_a_time ≡ one_at_a_time_lines
unfolding outcome_of calls first_semaphores first_ports
prints_one_at_a_time = refl
