-- What becomes of the examples is computed.
use Rattle.std.proofs.Common.{◌≡◌, ◌++◌, refl, map, true}
use Rattle.xinu_model.specs.Boot.{first_semaphores}
use Rattle.xinu_model.specs.Calls.{calls}
use Rattle.xinu_examples.specs.Played.{outcome_of, last_tables, printed}
use Rattle.xinu_model.specs.Ports.Queues.{first_ports}
use Rattle.xinu_model.specs.Text.{pool_lines, port_lines, sleeper_line}
use Rattle.xinu_examples.specs.Processes.{round_robin, round_robin_lines, preemption, preemption_lines, self_suspension, self_suspension_lines, process_refusals, process_refusals_lines, full_table, full_table_lines, preemption_tables}
use Rattle.xinu_examples.specs.Heap.{heap_replies, heap_replies_lines, stacks, stacks_lines}
use Rattle.xinu_examples.specs.Semaphores.{semaphore_with_a_kill, semaphore_with_a_kill_lines, reset_releases, reset_releases_lines, all_semaphores, all_semaphores_lines}
use Rattle.xinu_examples.specs.Messages.{messages, messages_lines}
use Rattle.xinu_examples.specs.Clock.{timed_receive_and_sleep, timed_receive_and_sleep_lines, timed_receive_in_time, timed_receive_in_time_lines, three_sleepers_and_a_kill, three_sleepers_and_a_kill_lines, seconds, seconds_lines, longest_sleep, longest_sleep_sleepers}
use Rattle.xinu_examples.specs.Pools.{buffer_pool, buffer_pool_lines, all_pools, all_pools_lines, pool_refusals, pool_refusals_lines, pool_given_back, pool_given_back_lines, buffer_pool_pools}
use Rattle.xinu_examples.specs.Ports.{stale_sender, stale_sender_lines, panic, panic_lines, buffers_through_a_port, buffers_through_a_port_lines, all_ports, all_ports_lines, buffers_through_a_port_tables}

pub prints_round_robin : printed round_robin ≡ round_robin_lines
unfolding outcome_of calls first_semaphores first_ports
prints_round_robin = refl

pub prints_preemption : printed preemption ≡ preemption_lines
unfolding outcome_of calls first_semaphores first_ports
prints_preemption = refl

pub prints_self_suspension : printed self_suspension ≡ self_suspension_lines
unfolding outcome_of calls first_semaphores first_ports
prints_self_suspension = refl

pub prints_process_refusals : printed process_refusals ≡ process_refusals_lines
unfolding outcome_of calls first_semaphores first_ports
prints_process_refusals = refl

pub prints_full_table : printed full_table ≡ full_table_lines
unfolding outcome_of calls first_semaphores first_ports
prints_full_table = refl

pub prints_heap_replies : printed heap_replies ≡ heap_replies_lines
unfolding outcome_of calls first_semaphores first_ports
prints_heap_replies = refl

pub prints_stacks : printed stacks ≡ stacks_lines
unfolding outcome_of calls first_semaphores first_ports
prints_stacks = refl

pub prints_semaphore_with_a_kill : printed semaphore_with_a_kill ≡ semaphore_with_a_kill_lines
unfolding outcome_of calls first_semaphores first_ports
prints_semaphore_with_a_kill = refl

pub prints_reset_releases : printed reset_releases ≡ reset_releases_lines
unfolding outcome_of calls first_semaphores first_ports
prints_reset_releases = refl

pub prints_all_semaphores : printed all_semaphores ≡ all_semaphores_lines
unfolding outcome_of calls first_semaphores first_ports
prints_all_semaphores = refl

pub prints_messages : printed messages ≡ messages_lines
unfolding outcome_of calls first_semaphores first_ports
prints_messages = refl

pub prints_timed_receive_and_sleep : printed timed_receive_and_sleep ≡ timed_receive_and_sleep_lines
unfolding outcome_of calls first_semaphores first_ports
prints_timed_receive_and_sleep = refl

pub prints_timed_receive_in_time : printed timed_receive_in_time ≡ timed_receive_in_time_lines
unfolding outcome_of calls first_semaphores first_ports
prints_timed_receive_in_time = refl

pub prints_three_sleepers_and_a_kill : printed three_sleepers_and_a_kill ≡ three_sleepers_and_a_kill_lines
unfolding outcome_of calls first_semaphores first_ports
prints_three_sleepers_and_a_kill = refl

pub prints_seconds : printed seconds ≡ seconds_lines
unfolding outcome_of calls first_semaphores first_ports
prints_seconds = refl

pub shows_longest_sleep_sleepers : map sleeper_line (outcome_of longest_sleep).state.tables.sleepers ≡ longest_sleep_sleepers
unfolding outcome_of calls first_semaphores first_ports
shows_longest_sleep_sleepers = refl

pub prints_buffer_pool : printed buffer_pool ≡ buffer_pool_lines
unfolding outcome_of calls first_semaphores first_ports
prints_buffer_pool = refl

pub prints_all_pools : printed all_pools ≡ all_pools_lines
unfolding outcome_of calls first_semaphores first_ports
prints_all_pools = refl

pub prints_pool_refusals : printed pool_refusals ≡ pool_refusals_lines
unfolding outcome_of calls first_semaphores first_ports
prints_pool_refusals = refl

pub prints_pool_given_back : printed pool_given_back ≡ pool_given_back_lines
unfolding outcome_of calls first_semaphores first_ports
prints_pool_given_back = refl

pub shows_buffer_pool_pools : pool_lines 0 (outcome_of buffer_pool).state.parts.pools ≡ buffer_pool_pools
unfolding outcome_of calls first_semaphores first_ports
shows_buffer_pool_pools = refl

pub prints_stale_sender : printed stale_sender ≡ stale_sender_lines
unfolding outcome_of calls first_semaphores first_ports
prints_stale_sender = refl

pub prints_panic : printed panic ≡ panic_lines
unfolding outcome_of calls first_semaphores first_ports
prints_panic = refl

pub prints_buffers_through_a_port : printed buffers_through_a_port ≡ buffers_through_a_port_lines
unfolding outcome_of calls first_semaphores first_ports
prints_buffers_through_a_port = refl

pub prints_all_ports : printed all_ports ≡ all_ports_lines
unfolding outcome_of calls first_semaphores first_ports
prints_all_ports = refl

pub shows_panics : (outcome_of panic).panicked ≡ true
unfolding outcome_of calls first_semaphores first_ports
shows_panics = refl

pub shows_buffers_through_a_port_tables : pool_lines 0 (outcome_of buffers_through_a_port).state.parts.pools ++ port_lines 0 (outcome_of buffers_through_a_port).state.parts.ports ≡ buffers_through_a_port_tables
unfolding outcome_of calls first_semaphores first_ports
shows_buffers_through_a_port_tables = refl

pub shows_preemption_tables : last_tables preemption ≡ preemption_tables
unfolding outcome_of calls first_semaphores first_ports
shows_preemption_tables = refl
