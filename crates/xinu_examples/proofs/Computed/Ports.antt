-- What becomes of the examples of pools, ports and messages is computed.
use Rattle.std.proofs.Common.{◌≡◌, refl}
use Rattle.xinu_model.specs.Boot.{first_semaphores}
use Rattle.xinu_model.specs.Calls.{calls}
use Rattle.xinu_model.specs.Memory.{number_at}
use Rattle.xinu_model.specs.Ports.Queues.{first_ports}
use Rattle.xinu_model.specs.Text.{port_lines, semaphore_lines}
use Rattle.xinu_examples.specs.Played.{outcome_of, printed}
use Rattle.xinu_examples.specs.Pools.{freed_last_first, freed_last_first_lines, greatest_pools, greatest_pools_lines, greatest_buffers, greatest_buffers_lines}
use Rattle.xinu_examples.specs.Ports.{through_a_port, through_a_port_lines, messages_in_order, messages_in_order_lines, order_at_a_delete, order_at_a_delete_lines, receivers_after_senders, receivers_after_senders_lines, stale_while_full, stale_while_full_lines, whose_semaphores, whose_semaphores_lines, search_moves, search_moves_lines, ports_go_round, ports_go_round_lines, reset_gives_room, reset_gives_room_lines, messages_in_order_ports, whose_semaphores_semaphores}
use Rattle.xinu_examples.specs.Messages.{kept_message, kept_message_lines}

pub prints_freed_last_first : printed freed_last_first ≡ freed_last_first_lines
unfolding outcome_of calls first_semaphores first_ports
prints_freed_last_first = refl

pub prints_greatest_pools : printed greatest_pools ≡ greatest_pools_lines
unfolding outcome_of calls first_semaphores first_ports
prints_greatest_pools = refl

pub prints_greatest_buffers : printed greatest_buffers ≡ greatest_buffers_lines
unfolding outcome_of calls first_semaphores first_ports
prints_greatest_buffers = refl

pub prints_through_a_port : printed through_a_port ≡ through_a_port_lines
unfolding outcome_of calls first_semaphores first_ports
prints_through_a_port = refl

pub prints_messages_in_order : printed messages_in_order ≡ messages_in_order_lines
unfolding outcome_of calls first_semaphores first_ports
prints_messages_in_order = refl

pub prints_order_at_a_delete : printed order_at_a_delete ≡ order_at_a_delete_lines
unfolding outcome_of calls first_semaphores first_ports
prints_order_at_a_delete = refl

pub prints_receivers_after_senders : printed receivers_after_senders ≡ receivers_after_senders_lines
unfolding outcome_of calls first_semaphores first_ports
prints_receivers_after_senders = refl

pub prints_stale_while_full : printed stale_while_full ≡ stale_while_full_lines
unfolding outcome_of calls first_semaphores first_ports
prints_stale_while_full = refl

pub prints_whose_semaphores : printed whose_semaphores ≡ whose_semaphores_lines
unfolding outcome_of calls first_semaphores first_ports
prints_whose_semaphores = refl

pub prints_search_moves : printed search_moves ≡ search_moves_lines
unfolding outcome_of calls first_semaphores first_ports
prints_search_moves = refl

pub prints_ports_go_round : printed ports_go_round ≡ ports_go_round_lines
unfolding outcome_of calls first_semaphores first_ports
prints_ports_go_round = refl

pub prints_reset_gives_room : printed reset_gives_room ≡ reset_gives_room_lines
unfolding outcome_of calls first_semaphores first_ports
prints_reset_gives_room = refl

pub prints_kept_message : printed kept_message ≡ kept_message_lines
unfolding outcome_of calls first_semaphores first_ports
prints_kept_message = refl

pub shows_freed_last_first_number : number_at (outcome_of freed_last_first).state.memory 4112 4 ≡ 1
unfolding outcome_of calls first_semaphores first_ports
shows_freed_last_first_number = refl

pub shows_messages_in_order_ports : port_lines 0 (outcome_of messages_in_order).state.parts.ports ≡ messages_in_order_ports
unfolding outcome_of calls first_semaphores first_ports
shows_messages_in_order_ports = refl

pub shows_whose_semaphores_semaphores : semaphore_lines 0 (outcome_of whose_semaphores).state.tables.semaphores ≡ whose_semaphores_semaphores
unfolding outcome_of calls first_semaphores first_ports
shows_whose_semaphores_semaphores = refl
