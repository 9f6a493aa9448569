use Rattle.xinu_examples.proofs.Computed.Ports.{prints_whose_semaphores, prints_search_moves, prints_ports_go_round, prints_reset_gives_room, shows_whose_semaphores_semaphores}
use Rattle.xinu_examples.proofs.systems.port_numbers.Goals as goal

pub returns : goal.returns
returns c = record {
  whose_semaphores = prints_whose_semaphores;
  search_moves = prints_search_moves;
  ports_go_round = prints_ports_go_round;
  reset_gives_room = prints_reset_gives_room;
  whose_semaphores_semaphores = shows_whose_semaphores_semaphores;
}
