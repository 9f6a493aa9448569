-- What becomes of the examples of the raw disk is computed.
use Rattle.std.proofs.Common.{◌≡◌, [], ◌∷◌, refl}
use Rattle.xinu_model.specs.Boot.{first_semaphores}
use Rattle.xinu_model.specs.Calls.{calls}
use Rattle.xinu_model.specs.Devices.State.{empty_blocks}
use Rattle.xinu_model.specs.Memory.{bytes_from}
use Rattle.xinu_model.specs.Ports.Queues.{first_ports}
use Rattle.xinu_examples.specs.Consoles.{bytes_at}
use Rattle.xinu_examples.specs.DiskCalls.{written_and_read, written_and_read_lines, killed_writer, killed_writer_lines}
use Rattle.xinu_examples.specs.Played.{outcome_of, printed}

pub prints_written_and_read : printed written_and_read ≡ written_and_read_lines
unfolding outcome_of calls first_semaphores first_ports empty_blocks bytes_from
prints_written_and_read = refl

pub stores_written_and_read : bytes_at 511 3 written_and_read ≡ 0 ∷ 7 ∷ 7 ∷ []
unfolding outcome_of calls first_semaphores first_ports empty_blocks bytes_from
stores_written_and_read = refl

pub prints_killed_writer : printed killed_writer ≡ killed_writer_lines
unfolding outcome_of calls first_semaphores first_ports empty_blocks bytes_from
prints_killed_writer = refl

pub stores_killed_writer : bytes_at 511 3 killed_writer ≡ 0 ∷ 7 ∷ 7 ∷ []
unfolding outcome_of calls first_semaphores first_ports empty_blocks bytes_from
stores_killed_writer = refl
