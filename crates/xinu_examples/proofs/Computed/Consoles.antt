-- What becomes of the examples of the console is computed.
use Rattle.std.proofs.Common.{◌≡◌, [], ◌∷◌, refl}
use Rattle.xinu_model.specs.Boot.{first_semaphores}
use Rattle.xinu_model.specs.Calls.{calls}
use Rattle.xinu_model.specs.Ports.Queues.{first_ports}
use Rattle.xinu_model.specs.Text.{console_line}
use Rattle.xinu_examples.specs.Consoles.{session, session_lines, bytes_at, raw_read, raw_read_lines, raw_console_line, read_all, read_all_lines, newline_put, newline_put_lines, console_replies, console_replies_lines, long_write, long_write_lines, killed_reader, killed_reader_lines, killed_reader_console, opened_by_name, opened_by_name_lines}
use Rattle.xinu_examples.specs.Played.{outcome_of, printed}

pub prints_session : printed session ≡ session_lines
unfolding outcome_of calls first_semaphores first_ports
prints_session = refl

pub stores_session : bytes_at 2048 3 session ≡ 97 ∷ 99 ∷ 10 ∷ []
unfolding outcome_of calls first_semaphores first_ports
stores_session = refl

pub prints_raw_read : printed raw_read ≡ raw_read_lines
unfolding outcome_of calls first_semaphores first_ports
prints_raw_read = refl

pub stores_raw_read : bytes_at 2048 2 raw_read ≡ 8 ∷ 13 ∷ []
unfolding outcome_of calls first_semaphores first_ports
stores_raw_read = refl

pub shows_raw_read : console_line (outcome_of raw_read).state.parts.devices.console ≡ raw_console_line
unfolding outcome_of calls first_semaphores first_ports
shows_raw_read = refl

pub prints_read_all : printed read_all ≡ read_all_lines
unfolding outcome_of calls first_semaphores first_ports
prints_read_all = refl

pub prints_newline_put : printed newline_put ≡ newline_put_lines
unfolding outcome_of calls first_semaphores first_ports
prints_newline_put = refl

pub prints_console_replies : printed console_replies ≡ console_replies_lines
unfolding outcome_of calls first_semaphores first_ports
prints_console_replies = refl

pub prints_long_write : printed long_write ≡ long_write_lines
unfolding outcome_of calls first_semaphores first_ports
prints_long_write = refl

pub prints_killed_reader : printed killed_reader ≡ killed_reader_lines
unfolding outcome_of calls first_semaphores first_ports
prints_killed_reader = refl

pub shows_killed_reader : console_line (outcome_of killed_reader).state.parts.devices.console ≡ killed_reader_console
unfolding outcome_of calls first_semaphores first_ports
shows_killed_reader = refl

pub prints_opened_by_name : printed opened_by_name ≡ opened_by_name_lines
unfolding outcome_of calls first_semaphores first_ports
prints_opened_by_name = refl
