use Rattle.xinu_examples.proofs.Computed.Consoles.{prints_session, stores_session, prints_raw_read, stores_raw_read, shows_raw_read, prints_read_all, prints_newline_put, prints_console_replies, prints_long_write, prints_killed_reader, shows_killed_reader, prints_opened_by_name}
use Rattle.xinu_examples.proofs.systems.console_calls.Goals as goal

pub returns : goal.returns
returns c = record {
  session = prints_session;
  session_bytes = stores_session;
  raw_read = prints_raw_read;
  raw_read_bytes = stores_raw_read;
  raw_read_console = shows_raw_read;
  read_all = prints_read_all;
  newline_put = prints_newline_put;
  console_replies = prints_console_replies;
  long_write = prints_long_write;
  killed_reader = prints_killed_reader;
  killed_reader_console = shows_killed_reader;
  opened_by_name = prints_opened_by_name;
}
