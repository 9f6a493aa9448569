use Rattle.xinu_examples.proofs.Computed.Disks.{prints_written_and_read, stores_written_and_read, prints_killed_writer, stores_killed_writer}
use Rattle.xinu_examples.proofs.systems.disk_calls.Goals as goal

pub returns : goal.returns
returns c = record {
  written_and_read = prints_written_and_read;
  written_and_read_bytes = stores_written_and_read;
  killed_writer = prints_killed_writer;
  killed_writer_bytes = stores_killed_writer;
}
