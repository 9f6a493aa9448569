use Rattle.xinu_examples.proofs.Computed.Files.{prints_full_disk, prints_killed_writer, stores_killed_writer, opens_killed_writer, prints_two_at_once, stores_two_at_once, prints_deleted}
use Rattle.xinu_examples.proofs.systems.file_syscalls.Goals as goal

pub returns : goal.returns
returns c = record {
  full_disk = prints_full_disk;
  killed_writer = prints_killed_writer;
  killed_writer_bytes = stores_killed_writer;
  killed_writer_files = opens_killed_writer;
  two_at_once = prints_two_at_once;
  two_at_once_bytes = stores_two_at_once;
  deleted = prints_deleted;
}
