use Rattle.part_laws.proofs.FileSystems.Written.{read_back, read_gives, bytes_before, bytes_after}
use Rattle.part_laws.proofs.files.written_bytes_are_read_back.Goals as goal

pub returns-clause-back : goal.returns-clause-back
returns-clause-back c = λ s d n k f bytes sound at may some e. read_back s sound d n k f bytes at may some e

pub returns-clause-before : goal.returns-clause-before
returns-clause-before c = bytes_before

pub returns-clause-after : goal.returns-clause-after
returns-clause-after c = bytes_after

pub returns-clause-read : goal.returns-clause-read
returns-clause-read c = read_gives
