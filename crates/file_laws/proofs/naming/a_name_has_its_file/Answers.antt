use Rattle.file_laws.proofs.Named.{named_at, no_file_named, bytes_sized}
use Rattle.file_laws.proofs.Counted.{files_counted}
use Rattle.file_laws.proofs.naming.a_name_has_its_file.Goals as goal

pub returns-clause-some : goal.returns-clause-some
returns-clause-some c = named_at

pub returns-clause-none : goal.returns-clause-none
returns-clause-none c = no_file_named

pub returns-clause-size : goal.returns-clause-size
returns-clause-size c = bytes_sized

pub returns-clause-count : goal.returns-clause-count
returns-clause-count c = files_counted
