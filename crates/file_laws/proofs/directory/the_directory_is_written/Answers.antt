use Rattle.file_laws.proofs.Rewritten.{rewritten_entries, rewritten_header, rewritten_other}
use Rattle.file_laws.proofs.Right.{rewritten_directory}
use Rattle.file_laws.proofs.directory.the_directory_is_written.Goals as goal

pub returns-clause-entries : goal.returns-clause-entries
returns-clause-entries c = rewritten_entries

pub returns-clause-counts : goal.returns-clause-counts
returns-clause-counts c = rewritten_header

pub returns-clause-others : goal.returns-clause-others
returns-clause-others c = rewritten_other

pub returns-clause-directory : goal.returns-clause-directory
returns-clause-directory c = rewritten_directory
