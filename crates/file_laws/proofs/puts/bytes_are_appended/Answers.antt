use Rattle.file_laws.proofs.Patched.{middle_appended, middle_started, middle_continued}
use Rattle.file_laws.proofs.puts.bytes_are_appended.Goals as goal

pub returns-clause-block : goal.returns-clause-block
returns-clause-block c = middle_appended

pub returns-clause-first : goal.returns-clause-first
returns-clause-first c = middle_started

pub returns-clause-link : goal.returns-clause-link
returns-clause-link c = middle_continued
