use Rattle.file_laws.proofs.Linked.{middle_first, middle_linked}
use Rattle.file_laws.proofs.changes.an_index_block_is_added.Goals as goal

pub returns-clause-first : goal.returns-clause-first
returns-clause-first c = middle_first

pub returns-clause-link : goal.returns-clause-link
returns-clause-link c = middle_linked
