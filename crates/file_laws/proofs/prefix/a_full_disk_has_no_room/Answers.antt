use Rattle.file_laws.proofs.Needs.{middle_has_room, middle_full, middle_index_full}
use Rattle.file_laws.proofs.prefix.a_full_disk_has_no_room.Goals as goal

pub returns-clause-fits : goal.returns-clause-fits
returns-clause-fits c = middle_has_room

pub returns-clause-data : goal.returns-clause-data
returns-clause-data c = middle_full

pub returns-clause-index : goal.returns-clause-index
returns-clause-index c = middle_index_full
