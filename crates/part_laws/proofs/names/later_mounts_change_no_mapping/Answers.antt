use Rattle.part_laws.proofs.NameSpaces.Mappings.{later_rows}
use Rattle.part_laws.proofs.names.later_mounts_change_no_mapping.Goals as goal

pub returns : goal.returns
returns c = record { same = later_rows }
