use Rattle.std.proofs.Common.{subst}
use Rattle.part_laws.proofs.NameSpaces.Mappings.{IsMapped, mapping_ends, no_row, one_row, in_a_circle}
use Rattle.part_laws.proofs.names.mappings_end.Goals as goal

pub returns-clause-ends : goal.returns-clause-ends
returns-clause-ends c = λ rows name m e. (subst IsMapped e (mapping_ends rows name)).0

pub returns-clause-short : goal.returns-clause-short
returns-clause-short c = λ rows name m e. (subst IsMapped e (mapping_ends rows name)).1

pub returns-clause-unmounted : goal.returns-clause-unmounted
returns-clause-unmounted c = no_row

pub returns-clause-direct : goal.returns-clause-direct
returns-clause-direct c = one_row

pub returns-clause-circular : goal.returns-clause-circular
returns-clause-circular c = in_a_circle
