use Rattle.part_laws.proofs.FileSystems.Refusals.{effect_spares, deleted_is_gone}
use Rattle.part_laws.proofs.files.other_files_stay.Goals as goal

pub returns-clause-same : goal.returns-clause-same
returns-clause-same c = λ call bytes s. (effect_spares call bytes s).others

pub returns-clause-devices : goal.returns-clause-devices
returns-clause-devices c = λ call bytes s. (effect_spares call bytes s).devices

pub returns-clause-deleted : goal.returns-clause-deleted
returns-clause-deleted c = λ name bytes s. deleted_is_gone name s
