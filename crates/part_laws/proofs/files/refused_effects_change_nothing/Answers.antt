use Rattle.part_laws.proofs.FileSystems.Refusals.{effect_spares}
use Rattle.part_laws.proofs.files.refused_effects_change_nothing.Goals as goal

pub returns-clause-refused : goal.returns-clause-refused
returns-clause-refused c = λ call bytes s. (effect_spares call bytes s).unchanged

pub returns-clause-ended : goal.returns-clause-ended
returns-clause-ended c = λ call bytes s. (effect_spares call bytes s).ended
