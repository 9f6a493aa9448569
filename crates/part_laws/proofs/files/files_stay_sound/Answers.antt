use Rattle.part_laws.proofs.FileSystems.Effects.{effect_keeps}
use Rattle.part_laws.proofs.FileSystems.Refusals.{effect_spares}
use Rattle.part_laws.proofs.FileSystems.Started.{sound_start}
use Rattle.part_laws.proofs.files.files_stay_sound.Goals as goal

pub returns-clause-starts : goal.returns-clause-starts
returns-clause-starts c = sound_start

pub returns-clause-effects : goal.returns-clause-effects
returns-clause-effects c = effect_keeps

pub returns-clause-blocks : goal.returns-clause-blocks
returns-clause-blocks c = λ call bytes s. (effect_spares call bytes s).blocks
