use Rattle.part_laws.proofs.FileWork.Sound.{sound_issued, sound_completed, sound_given_up}
use Rattle.part_laws.proofs.file_work.work_stays_sound.Goals as goal

pub returns-clause-issued : goal.returns-clause-issued
returns-clause-issued c = sound_issued

pub returns-clause-completed : goal.returns-clause-completed
returns-clause-completed c = sound_completed

pub returns-clause-given_up : goal.returns-clause-given_up
returns-clause-given_up c = sound_given_up
