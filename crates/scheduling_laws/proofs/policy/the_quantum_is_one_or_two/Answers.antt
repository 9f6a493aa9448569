use Rattle.xinu_laws.proofs.Preserve.Disks.{sound_boot_on}
use Rattle.scheduling_laws.proofs.Passes.Events.{carried_happens, carried_run}
use Rattle.scheduling_laws.proofs.Quantum.{few_carried, few_boot_on}
use Rattle.scheduling_laws.proofs.policy.the_quantum_is_one_or_two.Goals as goal

pub returns-clause-start : goal.returns-clause-start
returns-clause-start c = few_boot_on

pub returns-clause-event : goal.returns-clause-event
returns-clause-event c = carried_happens few_carried

pub returns-clause-run : goal.returns-clause-run
returns-clause-run c = λ events old lines new end k h runs. (carried_run few_carried events old lines new end (k, h) runs).1

pub returns-clause-transcript : goal.returns-clause-transcript
returns-clause-transcript c = λ disks images events last all few disks_sound is.
    (carried_run few_carried events is.start is.lines last is.end (sound_boot_on disks images is.start few disks_sound is.boots, few_boot_on disks images is.start is.boots) is.runs).1
