use Rattle.std.proofs.Common.{ap, subst, sym}
use Rattle.xinu_base.specs.declared.lines.FileMoment.TheVariants.{Finished}
use Rattle.reference_files.specs.Steps.{step_of}
use Rattle.reference_files.proofs.Kept.{sound_after}
use Rattle.xinu_model.specs.Files.Sound.{IsSoundWork}
use Rattle.xinu_model.specs.Files.Work.{FileStep}
use Rattle.reference_files.proofs.work.calls_completed.Goals as goal

pub next_effects-requires-clause-sound : goal.next_effects-requires-clause-sound
next_effects-requires-clause-sound c =
    let x = step_of c.args.w.now c.args.memory.now c.args.notes.now.items in
    subst IsSoundWork (sym (ap (λ (y : FileStep). y.work) c.in_ok-first_effect.ensures.effect)) (sound_after Finished x c.requires.sound)
