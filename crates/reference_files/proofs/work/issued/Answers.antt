use Rattle.std.proofs.Common.{refl, subst, sym}
use Rattle.part_laws.proofs.FileWork.Sound.{works_queued}
use Rattle.xinu_model.specs.Files.Sound.{IsSoundWork}
use Rattle.reference_files.proofs.work.issued.Goals as goal

pub first_effect-requires-clause-sound : goal.first_effect-requires-clause-sound
first_effect-requires-clause-sound c =
    let w = c.args.w.now in
    subst IsSoundWork (sym c.in_ok-enqueued.ensures.enqueued)
    (works_queued w.calls c.args.a c.args.memory.now w refl c.requires.caller c.requires.right c.requires.sound)
