use Rattle.std.proofs.Common.{◌≡◌, ◌≤◌, ◌-◌}
use Rattle.reference_files.specs.Steps.{step_of}
use Rattle.xinu_model.specs.Files.Sound.{IsSoundWork}
use Rattle.xinu_model.specs.Files.Work as model
use Rattle.reference_files.proofs.work.next_effects.Given as goal

abbrev pub invariant-loop : goal.invariant-loop
invariant-loop l =
    (model.next_effects (l.effects - l.counter) (step_of l.w l.memory l.notes.items)
    ≡ model.next_effects l.effects (step_of l.fn.w l.fn.memory l.fn.notes.items))
    × IsSoundWork l.w × (l.w.system.blocks ≤ 65542)
