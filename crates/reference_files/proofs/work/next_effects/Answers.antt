use Rattle.std.proofs.Common.{◌<◌, ◌+◌, ◌-◌, ◌∙◌, ap, arith, subst, sym}
use Rattle.xinu_base.specs.declared.lines.FileMoment.TheVariants.{Next}
use Rattle.reference_files.specs.Steps.{step_of}
use Rattle.reference_files.proofs.Kept.{blocks_after, next_one, sound_after}
use Rattle.xinu_model.specs.Files.Sound.{IsSoundWork}
use Rattle.xinu_model.specs.Files.Work.{FileStep, next_effects}
use Rattle.reference_files.proofs.work.next_effects.Goals as goal

pub loop-preserved : goal.loop-preserved
loop-preserved c =
    let x = step_of c.loop.w c.loop.memory c.loop.notes.items in
    let k = c.args.effects in
    let n = c.loop.counter in
    let h : n < k = omega arith in
    let is = c.in_ok-first_effect.ensures.effect in
    let few = c.loop.invariant.2 in
    let same = ap (λ (y : FileStep). y.work.system.blocks) is ∙ blocks_after x.work.calls Next x in (
      ap (λ (y : FileStep). next_effects (k - (n + 1)) y) is ∙ sym (next_one k n x h) ∙ c.loop.invariant.0,
      subst IsSoundWork (sym (ap (λ (y : FileStep). y.work) is)) (sound_after Next x c.loop.invariant.1),
      omega (arith, few, same),
    )
