use Rattle.std.proofs.Common.{◌∙◌, ◌+◌, not, sym, ap, arith, take}
use Rattle.std.proofs.lemmas.List.{take_all}
use Rattle.std.specs.Prelude.{is_some}
use Rattle.refusal_reasons.proofs.Counted.{times_more}
use Rattle.xinu_model.specs.Sound.Tables.{times}
use Rattle.xinu_model.specs.Tables.{Semaphore, no_semaphore}
use Rattle.refusal_reasons.proofs.looks.free_semaphores.Goals as goal

pub loop-number-preserved : goal.loop-number-preserved
loop-number-preserved c =
    let l = c.args.tables.now.semaphores in
    let i = c.loop-number.invariant in
    let many = c.requires.inside.semaphores in
    let more = times_more (λ (x : Semaphore). not (is_some x.owner)) l c.loop-number.number no_semaphore (omega (arith, many, c.loop-number-test.true)) in
    record {
      counted = ap (λ n. n + c.free_at-free.result) i.counted
          ∙ ap (λ n. times (λ (x : Semaphore). not (is_some x.owner)) (take c.loop-number.number l) + n) c.free_at-free.ensures.free ∙ sym more;
      few = omega (arith, i.few, c.free_at-free.ensures.few);
    }

pub returns : goal.returns
returns c =
    let l = c.args.tables.now.semaphores in
    let many = c.requires.inside.semaphores in
    record {
      free = c.loop-number.invariant.counted
          ∙ ap (times (λ (x : Semaphore). not (is_some x.owner))) (take_all c.loop-number.number l (omega (arith, many, c.loop-number-test.false)));
    }
