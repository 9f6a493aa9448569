use Rattle.std.proofs.Common.{rules, ◌≡◌, ◌∙◌, ◌+◌, ◌-◌, ◌<◌, ℕ, true, false, drop, get_or, sym, subst, arith}
use Rattle.xinu_base.specs.declared.events.Event.TheVariants.{Step}
use Rattle.preemptions.proofs.MomentLemmas.{before-end, before-found, before-pass, before-step}
use Rattle.preemptions.specs.Moments.{events_before}
use Rattle.preemptions.specs.Preempted.{is_step}
use Rattle.preemptions.proofs.moments.events_before.Goals.{then-is_step+else-passed-steps, else-is_step}
use Rattle.preemptions.proofs.moments.events_before.Goals as goal

pub returns-then-passed-steps-clause-before : goal.returns-then-passed-steps-clause-before
returns-then-passed-steps-clause-before c =
    let l = c.loop-i in
    let step : is_step (get_or c.args.base.now l.i Step) ≡ true = search rules in
    before-found c.args.steps l.i l.passed c.args.base.now l.invariant.before (omega (arith, c.loop-i-test.true)) step (omega (arith, c.if-passed-steps.true))

pub loop-i-preserved : goal.loop-i-preserved
loop-i-preserved c =
    let l = c.loop-i in
    let base = c.args.base.now in
    let after : ℕ → Type 0 = λ passed. events_before c.args.steps base ≡ (l.i + 1) + events_before (c.args.steps - passed) (drop (l.i + 1) base) in
    elim c.if-is_step.branch [
      | then-is_step+else-passed-steps w ↦
          let step : is_step (get_or base l.i Step) ≡ true = sym c.is_step.ensures.step ∙ w.if-is_step.true in
          let more : l.passed < c.args.steps = omega (arith, l.invariant.few, w.if-passed-steps.false) in
          record {
            before = subst after (sym w.passed-is) (before-step c.args.steps l.i l.passed base l.invariant.before c.loop-i-test.true step more);
            few = omega (arith, more, w.passed-is);
          }
      | else-is_step w ↦
          let other : is_step (get_or base l.i Step) ≡ false = sym c.is_step.ensures.step ∙ w.if-is_step.false in
          record {
            before = subst after (sym w.passed-is) (before-pass c.args.steps l.i l.passed base l.invariant.before c.loop-i-test.true other);
            few = omega (arith, l.invariant.few, w.passed-is);
          }
    ]

pub returns-clause-before : goal.returns-clause-before
returns-clause-before c =
    let l = c.loop-i in
    before-end c.args.steps l.i l.passed c.args.base.now l.invariant.before (omega (arith, c.loop-i-test.false, c.loop-i.auto.i-end))
