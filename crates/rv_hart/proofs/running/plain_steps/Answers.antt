use Rattle.std.proofs.Common.{◌≡◌, ◌∙◌, ◌+◌, ◌-◌, ◌≤◌, suc, sym, ap, arith}
use Rattle.xinu_model.specs.Isa.Ran.{Ran, ran_on}
use Rattle.rv_hart.proofs.Ran.{ran_goes, ran_stops}
use Rattle.rv_hart.proofs.running.plain_steps.Goals as goal

pub loop-count-preserved : goal.loop-count-preserved
loop-count-preserved c =
    let i = c.loop-count.count in
    let n = c.args.most in
    let low = c.loop-count-test.true in
    let left : suc (n - (i + 1)) ≡ n - i = omega (arith, low) in
    ran_goes i (n - (i + 1)) c.loop-count.hart c.step.new.hart c.loop-count.ram c.step.new.ram (sym c.in-Went.is ∙ c.step.ensures.outcome) c.step.ensures.hart c.step.ensures.memory
    ∙ ap (λ left. ran_on i left c.loop-count.hart c.loop-count.ram) left ∙ c.loop-count.invariant

pub returns-in_default : goal.returns-in_default
returns-in_default c =
    let i = c.loop-count.count in
    let n = c.args.most in
    let low = c.loop-count-test.true in
    let left : suc (n - (i + 1)) ≡ n - i = omega (arith, low) in
    let few : i ≤ n = omega (arith, low) in
    let e = ran_stops i (n - (i + 1)) c.loop-count.hart c.step.new.hart c.loop-count.ram c.step.new.ram (λ went. c.in_default.not-Went (c.step.ensures.outcome ∙ went)) c.step.ensures.hart c.step.ensures.memory
    ∙ ap (λ left. ran_on i left c.loop-count.hart c.loop-count.ram) left ∙ c.loop-count.invariant in
    record { count = ap (λ (r : Ran). r.count) e; hart = ap (λ (r : Ran). r.hart) e; memory = ap (λ (r : Ran). r.memory) e; most = few }
