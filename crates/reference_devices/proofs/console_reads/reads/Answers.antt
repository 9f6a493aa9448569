use Rattle.std.proofs.Common.{◌≡◌, ◌∙◌, ◌+◌, ◌-◌, suc, ap, sym, rules, arith, true, if◌then◌else◌, Option}
use Rattle.xinu_base.specs.declared.processes.Rest.TheVariants.{TtyRead}
use Rattle.xinu_model.specs.Console.Taking as model
use Rattle.xinu_model.specs.Semaphores.Waiting.{await}
use Rattle.xinu_model.specs.Machine.{Xinu, CallResult, Waits}
use Rattle.reference_devices.specs.Steps.{and_then}
use Rattle.reference_state.specs.declared.answers.Answer.{Answer}
use Rattle.reference_devices.proofs.console_reads.reads.Goals as goal

pub loop-i-preserved : goal.loop-i-preserved
loop-i-preserved c =
    let want = c.args.done + c.args.left in
    let i = c.loop-i.i in
    let at = c.args.at in
    let n = want - (i + 1) in
    let rest : Xinu → CallResult = model.reads n at (suc i) in
    let then_ : Xinu → CallResult = model.read_next at i rest in
    let s = c.loop-i.m.state in
    let left : want - i ≡ suc n = omega (arith, c.loop-i-test.true) in
    let whole : i + suc n ≡ want = omega (arith, c.loop-i-test.true) in
    let took : c.in_ok-await_token.field-0 ≡ true = search rules in
    let a = c.in_ok-await_token.ensures.awaits then_ in
    let r = c.in_ok-answer.ensures.reads rest in
    let next : suc i ≡ i + 1 = omega arith in (
      c.in_ok-answer.ensures.start,
      ap (λ k. model.reads n at k c.read_next.new.m.state) (sym next)
          ∙ sym (r ∙ ap (λ (o : Option Answer). and_then o rest c.read_next.new.m) c.in_default.is)
          ∙ sym (a ∙ ap (λ b. if b then then_ c.await_token.new.self.state else record { call = c.await_token.new.self; answer = Waits }) took)
          ∙ ap (λ k. await model.TY_ISEM (TtyRead (model.span at i k)) then_ s) (sym whole)
          ∙ ap (λ k. model.reads k at i s) (sym left)
          ∙ c.loop-i.invariant.1,
    )
