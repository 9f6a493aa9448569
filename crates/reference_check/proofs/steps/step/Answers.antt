use Rattle.std.proofs.Common.{◌≡◌, ◌≢◌, ◌∙◌, ap, arith, sym, subst}
use Rattle.std.specs.Prelude.{IfOk}
use Rattle.reference_check.proofs.Chosen.{continuing_step, instruction_chosen, null_step}
use Rattle.reference_check.specs.Steps.{done_told}
use Rattle.reference_state.specs.Happened.{happened}
use Rattle.xinu_base.specs.declared.processes.Process.{Process}
use Rattle.xinu_model.specs.Tables.{process_at}
use Rattle.reference_check.proofs.steps.step.Goals as goal

pub returns-then-index-eq0-clause-steps : goal.returns-then-index-eq0-clause-steps
returns-then-index-eq0-clause-steps c =
    let s = c.args.m.now.state in
    let null : s.tables.current ≡ 0 = omega arith in
    c.nothing.ensures.nothing ∙ sym (null_step (done_told c.args.text.now) s null)

pub returns-in-Nothing-clause-steps : goal.returns-in-Nothing-clause-steps
returns-in-Nothing-clause-steps c =
    let s = c.args.m.now.state in
    let n : s.tables.current ≢ 0 = λ null. absurd (omega (arith, null)) in
    let read = c.process_at.ensures.process ∙ ap (λ p. process_at s.tables p) c.current-2.ensures.current in
    let done = sym (ap (λ (x : Process). x.rest) read) ∙ c.in-Nothing.is in
    subst (λ x. IfOk c.instruction_step.result (λ h. happened h c.instruction_step.new.m.state ≡ x))
    (sym (instruction_chosen (done_told c.args.text.now) s n done)) c.instruction_step.ensures.reacted

pub returns-in_default : goal.returns-in_default
returns-in_default c =
    let s = c.args.m.now.state in
    let n : s.tables.current ≢ 0 = λ null. absurd (omega (arith, null)) in
    let read = c.process_at.ensures.process ∙ ap (λ p. process_at s.tables p) c.current-2.ensures.current in
    record {
      steps = subst (λ x. IfOk c.continuing_step.result (λ h. happened h c.continuing_step.new.m.state ≡ x))
          (sym (continuing_step (done_told c.args.text.now) s c.requires.within.sound n (λ e. c.in_default.not-Nothing (ap (λ (x : Process). x.rest) read ∙ e))))
          c.continuing_step.ensures.steps;
      start = c.continuing_step.ensures.start;
    }
