use Rattle.std.proofs.Common.{◌≡◌, ◌∙◌, ℕ, ap, ap₂, sym, subst}
use Rattle.std.proofs.lemmas.Result.{IfOk-weaker}
use Rattle.xinu_base.specs.declared.registers.Outcome.{Outcome}
use Rattle.xinu_base.specs.declared.registers.Outcome.TheVariants.{Went, Call, Exit, Trap}
use Rattle.xinu_model.specs.Isa.Effects.{Executed}
use Rattle.xinu_model.specs.Isa.Exec.{exec}
use Rattle.reference_check.specs.Steps.{done_told, reacted_with}
use Rattle.reference_check.proofs.Chosen.{within_executed}
use Rattle.reference_check.specs.Bounds.{IsWithin}
use Rattle.xinu_model.specs.Events.{with_executed}
use Rattle.xinu_model.specs.Machine.{CallState, EventResult, Xinu, current_hart}
use Rattle.reference_check.proofs.steps.instruction_step.Goals as goal

pub call_step-requires-clause-within : goal.call_step-requires-clause-within
call_step-requires-clause-within c =
    subst (λ (x : Xinu). IsWithin 1000000000 x) (sym (ap (λ (d : CallState). d.state) c.instruction.ensures.state))
    (within_executed 1000000000 c.args.m.now.state c.requires.process c.requires.within)

-- what an instruction comes to is the step's, in the state after it
told : (choice : ℕ) (o : Outcome) (did : Executed) (mid old : Xinu) (h : EventResult) → o ≡ did.outcome → mid ≡ with_executed did old
    → h ≡ reacted_with choice o mid → h ≡ reacted_with choice did.outcome (with_executed did old)
told choice o did mid old h same after is = is ∙ ap₂ (λ o s. reacted_with choice o s) same after

pub returns-in-Went-clause-reacted : goal.returns-in-Went-clause-reacted
returns-in-Went-clause-reacted c =
    let old = c.args.m.now.state in
    told (done_told c.args.text.now) Went (exec (current_hart old) old.memory) c.instruction.new.m.state old _ (sym c.in-Went.is ∙ c.instruction.ensures.outcome)
    (ap (λ (d : CallState). d.state) c.instruction.ensures.state) c.nothing.ensures.nothing

pub returns-in-Call-clause-reacted : goal.returns-in-Call-clause-reacted
returns-in-Call-clause-reacted c =
    let old = c.args.m.now.state in
    IfOk-weaker c.call_step.result _ _
    (λ h is. told (done_told c.args.text.now) Call (exec (current_hart old) old.memory) c.instruction.new.m.state old _ (sym c.in-Call.is ∙ c.instruction.ensures.outcome)
    (ap (λ (d : CallState). d.state) c.instruction.ensures.state) is) c.call_step.ensures.called

pub returns-in-Exit-clause-reacted : goal.returns-in-Exit-clause-reacted
returns-in-Exit-clause-reacted c =
    let old = c.args.m.now.state in
    IfOk-weaker c.returned.result _ _
    (λ h is. told (done_told c.args.text.now) Exit (exec (current_hart old) old.memory) c.instruction.new.m.state old _ (sym c.in-Exit.is ∙ c.instruction.ensures.outcome)
    (ap (λ (d : CallState). d.state) c.instruction.ensures.state) is) c.returned.ensures.returned

pub returns-in-Trap-clause-reacted : goal.returns-in-Trap-clause-reacted
returns-in-Trap-clause-reacted c =
    let old = c.args.m.now.state in
    IfOk-weaker c.trapped.result _ _
    (λ h is. told (done_told c.args.text.now) (Trap c.in-Trap.cause) (exec (current_hart old) old.memory) c.instruction.new.m.state old _ (sym c.in-Trap.is ∙ c.instruction.ensures.outcome)
    (ap (λ (d : CallState). d.state) c.instruction.ensures.state) is) c.trapped.ensures.trapped
