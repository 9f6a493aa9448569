use Rattle.std.proofs.Common.{◌≡◌, ◌∙◌, ap, arith, subst, sym}
use Rattle.std.specs.Prelude.{IfOk}
use Rattle.reference_check.proofs.Chosen.{step_along}
use Rattle.reference_check.proofs.Fewness.{few_calls}
use Rattle.reference_state.specs.Happened.{happened}
use Rattle.transcript_laws.specs.Choices.{told}
use Rattle.xinu_base.specs.declared.events.Event.{Event}
use Rattle.xinu_model.specs.Events.{effect_of, next_file_call}
use Rattle.reference_check.proofs.events.take.Goals as goal

pub returns-in-Step-clause-happens : goal.returns-in-Step-clause-happens
returns-in-Step-clause-happens c =
    let s = c.args.m.now.state in
    let text = c.args.text.now in
    let along = step_along text (next_file_call s) s ∙ sym (ap (λ (e : Event). effect_of s e (told s e text)) c.in-Step.is) in
    subst (λ x. IfOk c.step.result (λ h. happened h c.step.new.m.state ≡ x)) along c.step.ensures.steps

pub files_complete-requires-clause-few : goal.files_complete-requires-clause-few
files_complete-requires-clause-few c =
    let few = few_calls 1000000000 c.args.m.now.state c.requires.within in
    omega (arith, c.more_told-more.ensures.most, few)
