use Rattle.std.proofs.Common.{◌≡◌, ◌∙◌, sym, subst}
use Rattle.std.specs.Prelude.{IfOk}
use Rattle.reference_check.proofs.Chosen.{asked_at_once, asked_waits}
use Rattle.reference_check.specs.Steps.{done_told}
use Rattle.reference_state.specs.FileCalls.{file_call_of}
use Rattle.reference_state.specs.Happened.{happened}
use Rattle.xinu_model.specs.Files.Syscalls.{files_of, request_for}
use Rattle.reference_check.proofs.file_calls.make_call.Goals as goal

pub returns-then-has_calls-clause-happens : goal.returns-then-has_calls-clause-happens
returns-then-has_calls-clause-happens c =
    let s = c.args.m.now.state in
    let a = request_for (file_call_of c.args.call) c.args.at s in
    let waits = asked_waits (done_told c.args.text.now) (files_of s).calls a c.args.first.items s (sym c.has_calls.ensures.has ∙ c.if-has_calls.true) in
    subst (λ x. IfOk c.call_waits.result (λ h. happened h c.call_waits.new.m.state ≡ x)) (sym waits) c.call_waits.ensures.waits

pub returns-clause-happens : goal.returns-clause-happens
returns-clause-happens c =
    let s = c.args.m.now.state in
    let a = request_for (file_call_of c.args.call) c.args.at s in
    let once = asked_at_once c.args.text.now (files_of s).calls a c.args.first.items s (sym c.has_calls.ensures.has ∙ c.if-has_calls.false)
    (sym c.says_done.ensures.says ∙ c.if-not-says_done.false) in
    subst (λ x. IfOk c.call_at_once.result (λ h. happened h c.call_at_once.new.m.state ≡ x)) (sym once) c.call_at_once.ensures.happens
