use mir.Val.{SFits}
use Rattle.std.proofs.Common.{arith, rules, w64, ◌∙◌, ap, sym}
use Rattle.std.proofs.lemmas.Int.{to_z-of_z}
use Rattle.files_c.specs.Answers.{Answered, Held}
use Rattle.files_c.proofs.Effects.{not_above, others_on}
use Rattle.files_c.proofs.calls.other.Goals as goal
use Rattle.local_files.specs.Hands.{system}

pub returns-clause-answer : goal.returns-clause-answer
returns-clause-answer c =
    let h : Held = record { system = system c.args.files.now c.args.disk.now; bytes = c.args.bytes.now } in
    let wide : SFits w64 c.work_on.result = search rules in
    let few = not_above 9 c.args.call.kind (omega (arith, c.if-call-gt9.false)) in
    to_z-of_z w64 c.work_on.result wide ∙ c.work_on.ensures.answer ∙ ap (λ (a : Answered). a.answer) (sym (others_on h c.args.call few))

pub returns-clause-held : goal.returns-clause-held
returns-clause-held c =
    let h : Held = record { system = system c.args.files.now c.args.disk.now; bytes = c.args.bytes.now } in
    let few = not_above 9 c.args.call.kind (omega (arith, c.if-call-gt9.false)) in
    c.work_on.ensures.held ∙ ap (λ (a : Answered). a.held) (sym (others_on h c.args.call few))
