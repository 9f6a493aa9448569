use mir.Val.{SFits}
use Rattle.std.proofs.Common.{arith, rules, w64, ◌∙◌, ap, sym}
use Rattle.std.proofs.lemmas.Int.{to_z-of_z}
use Rattle.files_c.specs.Answers.{Answered, Held}
use Rattle.files_c.proofs.Effects.{other_answered}
use Rattle.files_c.proofs.Tests.{test_fails}
use Rattle.files_c.proofs.calls.answer.Goals as goal
use Rattle.local_files.specs.Hands.{system}

pub returns-clause-answer : goal.returns-clause-answer
returns-clause-answer c =
    let h : Held = record { system = system c.args.files.now c.args.disk.now; bytes = c.args.bytes.now } in
    let wide : SFits w64 c.other.result = search rules in
    let e0 = test_fails c.args.call.kind 0 (λ z. absurd (omega (arith, z, c.if-call-eq0.false))) in
    let e1 = test_fails c.args.call.kind 1 (λ z. absurd (omega (arith, z, c.if-call-eq1.false))) in
    let e3 = test_fails c.args.call.kind 3 (λ z. absurd (omega (arith, z, c.if-call-eq3.false))) in
    let e4 = test_fails c.args.call.kind 4 (λ z. absurd (omega (arith, z, c.if-call-eq4.false))) in
    to_z-of_z w64 c.other.result wide ∙ c.other.ensures.answer ∙ ap (λ (a : Answered). a.answer) (sym (other_answered h c.args.call e0 e1 e3 e4))

pub returns-clause-held : goal.returns-clause-held
returns-clause-held c =
    let h : Held = record { system = system c.args.files.now c.args.disk.now; bytes = c.args.bytes.now } in
    let e0 = test_fails c.args.call.kind 0 (λ z. absurd (omega (arith, z, c.if-call-eq0.false))) in
    let e1 = test_fails c.args.call.kind 1 (λ z. absurd (omega (arith, z, c.if-call-eq1.false))) in
    let e3 = test_fails c.args.call.kind 3 (λ z. absurd (omega (arith, z, c.if-call-eq3.false))) in
    let e4 = test_fails c.args.call.kind 4 (λ z. absurd (omega (arith, z, c.if-call-eq4.false))) in
    c.other.ensures.held ∙ ap (λ (a : Answered). a.held) (sym (other_answered h c.args.call e0 e1 e3 e4))
