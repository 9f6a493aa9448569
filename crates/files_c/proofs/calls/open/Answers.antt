use mir.Val.{SFits}
use Rattle.std.proofs.Common.{rules, w32, w64, ◌∙◌, ℕ, List, [], ap, sym}
use Rattle.std.proofs.lemmas.Int.{to_z-of_z}
use Rattle.files_c.specs.Answers.{Answered, Held, mode_of}
use Rattle.files_c.specs.Spans.{span}
use Rattle.files_c.proofs.Effects.{named_effect}
use Rattle.files_c.proofs.calls.open.Goals as goal
use Rattle.lfs_layout.specs.Files.{bare_name}
use Rattle.local_files.specs.Hands.{system}
use Rattle.xinu_base.specs.declared.files.OpenMode.{OpenMode}
use Rattle.xinu_model.specs.Files.Calls.{Open, file_effect}
use Rattle.xinu_model.specs.Files.Systems.{FileSystem}

pub returns-in-Some-clause-answer : goal.returns-in-Some-clause-answer
returns-in-Some-clause-answer c =
    let bytes = c.args.bytes.now in
    let before = system c.args.files.now c.args.disk.now in
    let r = c.make_plain.result in
    let fits : SFits w32 r = search rules in
    let wide : SFits w64 r = search rules in
    let h : Held = record { system = before; bytes = bytes } in
    rw (to_z-of_z w32 r fits, to_z-of_z w64 r wide) (
    c.make_plain.ensures.reply ∙ ap (λ (m : OpenMode). (file_effect (Open (bare_name c.in-Some.name) m) [] before).reply) c.mode_of.ensures.mode ∙ ap (λ (n : List ℕ). (file_effect (Open n (mode_of c.args.call.number)) [] before).reply) c.in-Some.ensures.bare
    ∙ ap (λ (a : Answered). a.answer) (sym (named_effect (Open (span bytes c.args.call.at c.args.call.count) (mode_of c.args.call.number)) c.args.call h c.in-Some.ensures.there)))

pub returns-in-Some-clause-held : goal.returns-in-Some-clause-held
returns-in-Some-clause-held c =
    let bytes = c.args.bytes.now in
    let before = system c.args.files.now c.args.disk.now in
    let h : Held = record { system = before; bytes = bytes } in
    ap (λ (s : FileSystem). let x : Held = record { system = s; bytes = bytes } in x) (
    c.make_plain.ensures.system ∙ ap (λ (m : OpenMode). (file_effect (Open (bare_name c.in-Some.name) m) [] before).system) c.mode_of.ensures.mode ∙ ap (λ (n : List ℕ). (file_effect (Open n (mode_of c.args.call.number)) [] before).system) c.in-Some.ensures.bare)
    ∙ ap (λ (a : Answered). a.held) (sym (named_effect (Open (span bytes c.args.call.at c.args.call.count) (mode_of c.args.call.number)) c.args.call h c.in-Some.ensures.there))
