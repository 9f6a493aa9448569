-- The file loads as the program.
use Rattle.std.proofs.Common.{◌∙◌, ◌++◌, ℕ, List, Some, ap}
use Rattle.std.specs.List.{flat_map}
use Rattle.std.proofs.lemmas.Result.{IfOk-weaker}
use Rattle.asm_syntax.specs.Statements.{word_bytes}
use Rattle.workload.specs.Groups.{groups}
use Rattle.workload.specs.Programs.{content, place_of, program_at, repeated, texts}
use Rattle.workload.proofs.programs.make_file.Goals as goal

pub returns-clause-loads : goal.returns-clause-loads
unfolding content
returns-clause-loads c =
    let number = c.args.number in
    let words = c.as_slice.ensures.value ∙ c.in_ok-words.ensures.words ∙ ap (λ (kinds : ℕ). repeated (groups (place_of number) kinds 64 c.args.draws.now)) c.kinds_of.ensures.kinds in
    let bytes = c.as_slice-2.ensures.value ∙ c.in_ok-content.ensures.bytes ∙ ap (λ (ws : List ℕ). texts number ++ flat_map word_bytes ws) words in
    IfOk-weaker c.image_file.result _ _ (λ file loads. loads ∙ ap (λ (bs : List ℕ). Some (program_at (place_of number) bs)) bytes) c.image_file.ensures.loads
