-- One word more is behind it.
use Rattle.std.proofs.Common.{◌≡◌, ◌∙◌, ℕ, List, ap, arith, drop}
use Rattle.std.proofs.lemmas.List.{drop-drop}
use Rattle.printed_runs.specs.Notes.{first_word}
use Rattle.text_lines.specs.Lines.{tokens_of}
use Rattle.printed_runs.proofs.names.name_word.Goals as goal

pub loop-preserved : goal.loop-preserved
loop-preserved c =
    let words = tokens_of c.args.line.now in
    c.cut_word.ensures.rest ∙ ap (λ (ws : List (List ℕ)). drop 1 ws) c.loop.invariant ∙ drop-drop 1 c.loop.counter words

pub returns : goal.returns
returns c =
    let all : c.loop.counter ≡ 6 = omega (arith, c.loop-test.false, c.loop.auto.counter-end) in
    record { word = c.cut_word-2.ensures.word ∙ ap first_word (c.loop.invariant ∙ ap (λ (n : ℕ). drop n (tokens_of c.args.line.now)) all) }
