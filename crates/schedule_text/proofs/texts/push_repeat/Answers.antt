-- One line, or none.
use Rattle.std.proofs.Common.{◌≡◌, ◌∙◌, ◌++◌, ℕ, List, sym, ap, arith, append-nil, replicate}
use Rattle.schedule_text.specs.Written.{schedule_text}
use Rattle.schedule_text.proofs.Joining.{one_line, no_line}
use Rattle.schedule_text.proofs.texts.push_repeat.Goals as goal

pub returns-in_ok-extend_from_slice-clause-text : goal.returns-in_ok-extend_from_slice-clause-text
returns-in_ok-extend_from_slice-clause-text c =
    c.in_ok-extend_from_slice.ensures.items
    ∙ ap (λ (more : List ℕ). c.args.text.now.items ++ more)
    (c.bytes.ensures.bytes ∙ c.line_of.ensures.line ∙ sym (one_line c.args.event c.args.count c.if-count-gt0.true c.requires.counts))

pub returns-else-count-gt0-clause-text : goal.returns-else-count-gt0-clause-text
returns-else-count-gt0-clause-text c =
    let none : c.args.count ≡ 0 = omega arith in
    sym
    (ap (λ (n : ℕ). c.args.text.now.items ++ schedule_text (replicate n c.args.event)) none
    ∙ ap (λ (more : List ℕ). c.args.text.now.items ++ more) no_line
    ∙ append-nil c.args.text.now.items)
