use Rattle.std.proofs.Common.{◌≡◌, ◌∙◌, ◌<◌, ◌+◌, ap, arith, drop, length, sym, Some}
use Rattle.std.specs.Prelude.{slice_index_or}
use Rattle.xinu_model.specs.Text.{text}
use Rattle.reference_check.specs.Places.{after_bytes}
use Rattle.reference_check.proofs.ReadOn.{read_line_at}
use Rattle.reference_check.proofs.reading.after_lines.Goals as goal

pub returns-in_default : goal.returns-in_default
returns-in_default c =
    let lines = c.args.lines.now in
    let i = c.loop-line.line-index in
    let l = c.line-item.result in
    let h : i < length lines = omega arith in
    let is : slice_index_or lines i l ≡ l = sym c.line-item.is in
    record {
      left = sym c.loop-line.invariant ∙ read_line_at lines i l (Some c.loop-line.rest.now) h is
          ∙ ap (after_bytes (text (drop (i + 1) lines))) c.in_default.ensures.left;
    }

pub loop-line-preserved : goal.loop-line-preserved
loop-line-preserved c =
    let lines = c.args.lines.now in
    let i = c.loop-line.line-index in
    let l = c.line-item.result in
    let h : i < length lines = omega arith in
    let is : slice_index_or lines i l ≡ l = sym c.line-item.is in
    ap (after_bytes (text (drop (i + 1) lines))) (sym c.in-Some.ensures.left)
    ∙ sym (read_line_at lines i l (Some c.loop-line.rest.now) h is) ∙ c.loop-line.invariant
