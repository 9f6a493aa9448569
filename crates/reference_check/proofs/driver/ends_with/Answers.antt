use Rattle.std.proofs.Common.{◌≡◌, ◌∙◌, ap, rules, sym, List, Some}
use Rattle.std.specs.Prelude.{bytes_eq}
use Rattle.xinu_base.specs.declared.lines.TranscriptLine.{TranscriptLine}
use Rattle.xinu_base.specs.declared.lines.TranscriptLine.TheVariants.{End}
use Rattle.xinu_model.specs.Text.{line_text, tables_of, text}
use Rattle.reference_check.specs.Places.{after_bytes}
use Rattle.reference_check.proofs.ReadOn.{last_at, last_nowhere}
use Rattle.reference_check.proofs.driver.ends_with.Goals as goal

pub returns-in_default : goal.returns-in_default
returns-in_default c =
    let s = c.args.machine.now.state in
    let all = c.deref.ensures.value ∙ c.in_ok-tables.ensures.tables in
    let left = ap (λ (l : List TranscriptLine). after_bytes (text l) (Some c.args.text.now)) (sym all) ∙ c.in_default.ensures.left in
    record { ends = sym (last_nowhere (tables_of s) (End c.args.end) c.args.text.now left) }

pub returns : goal.returns
returns c =
    let s = c.args.machine.now.state in
    let rest = c.in-Some.rest.now in
    let all = c.deref.ensures.value ∙ c.in_ok-tables.ensures.tables in
    let left = ap (λ (l : List TranscriptLine). after_bytes (text l) (Some c.args.text.now)) (sym all) ∙ c.in-Some.ensures.left in
    let same : c.eq.result ≡ bytes_eq (line_text (End c.args.end)) rest = search rules in
    record { ends = same ∙ sym (last_at (tables_of s) (End c.args.end) c.args.text.now rest left) }
