-- One line less.
use Rattle.std.proofs.Common.{◌≡◌, ◌∙◌, ◌++◌, ℕ, List, length, sym, ap, arith, append_assoc, append-nil}
use Rattle.std.proofs.lemmas.Bool.Decides.{nat_tests}
use Rattle.std.proofs.lemmas.List.{nil_from_length}
use Rattle.race_tables.specs.Outcomes.{fed, kept}
use Rattle.race_tables.proofs.Kept.{kept-line, kept-none, kept-other}
use Rattle.race_tables.proofs.outcomes.push_kept.Goals as goal

pub loop-rest-preserved : goal.loop-rest-preserved
loop-rest-preserved c =
    let l = c.loop-rest in
    let other = kept-other c.args.word.now c.first_line.result.0.now l.rest.now c.first_line.result.1.now c.first_line.ensures.lines
    (sym c.is_kept.ensures.kept ∙ c.if-is_kept.false) in
    record { kept = ap (λ (more : List ℕ). l.lines.items ++ more) (sym other) ∙ l.invariant.kept }

pub loop-rest-preserved-in_ok-push_line : goal.loop-rest-preserved-in_ok-push_line
loop-rest-preserved-in_ok-push_line c =
    let l = c.loop-rest in
    let line = c.first_line.result.0.now in
    let rest = kept c.args.word.now c.first_line.result.1.now in
    let more = kept-line c.args.word.now line l.rest.now c.first_line.result.1.now c.first_line.ensures.lines
    (sym c.is_kept.ensures.kept ∙ c.if-is_kept.true) in
    record {
      kept = ap (λ (lines : List ℕ). lines ++ rest) c.in_ok-push_line.ensures.line
          ∙ append_assoc l.lines.items (fed line) rest
          ∙ ap (λ (lines : List ℕ). l.lines.items ++ lines) (sym more)
          ∙ l.invariant.kept;
    }

pub returns : goal.returns
returns c =
    let l = c.loop-rest in
    let zero : length l.rest.now ≡ 0 = grind (arith, nat_tests) in
    let nothing = ap (kept c.args.word.now) (nil_from_length l.rest.now zero) ∙ kept-none c.args.word.now in
    record {
      kept = sym (append-nil l.lines.items) ∙ ap (λ (more : List ℕ). l.lines.items ++ more) (sym nothing) ∙ l.invariant.kept;
    }
