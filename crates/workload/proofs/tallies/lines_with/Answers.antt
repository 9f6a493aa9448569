-- Each line is counted after those before it.
use Rattle.std.proofs.Common.{◌≡◌, ◌∙◌, true, false, length, sym, ap, arith}
use Rattle.std.proofs.lemmas.Bool.Decides.{nat_tests}
use Rattle.std.proofs.lemmas.List.{nil_from_length}
use Rattle.workload.specs.Summaries.{lines_with}
use Rattle.workload.proofs.Counted.{lines_with-more, lines_with-none}
use Rattle.workload.proofs.tallies.lines_with.Goals as goal

pub loop-rest-preserved-then-begins_with : goal.loop-rest-preserved-then-begins_with
loop-rest-preserved-then-begins_with c =
    let l = c.loop-rest in
    let more = lines_with-more c.args.word.now c.first_line.result.0.now l.rest.now c.first_line.result.1.now true c.first_line.ensures.lines (sym c.begins_with.ensures.begins ∙ c.if-begins_with.true) in
    record { lines = omega (arith, more, l.invariant.lines); few = omega (arith, l.invariant.few, c.first_line.ensures.shorter) }

pub loop-rest-preserved : goal.loop-rest-preserved
loop-rest-preserved c =
    let l = c.loop-rest in
    let other = lines_with-more c.args.word.now c.first_line.result.0.now l.rest.now c.first_line.result.1.now false c.first_line.ensures.lines (sym c.begins_with.ensures.begins ∙ c.if-begins_with.false) in
    record { lines = omega (arith, other, l.invariant.lines); few = omega (arith, l.invariant.few, c.first_line.ensures.shorter) }

pub returns : goal.returns
returns c =
    let l = c.loop-rest in
    let zero : length l.rest.now ≡ 0 = grind (arith, nat_tests) in
    let nothing = ap (lines_with c.args.word.now) (nil_from_length l.rest.now zero) ∙ lines_with-none c.args.word.now in
    record { lines = omega (arith, nothing, l.invariant.lines) }
