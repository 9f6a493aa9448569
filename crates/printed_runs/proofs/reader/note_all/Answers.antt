use Rattle.std.proofs.Common.{◌∙◌, sym}
use Rattle.printed_runs.proofs.Noted.{all_noted, one_noted}
use Rattle.printed_runs.proofs.reader.note_all.Goals as goal

pub loop-rest-preserved : goal.loop-rest-preserved
loop-rest-preserved c =
    λ said k. let so_far = c.loop-rest.invariant said k in
    one_noted c.args.text.now c.loop-rest.rest.now c.first_line.result.1.now c.first_line.result.0.now said so_far.0 c.loop-rest.usages
    c.note.new.self c.note_of.result c.first_line.ensures.lines c.note_of.ensures (c.note.ensures.knows so_far.0) so_far.1.0 so_far.1.1

pub returns : goal.returns
returns c = record {
  knows = λ said k. let so_far = c.loop-rest.invariant said k in
      all_noted c.args.text.now c.loop-rest.rest.now said so_far.0 c.loop-rest.usages (sym c.is_empty.ensures ∙ c.loop-rest-test.false) so_far.1.0 so_far.1.1;
}
