use Rattle.std.proofs.Common.{◌∙◌, refl}
use Rattle.xinu_base.specs.declared.lines.TranscriptLine.TheVariants.{End}
use Rattle.xinu_model.specs.Text.{tables_of}
use Rattle.transcript_laws.specs.Reading.{last_lines}
use Rattle.trace_places.specs.Places.{mistake_in, mistake_past}
use Rattle.trace_places.proofs.LinesRead.{found_same, tables_read, tables_wrong}
use Rattle.trace_places.proofs.walk.mistake_at_end.Goals as goal

pub returns-in-None : goal.returns-in-None
returns-in-None c =
    let s = c.args.machine.now.state in
    let r = c.read_lines-due.result in
    let all = c.deref.ensures.value ∙ c.in_ok-tables.ensures.tables in
    record {
      finds = found_same (mistake_in (last_lines s c.args.end) c.args.text.now mistake_past) _ c.last_mistake.result
          (tables_read (tables_of s) c.deref.result.now (End c.args.end) c.args.text.now r.rest.now mistake_past r.due all c.in-None.is c.read_lines-due.ensures.reads)
          c.last_mistake.ensures.finds;
      end = c.last_mistake.ensures.end;
    }

pub returns : goal.returns
returns c =
    let s = c.args.machine.now.state in
    let r = c.read_lines-due.result in
    let all = c.deref.ensures.value ∙ c.in_ok-tables.ensures.tables in
    record {
      finds = tables_wrong (tables_of s) c.deref.result.now c.in-Some.due (End c.args.end) c.args.text.now r.rest.now mistake_past r.due all c.in-Some.is
          c.read_lines-due.ensures.reads;
      end = refl;
    }
