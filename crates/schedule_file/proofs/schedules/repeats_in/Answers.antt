-- Each line is read after those before it.
use Rattle.std.proofs.Common.{◌+◌, refl, arith, length-append}
use Rattle.std.proofs.lemmas.Result.{err_from_is_err_and}
use Rattle.text_lines.specs.Lines.{lines_of}
use Rattle.schedule_file.specs.ScheduleFiles.{events_at}
use Rattle.schedule_file.specs.Repeats.{repeats_events}
use Rattle.schedule_file.proofs.ReadingLemmas.{read_on-start, names_fault, reads_more}
use Rattle.schedule_file.proofs.schedules.repeats_in.Goals as goal

pub loop-rest-init : goal.loop-rest-init
loop-rest-init c = record {
  reads = rw c.new-repeats.ensures.items (read_on-start c.args.text.now);
  sum = rw c.new-repeats.ensures.items refl;
  most = omega arith;
  each = rw c.new-repeats.ensures.items (λ k d within. absurd (omega arith));
  lines = omega arith;
}

pub returns-in_err-events-clause-read : goal.returns-in_err-events-clause-read
returns-in_err-events-clause-read c =
    let exit = err_from_is_err_and c.from_residual.result c.from_residual.ensures.1 in
    rw (exit.1, exit.2)
    (names_fault c.in_err-events.field-0.0 (c.loop-rest.line + 1) c.loop-rest.events (repeats_events c.loop-rest.repeats.items)
    c.first_line.result.0.now (lines_of c.first_line.result.1.now) c.args.text.now c.in_err-events.ensures.fault
    c.loop-rest.invariant.sum
    (rw c.first_line.ensures.lines at c.loop-rest.invariant.reads))

pub loop-rest-preserved : goal.loop-rest-preserved
loop-rest-preserved c = record {
  reads =
      reads_more (c.loop-rest.line + 1) c.loop-rest.events c.in_ok-events.events (repeats_events c.loop-rest.repeats.items)
      (repeats_events c.take_line.new.repeats.items) c.first_line.result.0.now (lines_of c.first_line.result.1.now) c.args.text.now
      c.in_ok-events.ensures.form c.in_ok-events.ensures.sum c.in_ok-events.ensures.most c.loop-rest.invariant.sum
      c.in_ok-events.ensures.events
      (rw c.first_line.ensures.lines at c.loop-rest.invariant.reads);
  sum = rw (c.in_ok-events.ensures.events, c.in_ok-events.ensures.sum)
      (omega (
        arith,
        c.loop-rest.invariant.sum,
        length-append (repeats_events c.loop-rest.repeats.items) (events_at c.first_line.result.0.now),
      ));
  most = c.in_ok-events.ensures.most;
  each = c.in_ok-events.ensures.repeats;
  lines = omega (arith, c.loop-rest.invariant.lines, c.first_line.ensures.shorter);
}
