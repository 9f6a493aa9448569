-- What the text reads as is what the lines that are left read as, after the events so far.
use Rattle.std.proofs.Common.{◌≡◌, ◌+◌, ◌≤◌, length}
use Rattle.std.specs.List.{All}
use Rattle.text_lines.specs.Lines.{lines_of}
use Rattle.schedule_file.specs.ScheduleFiles.{reading}
use Rattle.schedule_file.specs.Repeats.{IsRepeat, repeats_events}
use Rattle.schedule_file.proofs.ReadingLemmas.{read_on}
use Rattle.schedule_file.proofs.schedules.repeats_in.Given as goal

abbrev pub invariant-loop-rest : goal.invariant-loop-rest
invariant-loop-rest l = record {
  reads : read_on (l.line + 1) (repeats_events l.repeats.items) (lines_of l.rest) ≡ reading l.text;
  sum : l.events ≡ length (repeats_events l.repeats.items);
  most : l.events ≤ 1000000000;
  each : All IsRepeat l.repeats.items;
  lines : l.line + length l.rest ≤ length l.text;
}

abbrev pub decreases-loop-rest : goal.decreases-loop-rest
decreases-loop-rest l = length l.rest
