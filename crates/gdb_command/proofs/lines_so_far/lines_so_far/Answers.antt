-- The lines of one event more.
use Rattle.std.proofs.Common.{sym}
use Rattle.gdb_command.proofs.Transcripts.{transcript-more, within-more}
use Rattle.replayed_run.proofs.SameRuns.{again}
use Rattle.gdb_command.proofs.lines_so_far.lines_so_far.Goals as goal

pub loop-replay-preserved : goal.loop-replay-preserved
loop-replay-preserved c =
    let old = c.loop-replay.replay in
    let new = c.take_one.new.replay in
    let before = c.loop-replay.lines.items in
    let after = c.take_one.new.lines.items in
    let takes = c.in_ok-take_one.ensures.takes in
    record {
      within = within-more c.taken-count.result c.taken.result old new before after takes c.taken.ensures.taken c.loop-replay-test.true;
      lines = transcript-more old new before after c.loop-replay.invariant.lines (sym c.if-is_at_end.ensures.end) takes;
      same = again c.seek.new.self old new c.loop-replay.invariant.same c.in_ok-take_one.ensures.same;
    }
