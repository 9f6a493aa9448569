-- How a run ended, and the call in which the kernel panicked.
use Rattle.std.specs.Prelude.{◌≡◌, ℕ, suc, ◌-◌, false, List, [], length, take, Option, Some, None}
use Rattle.explain_command.specs.declared.sights.Sight.{Sight}
use Rattle.replayed_run.specs.Replayed.{Replayed}
use Rattle.run_inputs.specs.Starts.{StartsIn}
use Rattle.xinu_base.specs.declared.events.End.{End}
use Rattle.xinu_base.specs.declared.events.End.TheVariants.{Schedule, Done, Panic}
use Rattle.xinu_base.specs.declared.lines.TranscriptLine.{TranscriptLine}
use Rattle.xinu_base.specs.declared.lines.TranscriptLine.TheVariants as line
use Rattle.xinu_model.specs.Machine.{Xinu}
use Rattle.xinu_model.specs.Runs.{RunsTo}
use Rattle.xinu_model.specs.Text.{line_text}

-- No event before the one that was taken last ended the run.
pub record EndsNotBefore (start : Xinu) (r : Replayed) : Type 0 where
  pub before : ℕ
  pub one_more : r.taken ≡ suc before
  pub lines : List TranscriptLine
  pub state : Xinu
  pub runs : RunsTo start (take before r.events) lines state Schedule

-- As many events were taken as the run has: all of them, if the schedule ended; else no event before the last one that was taken ended the run.
abbrev pub CountsAll : End → Replayed → Xinu → Type 0
CountsAll Schedule r start = r.taken ≡ length r.events
CountsAll Done r start = EndsNotBefore start r
CountsAll Panic r start = EndsNotBefore start r

-- From the state in which the images boot the whole schedule leads to the state with this end, and so do the events that were taken.
pub record HasEnded (r : Replayed) (end : End) : Type 0 where
  pub start : Xinu
  pub starts : StartsIn r.disks r.files start
  pub lines : List TranscriptLine
  pub whole : RunsTo start r.events lines r.state end
  pub taken : RunsTo start (take r.taken r.events) lines r.state end
  pub all : CountsAll end r start

-- After an event the run goes on, or has ended so.
abbrev pub EndsAs : Replayed → Option End → Type 0
EndsAs r None = r.over ≡ false
EndsAs r (Some end) = HasEnded r end

-- a line without the line feed at its end
abbrev pub without_feed : List ℕ → List ℕ
without_feed line = take (length line - 1) line

-- the call that a process makes or goes on in, as a transcript has it, by what was seen ahead of the event
abbrev pub call_text : Option Sight → List ℕ
call_text None = []
call_text (Some seen) = without_feed (line_text (line.Call seen.process seen.call))
