-- What is printed of the events of a run, and of a whole run.
use Rattle.std.specs.Prelude.{◌≡◌, Bool, List, [], Option, None}
use Rattle.host_port.specs.Outside.{Outside}
use Rattle.host_port.specs.Printing.{Printing, Prints}
use Rattle.transcript_laws.specs.Transcripts.{transcript}
use Rattle.xinu_base.specs.declared.events.Event.{Event}
use Rattle.xinu_base.specs.declared.events.End.{End}
use Rattle.xinu_base.specs.declared.lines.TranscriptLine.{TranscriptLine}
use Rattle.xinu_model.specs.Machine.{Xinu}
use Rattle.xinu_model.specs.Runs.{RunsTo}
use Rattle.xinu_model.specs.Text.{shown}
use Rattle.xinu_commands.specs.Stages.{SendsOutput}
use Rattle.xinu_commands.specs.Work.{output_of}
use Rattle.run_inputs.specs.declared.refusals.Refusal.{Refusal}

-- The lines of a run through the events were printed, as far as the host took them; if it took them all, the machine is in the run's
-- last state, and this is how the run ended.
pub record RunPrints (old : Xinu) (events : List Event) (new : Xinu) (end : End) (before after : Printing) (was is : Outside) : Type 0 where
  pub lines : List TranscriptLine
  pub last : Xinu
  pub ends : End
  pub runs : RunsTo old events lines last ends
  pub prints : Prints before after was is (shown before.plain lines)
  pub whole : after.failure ≡ None → (last ≡ new) × (ends ≡ end)

-- What is shown of the transcript of a run from a start through these events was sent, or a part of it up to a refusal of the host; if it was
-- sent whole, the machine is in the run's last state.
pub record SendsTranscript (plain : Bool) (start : Xinu) (events : List Event) (new : Xinu) (ended : Option Refusal) (was is : Outside) : Type 0 where
  pub lines : List TranscriptLine
  pub last : Xinu
  pub end : End
  pub runs : RunsTo start events lines last end
  pub sends : SendsOutput (output_of (shown plain (transcript start lines last end)) None None) [] ended was is
  pub whole : ended ≡ None → last ≡ new
