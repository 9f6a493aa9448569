-- What is done for `monitor`.
use Rattle.std.specs.Prelude.{◌≡◌, ◌≤◌, ◌==◌, ◌||◌, ℕ, true, false, List, take, codes}
use Rattle.gdb_answers.specs.Threads.{shown_process}
use Rattle.gdb_answers.specs.declared.stops.Stop.TheVariants.{Here}
use Rattle.gdb_command.specs.Answered.{IsAnswered}
use Rattle.gdb_command.specs.Console.{Shows}
use Rattle.gdb_command.specs.Held.{Held}
use Rattle.gdb_command.specs.Monitor.{event_text, help, tables_text}
use Rattle.gdb_command.specs.declared.asked.Asked.{Asked}
use Rattle.gdb_command.specs.declared.asked.Asked.TheVariants as asked
use Rattle.replayed_run.specs.Replayed.{Replayed, is_at_end}
use Rattle.run_inputs.specs.Starts.{StartsIn}
use Rattle.xinu_base.specs.declared.events.End.{End}
use Rattle.xinu_base.specs.declared.events.End.TheVariants.{Schedule}
use Rattle.xinu_base.specs.declared.lines.TranscriptLine.{TranscriptLine}
use Rattle.xinu_model.specs.Machine.{Xinu}
use Rattle.xinu_model.specs.Runs.{RunsTo}
use Rattle.xinu_model.specs.Text.{text}

-- The debugger's console is shown a text, and nothing else happens.
pub record IsSaid (old new : Held) (text before after : List ℕ) : Type 0 where
  pub shows : Shows text before after
  pub stays : new ≡ old

-- The run stands where so many events were taken, or at its end if it has fewer.
pub record StandsAt (count : ℕ) (r : Replayed) : Type 0 where
  pub reached : (r.taken == count || is_at_end r) ≡ true
  pub within : r.taken ≤ count

-- The run goes to where so many events were taken, and it is shown where that is. The processes that are looked at and go on stay.
pub record IsGone (count : ℕ) (old new : Held) (before after : List ℕ) : Type 0 where
  pub stands : StandsAt count new.run.replay
  pub shows : Shows (event_text new.run.replay) before after
  pub holds : new ≡ record old { run = new.run; stop = Here; process = shown_process new.run.replay.state.tables }

-- A text is the lines of a run of the events that were taken, and this run leads to the state.
pub record IsTranscript (r : Replayed) (bytes : List ℕ) : Type 0 where
  pub start : Xinu
  pub starts : StartsIn r.disks r.files start
  pub lines : List TranscriptLine
  pub end : End
  pub runs : RunsTo start (take r.taken r.events) lines r.state end
  pub goes_on : r.over ≡ false → end ≡ Schedule
  pub printed : bytes ≡ text lines

-- The lines of the events that were taken are shown: the run goes back, takes them once more, and stands there again.
pub record IsTranscribed (old new : Held) (before after : List ℕ) : Type 0 where
  pub bytes : List ℕ
  pub transcript : IsTranscript new.run.replay bytes
  pub shows : Shows bytes before after
  pub stands : StandsAt old.run.replay.taken new.run.replay
  pub holds : new ≡ record old { run = new.run }

-- What `monitor` asks for is shown.
abbrev pub IsShown : Asked → Held → Held → List ℕ → List ℕ → Type 0
IsShown asked.Event old new before after = IsSaid old new (event_text old.run.replay) before after
IsShown asked.Tables old new before after = IsSaid old new (tables_text old.run.replay.state) before after
IsShown asked.Transcript old new before after = IsTranscribed old new before after
IsShown (asked.Goto count) old new before after = IsGone count old new before after
IsShown asked.Help old new before after = IsSaid old new help before after

-- What `monitor` asks for is shown, and then the packet is answered.
pub record IsMonitored (what : Asked) (old new : Held) (before sent : List ℕ) : Type 0 where
  pub mid : Held
  pub shown : List ℕ
  pub shows : IsShown what old mid before shown
  pub answers : IsAnswered mid new (codes "OK") shown sent
