-- What is done for a command that isn't answered from the state of the run.
use Rattle.std.specs.Prelude.{◌≡◌, ◌⊎◌, ℕ, Bool, true, false, List, ◌++◌, codes, None, IfSome}
use Rattle.gdb_answers.specs.Answers.{answer}
use Rattle.gdb_answers.specs.Stops.{stop_text}
use Rattle.gdb_answers.specs.Threads.{thread_text}
use Rattle.gdb_command.specs.Answered.{IsAnswered}
use Rattle.gdb_command.specs.Console.{ShowsDigits}
use Rattle.gdb_command.specs.Held.{Held, named, standing}
use Rattle.gdb_command.specs.Monitor.{asked_by}
use Rattle.gdb_command.specs.Monitored.{IsMonitored}
use Rattle.gdb_packets.specs.Commands.{monitor_words}
use Rattle.gdb_packets.specs.declared.commands.Command.{Command}
use Rattle.gdb_packets.specs.declared.commands.Command.TheVariants as command
use Rattle.gdb_packets.specs.declared.commands.PointKind.{PointKind}
use Rattle.gdb_packets.specs.declared.commands.PointKind.TheVariants.{Break, Write}
use Rattle.gdb_packets.specs.declared.commands.Threads.TheVariants.{One}
use Rattle.watched_run.specs.Goals.{one_of}
use Rattle.watched_run.specs.Going.{GoesBackTo, GoesOnTo}
use Rattle.watched_run.specs.declared.goals.Goal.{Goal}
use Rattle.watched_run.specs.declared.goals.Goal.TheVariants as goal
use Rattle.watched_run.specs.declared.stopped.Stopped.{Stopped}
use Rattle.watched_run.specs.declared.watched.WatchedRun.{WatchedRun}
use Rattle.xinu_model.specs.Machine.{Xinu}

-- The run is watched for something else, and stays where it is. Then this is answered.
pub record IsPointed (old new : Held) (text before sent : List ℕ) : Type 0 where
  pub run : WatchedRun
  pub stays : run.replay ≡ old.run.replay
  pub answers : IsAnswered (record old { run = run }) new text before sent

-- The run is to stop at a point. Bytes that are to be watched may be too many.
abbrev pub IsSet : PointKind → Held → Held → List ℕ → List ℕ → Type 0
IsSet Break old new before sent = IsPointed old new (codes "OK") before sent
IsSet Write old new before sent = IsPointed old new (codes "OK") before sent ⊎ IsPointed old new (codes "E01") before sent

-- The run goes on to where it stops, if it is to go so far. What its console sent is shown, and then it is told why the run stands, of the
-- process that is looked at from now on.
pub record IsMovedOn (goal : Goal) (old new : Held) (before sent : List ℕ) : Type 0 where
  pub run : WatchedRun
  pub stopped : Stopped
  pub goes : GoesOnTo goal old.run run stopped
  pub digits : List ℕ
  pub shown : List ℕ
  pub shows : ShowsDigits digits before shown
  pub answers : IsAnswered (standing stopped.stop stopped.process (record old { run = run })) new (stop_text stopped.stop stopped.process) shown sent

-- The run goes back to where it stops, if it is to go so far. It is told why it stands, of the process that is looked at from now on.
pub record IsMovedBack (goal : Goal) (old new : Held) (before sent : List ℕ) : Type 0 where
  pub run : WatchedRun
  pub stopped : Stopped
  pub goes : GoesBackTo goal old.run run stopped
  pub answers : IsAnswered (standing stopped.stop stopped.process (record old { run = run })) new (stop_text stopped.stop stopped.process) before sent

-- Nothing is answered, and nothing else happens.
pub record IsDropped (old new : Held) (before sent : List ℕ) : Type 0 where
  pub holds : new ≡ old
  pub sends : sent ≡ before

-- What is done for a command, by what its packet says: that of another command is said by the answer from the state.
abbrev pub Does : Command → List ℕ → Held → Held → List ℕ → List ℕ → Type 0
Does command.Why payload old new before sent = IsAnswered old new (stop_text old.stop old.process) before sent
Does command.CurrentThread payload old new before sent = IsAnswered old new (codes "QC" ++ thread_text old.process) before sent
Does (command.Look threads) payload old new before sent =
    IsAnswered (record old { look = named old.run.replay.state.tables threads old.look }) new (codes "OK") before sent
Does (command.Go threads) payload old new before sent =
    IsAnswered (record old { go = named old.run.replay.state.tables threads old.go }) new (codes "OK") before sent
Does (command.Set point) payload old new before sent = IsSet point.kind old new before sent
Does (command.Clear point) payload old new before sent = IsPointed old new (codes "OK") before sent
Does (command.Step threads) payload old new before sent =
    IsMovedOn (one_of (named old.run.replay.state.tables threads old.go)) old new before sent
Does command.Continue payload old new before sent = IsMovedOn goal.Point old new before sent
Does (command.ContinueOne thread) payload old new before sent =
    IsMovedOn (goal.Alone (named old.run.replay.state.tables (One thread) old.go)) old new before sent
Does command.StepBack payload old new before sent = IsMovedBack (one_of old.go) old new before sent
Does command.ContinueBack payload old new before sent = IsMovedBack goal.Point old new before sent
Does command.Monitor payload old new before sent = IsMonitored (asked_by (monitor_words payload)) old new before sent
Does command.Detach payload old new before sent = IsAnswered old new (codes "OK") before sent
Does command.Kill payload old new before sent = IsDropped old new before sent
Does _ payload old new before sent = Unit {0}

-- What is done for a command: it is answered from the state of the run, if there is an answer; else what it asks for is done.
pub record IsDone (command : Command) (payload : List ℕ) (s : Xinu) (old new : Held) (before sent : List ℕ) : Type 0 where
  pub answers : IfSome (answer s old.look command) (λ text. IsAnswered old new text before sent)
  pub does : answer s old.look command ≡ None → Does command payload old new before sent

-- whether packets are no longer acknowledged after a command
abbrev pub stops_acks : Command → Bool
stops_acks command.NoAcks = true
stops_acks _ = false

-- whether the session ends with a command
abbrev pub ends_session : Command → Bool
ends_session command.Kill = true
ends_session command.Detach = true
ends_session _ = false
