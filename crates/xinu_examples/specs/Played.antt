-- Systems of processes, each with a list of calls, to work out what the definitions say of an example.
use Rattle.std.specs.Prelude.{ℕ, zero, suc, ◌+◌, ◌==◌, Bool, true, false, if◌then◌else◌, List, [], ◌∷◌, ◌++◌, map, replicate, slice_index_or, slice_set, Option, Some, None, unwrap_or, pos}
use Rattle.xinu_base.specs.Constants.{NPROC}
use Rattle.xinu_base.specs.declared.syscalls.Call.{Call}
use Rattle.xinu_base.specs.declared.events.End.{End}
use Rattle.xinu_base.specs.declared.events.End.TheVariants.{Schedule}
use Rattle.xinu_base.specs.declared.events.Event.{Event}
use Rattle.xinu_base.specs.declared.events.Event.TheVariants.{Tick, Key, Tx, Disk0, Disk1, Fail0}
use Rattle.xinu_base.specs.declared.lines.TranscriptLine.{TranscriptLine}
use Rattle.xinu_base.specs.declared.lines.TranscriptLine.TheVariants as line
use Rattle.xinu_model.specs.Boot.{null_tables, image_name}
use Rattle.xinu_model.specs.Calls.{called, continued}
use Rattle.xinu_model.specs.Events.{is_done, made_first, effect_of}
use Rattle.xinu_model.specs.Files.Syscalls.{files_of, file_line, at_once}
use Rattle.xinu_model.specs.Files.Work.{FileRequest, issued}
use Rattle.xinu_model.specs.Machine.{Xinu, first_parts, no_hart, EventResult, end_of_event}
use Rattle.xinu_model.specs.Process.Scheduling.{resched, ready}
use Rattle.xinu_model.specs.Process.Creation.{new_process}
use Rattle.xinu_model.specs.Runs.{is_over, end_with}
use Rattle.xinu_model.specs.Tables.{Tables, process_at, Nowhere, move_to}
use Rattle.xinu_model.specs.Text.{tables_of}

-- the tables with processes of these priorities beside the null process; the first of them has number p
abbrev pub with_processes : ℕ → List ℕ → Tables → Tables
with_processes p [] t = t
with_processes p (priority ∷ priorities) t =
    with_processes (p + 1) priorities (record (move_to p (new_process (image_name p) (pos priority) 0 0 0) None Nowhere t) { last_process = p })

-- the same processes made ready in order
abbrev pub all_made_ready : ℕ → List ℕ → Tables → Tables
all_made_ready p [] t = t
all_made_ready p (priority ∷ priorities) t = all_made_ready (p + 1) priorities (ready p t)

-- A system of processes of these priorities, without stacks, over a heap of n free cells.
abbrev pub system : List ℕ → ℕ → ℕ → Xinu
system priorities low cells = record {
  tables = resched (all_made_ready 1 priorities (with_processes 1 priorities null_tables));
  harts = replicate NPROC no_hart;
  memory = [];
  parts = first_parts (record { low = low; cells = replicate cells true });
}

-- A state, the calls that each process is still to make, by its number from 0 on, what was printed, and whether the kernel panicked.
pub record Played : Type 0 where
  pub state : Xinu
  pub programs : List (List Call)
  pub lines : List TranscriptLine
  pub panicked : Bool

-- what an effect leaves
abbrev pub after : EventResult → List (List Call) → Played → Played
after effect programs x = record {
  state = effect.state;
  programs = programs;
  lines = x.lines ++ effect.lines;
  panicked = effect.panics;
}

-- the next of these calls by the current process; if there is none it runs on without a call
abbrev pub called_next : List Call → Played → Played
called_next [] x = x
called_next (call ∷ rest) x =
    let s = x.state in
    let p = s.tables.current in
    after (end_of_event p (line.Call p call ∷ []) (called call.number call.args s)) (slice_set x.programs p rest) x

-- the same, but a call on files takes effect as it is made, if none is before it
abbrev pub made_at_once : Option FileRequest → Call → List Call → Played → Played
made_at_once None call rest x = called_next (call ∷ rest) x
made_at_once (Some a) call rest x =
    let s = x.state in
    let p = s.tables.current in
    let notes = (issued 1 a s.memory (files_of s)).notes in
    after (end_of_event p (line.Call p call ∷ map file_line notes) (at_once a s)) (slice_set x.programs p rest) x

abbrev pub called_at_once : List Call → Played → Played
called_at_once [] x = x
called_at_once (call ∷ rest) x =
    let s = x.state in
    let waits = called call.number call.args s in
    made_at_once (made_first s.tables.current (files_of s).calls (files_of waits.call.state).calls) call rest x

-- a step: the current process goes on with the call in which it waited, or makes its next one, in one of both ways
abbrev pub played_with : (List Call → Played → Played) → Played → Played
played_with call_next x =
    let s = x.state in
    let p = s.tables.current in
    let rest = (process_at s.tables p).rest in
    if x.panicked then x
    else (if p == 0 then x
    else (if is_done rest then call_next (slice_index_or x.programs p []) x
    else after (end_of_event p [] (continued rest s)) x.programs x))

abbrev pub played_step : Played → Played
played_step x = played_with called_next x

abbrev pub played_at_once : Played → Played
played_at_once x = played_with called_at_once x

-- an event that isn't a step, whether the machine has it or not, in which so many calls on files more take effect than have to
abbrev pub played_choice : ℕ → Event → Played → Played
played_choice choice e x = after (effect_of x.state e choice) x.programs x

abbrev pub played_event : Event → Played → Played
played_event e x = played_choice 0 e x

-- characters are received, one after another
abbrev pub played_keys : List ℕ → Played → Played
played_keys [] x = x
played_keys (b ∷ bytes) x = played_keys bytes (played_event (Key b) x)

-- n times
abbrev pub times_over : ℕ → (Played → Played) → Played → Played
times_over zero f x = x
times_over (suc n) f x = times_over n f (f x)

-- What happens to a system: steps, ticks, received characters, transmissions, and a completion of the raw disk, good or failed; steps in which calls
-- on files take effect as they are made; and a good completion of the files' disk, at which so many calls more take effect than have to.
pub data Turn : Type 0 where
  Steps : (n : ℕ) → Turn
  Ticks : (n : ℕ) → Turn
  Types : (bytes : List ℕ) → Turn
  Sends : (n : ℕ) → Turn
  Completes : (good : Bool) → Turn
  StepsAtOnce : (n : ℕ) → Turn
  Finishes : (more : ℕ) → Turn

abbrev pub played : List Turn → Played → Played
played [] x = x
played (Steps n ∷ turns) x = played turns (times_over n played_step x)
played (Ticks n ∷ turns) x = played turns (times_over n (played_event Tick) x)
played (Types bytes ∷ turns) x = played turns (played_keys bytes x)
played (Sends n ∷ turns) x = played turns (times_over n (played_event Tx) x)
played (Completes good ∷ turns) x = played turns (played_event (if good then Disk0 else Fail0) x)
played (StepsAtOnce n ∷ turns) x = played turns (times_over n played_at_once x)
played (Finishes more ∷ turns) x = played turns (played_choice more Disk1 x)

-- An example: a system, the calls of its processes, and what happens to it.
pub record Example : Type 0 where
  pub start : Xinu
  pub programs : List (List Call)
  pub turns : List Turn

-- what becomes of an example
unfoldable pub outcome_of : Example → Played
outcome_of example =
    played example.turns (record { state = example.start; programs = [] ∷ example.programs; lines = line.Switch example.start.tables.current ∷ []; panicked = false })

-- what it prints
abbrev pub printed : Example → List TranscriptLine
printed example = (outcome_of example).lines

-- the tables of its last state
abbrev pub last_tables : Example → List TranscriptLine
last_tables example = tables_of (outcome_of example).state

-- how it ended: in a panic, since no process but the null process was left, or with its last turn
abbrev pub played_end : Played → End
played_end x = unwrap_or (end_with x.panicked (is_over x.state)) Schedule

-- the whole of what it prints: its lines, the tables of its last state, and its end
abbrev pub played_transcript : Example → List TranscriptLine
played_transcript example = printed example ++ last_tables example ++ line.End (played_end (outcome_of example)) ∷ []
