-- A moment of a run: which event comes next, and which process acts in it.
use Rattle.std.specs.Prelude.{◌≡◌, ◌+◌, ◌==◌, ◌||◌, ℕ, Bool, not, false, if◌then◌else◌, List, Option, Some, None, is_some, slice_get}
use Rattle.gdb_answers.specs.Registers.{hart_of}
use Rattle.gdb_answers.specs.Threads.{process_of}
use Rattle.replayed_run.specs.Progress.{TakesSteps}
use Rattle.replayed_run.specs.Replayed.{Replayed, is_at_end}
use Rattle.watched_run.specs.Traps.{trap_in}
use Rattle.watched_run.specs.Watching.{has}
use Rattle.xinu_base.specs.declared.events.Event.{Event}
use Rattle.xinu_base.specs.declared.events.Event.TheVariants.{Step}
use Rattle.xinu_base.specs.declared.lines.TranscriptLine.{TranscriptLine}
use Rattle.xinu_base.specs.declared.registers.Cause.{Cause}
use Rattle.xinu_model.specs.Events.{Happens, is_done, panics_in}
use Rattle.xinu_model.specs.Machine.{Xinu}
use Rattle.xinu_model.specs.Runs.{end_with, is_over}
use Rattle.xinu_model.specs.Tables.{process_at}

-- the event that comes next, if any does
abbrev pub next_event : Replayed → Option Event
next_event r = if is_at_end r then None else slice_get r.events r.taken

-- the process whose instruction a step carries out, if it does: it isn't the null process, and nothing is left of its call
abbrev pub stepping : Xinu → Option ℕ
stepping s =
    if (s.tables.current == 0) || not (is_done (process_at s.tables s.tables.current).rest) then None else Some s.tables.current

-- the process whose instruction an event carries out, if it does
abbrev pub actor_in : Option Event → Xinu → Option ℕ
actor_in (Some Step) s = stepping s
actor_in _ s = None

-- the process whose instruction comes next, if one does
abbrev pub actor : Replayed → Option ℕ
actor r = actor_in (next_event r) r.state

-- the address of the next instruction of process p
abbrev pub pc_of : Xinu → ℕ → ℕ
pc_of s p = (hart_of s p).pc

-- whether the next instruction of process p is at one of these addresses
abbrev pub is_at_point : List ℕ → Xinu → ℕ → Bool
is_at_point addresses s p = has addresses (pc_of s p)

-- whether process p is left
abbrev pub is_left : Xinu → ℕ → Bool
is_left s p = is_some (process_of s.tables (p + 1))

-- The run took the event that came next, and it printed these lines.
pub record Takes (old new : Replayed) (lines : List TranscriptLine) : Type 0 where
  pub goes_on : old.over ≡ false
  pub event : Event
  pub next : slice_get old.events old.taken ≡ Some event
  pub happens : Happens old.state event lines new.state
  pub changes : new ≡ record old {
    taken = old.taken + 1;
    state = new.state;
    over = is_some (end_with (panics_in old.state event) (is_over new.state));
    told = new.told;
    known = new.known;
  }

-- The run stands where it stood. More may be known of what its events print.
pub record Stands (old new : Replayed) : Type 0 where
  pub stays : new ≡ record old { told = new.told; known = new.known }

-- The run took the event that came next, and this is the cause of its trap, if it is one.
pub record HasTaken (old new : Replayed) (trap : Option Cause) : Type 0 where
  pub lines : List TranscriptLine
  pub takes : Takes old new lines
  pub says : trap ≡ trap_in lines

-- The run took some steps that print nothing.
pub record TakesSome (old new : Replayed) : Type 0 where
  pub count : ℕ
  pub takes : TakesSteps count old new

-- whether a trap of the event after n others was told, if that is what was told last
abbrev pub was_told : Option ℕ → ℕ → Bool
was_told None n = false
was_told (Some told) n = told == n
