-- When no process can go on any more.
use Rattle.std.specs.Prelude.{◌≡◌, ◌≢◌, ℕ, ◌<◌, ◌==◌, ◌&&◌, ◌||◌, Bool, true, false, not, List, [], drop, nat_le}
use Rattle.std.specs.List.{list_all, list_any}
use Rattle.xinu_base.specs.declared.lines.TranscriptLine.{TranscriptLine}
use Rattle.xinu_base.specs.declared.lines.TranscriptLine.TheVariants as line
use Rattle.xinu_base.specs.declared.processes.State.{State}
use Rattle.xinu_base.specs.declared.processes.State.TheVariants.{Free, Receiving, Suspended, Waiting}
use Rattle.xinu_model.specs.Machine.{Xinu}
use Rattle.xinu_model.specs.Tables.{Tables, is_free, semaphore_at, state_at}

-- whether a process in this state goes on only if it is resumed, sent a message or signalled; a number without a process is in one, too
abbrev pub is_held : State → Bool
is_held Free = true
is_held Suspended = true
is_held Receiving = true
is_held Waiting = true
is_held _ = false

-- Somebody lives besides the null process, all of them are suspended, receive without a limit or wait on a semaphore, and nobody waits on one
-- of the devices', which are 0 to 3.
pub record IsStuck (t : Tables) : Type 0 where
  pub somebody : list_all (λ p. is_free p.state) (drop 1 t.processes) ≡ false
  pub held : (p : ℕ) → p ≢ 0 → is_held (state_at t p) ≡ true
  pub devices : (sem : ℕ) → sem < 4 → (semaphore_at t sem).waiters ≡ []

-- From old to new nothing of any process changes, and the null process runs.
pub record IsUnmoved (old new : Xinu) : Type 0 where
  pub current : new.tables.current ≡ 0
  pub processes : new.tables.processes ≡ old.tables.processes
  pub messages : new.tables.messages ≡ old.tables.messages
  pub harts : new.harts ≡ old.harts

-- whether a line of the tables says that its process goes on only if another one lets it, or that its waiter doesn't wait for a device; the null
-- process has no part in it
abbrev pub is_held_line : TranscriptLine → Bool
is_held_line (line.Process p state priority parent message name) = (p == 0) || is_held state
is_held_line (line.Waiter sem p) = nat_le 4 sem
is_held_line _ = true

-- whether a line is that of a process besides the null process
abbrev pub is_life : TranscriptLine → Bool
is_life (line.Process p state priority parent message name) = not (p == 0)
is_life _ = false

-- whether tables say that nobody can go on
abbrev pub told_stuck : List TranscriptLine → Bool
told_stuck lines = list_any is_life lines && list_all is_held_line lines
