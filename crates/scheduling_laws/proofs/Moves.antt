-- What a call does to the tables, move by move, and when a predicate on tables is closed under these moves.
use Rattle.std.proofs.Common.{◌≡◌, ◌≢◌, ◌⊎◌, ℕ, Bool, true, false, ◌||◌, List, [], ◌∷◌, take, Option, Some, None, ℤ}
use Rattle.std.specs.Prelude.{slice_index, slice_set}
use Rattle.xinu_base.specs.declared.syscalls.Call.{Call}
use Rattle.scheduling_laws.specs.Tokens.{changes_semaphore}
use Rattle.xinu_base.specs.declared.processes.Process.{Process}
use Rattle.xinu_base.specs.declared.processes.Rest.{Rest}
use Rattle.xinu_base.specs.declared.processes.Rest.TheVariants as rest
use Rattle.xinu_base.specs.declared.processes.State.{State}
use Rattle.xinu_base.specs.declared.processes.State.TheVariants.{Free, Ready, Suspended}
use Rattle.xinu_model.specs.Machine.{Xinu, CallState, CallResult, is_off, unblock_with, unblock_all_with}
use Rattle.xinu_model.specs.Messages.{listens}
use Rattle.xinu_model.specs.Process.Calls.{is_ready, with_priority}
use Rattle.xinu_model.specs.Process.Scheduling.{is_current, in_state, ready}
use Rattle.xinu_model.specs.Semaphores.Counts.{with_semaphore}
use Rattle.xinu_model.specs.Sound.Tables.{IsSoundTables}
use Rattle.xinu_model.specs.Tables.{no_process, Semaphore, Tables, process_at, state_at, message_at, semaphore_at, Place, Nowhere, InReady, InSemaphore, InSleepers, move_to}
use Rattle.xinu_laws.proofs.RawDisks.Moves.{replied}

-- A predicate on tables and on whether a resched is owed, as it holds of a caller that goes on,
abbrev pub Goes : (Tables → Bool → Type 0) → Xinu → Type 0
Goes Holds s = Holds s.tables false

-- inside an event,
abbrev pub Inside : (Tables → Bool → Type 0) → CallState → Type 0
Inside Holds d = Holds d.state.tables d.owes_resched

-- and before an event is closed: if the caller runs no longer a resched is owed, too.
abbrev pub Settled : (Tables → Bool → Type 0) → CallResult → Type 0
Settled Holds h = Holds h.call.state.tables (is_off h.answer || h.call.owes_resched)

-- Any process may be given a priority.
abbrev pub Anyone : ℕ → Type 0
Anyone q = Unit {0}

-- A semaphore that may be changed, or that no one owns, so that it may be made.
abbrev pub MayChange : (ℕ → Type 0) → Tables → ℕ → Type 0
MayChange Touch t sem = Touch sem ⊎ ((semaphore_at t sem).owner ≡ None)

-- A place at which a process may stop: if it waits there, on a semaphore that may be changed.
abbrev pub MayStop : (ℕ → Type 0) → Place → Type 0
MayStop Touch (InSemaphore sem) = Touch sem
MayStop Touch Nowhere = Unit {0}
MayStop Touch InReady = Unit {0}
MayStop Touch (InSleepers wake) = Unit {0}

-- A call may be made if the process to which it gives a priority may get one, and the semaphore that it changes may be changed.
abbrev pub MayMake : (ℕ → Type 0) → (ℕ → Type 0) → ℕ → ℕ → Type 0
MayMake May Touch number first = (number ≡ 7 → May first) × (changes_semaphore number ≡ true → Touch first)

-- The same of the call that an event makes, if it makes one.
abbrev pub MayDo : (ℕ → Type 0) → (ℕ → Type 0) → Option Call → Type 0
MayDo May Touch None = Unit {0}
MayDo May Touch (Some call) = MayMake May Touch call.number (slice_index call.args 0)

-- What begins a call leads to what holds inside an event, and each move keeps that: nothing is done, or a resched is owed; waiters are
-- released, messages come, replies are kept; counts and messages change; the caller goes on, or stops; a process dies, and in the first move
-- of a call one is made, resumed, suspended or given a priority, if it may be. Of the semaphores only those change that may.
pub record IsClosed (May Touch : ℕ → Type 0) (Begins : Tables → Type 0) (Holds : Tables → Bool → Type 0) : Type 0 where
  pub begins : (t : Tables) → Begins t → Holds t false
  pub owes : (t : Tables) → Holds t false → Holds t true
  pub releases : (value : ℤ) (sem n : ℕ) (d : CallState) → Touch sem → Inside Holds d
      → Inside Holds (unblock_all_with value (take n (semaphore_at d.state.tables sem).waiters) d)
  pub hears : (t : Tables) (b : Bool) (q m : ℕ) → listens (state_at t q) ≡ true → Holds t b
      → Holds (move_to q (in_state Ready (process_at t q)) (Some m) InReady t) true
  pub replies : (t : Tables) (b : Bool) (sem q : ℕ) (qs : List ℕ) (reply : ℤ) → Touch sem → IsSoundTables t → (semaphore_at t sem).waiters ≡ q ∷ qs
      → Holds t b → Holds (replied q reply t) true
  pub counts : (t : Tables) (b : Bool) (sem : ℕ) (x : Semaphore) → MayChange Touch t sem → (x.waiters ≡ []) ⊎ (x.waiters ≡ (semaphore_at t sem).waiters) → Holds t b
      → Holds (with_semaphore sem x t) b
  pub numbers : (t : Tables) (b : Bool) (n : ℕ) → Holds t b → Holds (record t { last_semaphore = n }) b
  pub messages : (t : Tables) (b : Bool) (q m : ℕ) → Holds t b → Holds (record t { messages = slice_set t.messages q (Some m) }) b
  pub goes_on : (t : Tables) (m : Option ℕ) → IsSoundTables t → Begins t
      → Holds (move_to t.current (record (process_at t t.current) { rest = rest.Nothing }) m Nowhere t) false
  pub stops : (t : Tables) (state : State) (left : Rest) (place : Place) → MayStop Touch place → Holds t false
      → Holds (move_to t.current (record (process_at t t.current) { state = state; rest = left }) (message_at t t.current) place t) true
  pub dies : (t : Tables) (b : Bool) (q : ℕ) → q ≢ t.current → Holds t b → Holds (move_to q no_process None Nowhere t) b
  pub exits : (t : Tables) (b : Bool) (q : ℕ) → Holds t b → Holds (move_to q no_process None Nowhere t) true
  pub makes : (t : Tables) (q : ℕ) (x : Process) → IsSoundTables t → state_at t q ≡ Free → Begins t
      → Holds (record (move_to q x None Nowhere t) { last_process = q }) false
  pub resumes : (t : Tables) (q : ℕ) → IsSoundTables t → state_at t q ≡ Suspended → Begins t → Holds (ready q t) true
  pub suspends : (t : Tables) (q : ℕ) → IsSoundTables t → state_at t q ≡ Ready → Begins t
      → Holds (move_to q (in_state Suspended (process_at t q)) (message_at t q) Nowhere t) false
  pub places : (t : Tables) (q : ℕ) (priority : ℤ) → May q → IsSoundTables t → Begins t
      → Holds (with_priority q priority t) (is_ready (state_at t q) || is_current (state_at t q))

-- Those who become ready one after another keep what each of them keeps.
pub inside_unblocked : {Holds : Tables → Bool → Type 0} → ((t : Tables) (b : Bool) (q : ℕ) → Holds t b → Holds (ready q t) true)
    → (value : ℤ) (ps : List ℕ) (d : CallState) → Inside Holds d → Inside Holds (unblock_all_with value ps d)
inside_unblocked one value [] d h = h
inside_unblocked one value (p ∷ ps) d h =
    inside_unblocked one value ps (unblock_with value p d) (one d.state.tables d.owes_resched p h)
