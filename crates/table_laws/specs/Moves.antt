-- When a process may move to another state and place, and become ready.
use Rattle.std.specs.Prelude.{◌≡◌, ◌≢◌, ℕ, ◌<◌, Option}
use Rattle.xinu_base.specs.Constants.{NPROC, NSEM}
use Rattle.xinu_base.specs.declared.processes.Process.{Process}
use Rattle.xinu_base.specs.declared.processes.Rest.TheVariants.{Nothing}
use Rattle.xinu_base.specs.declared.processes.State.{State}
use Rattle.xinu_base.specs.declared.processes.State.TheVariants.{Free, Current}
use Rattle.xinu_model.specs.Sound.Tables.{ready_places, waiting_places, sleeping_places, CanRun, HoldsFor, FitsMessage, FitsOwner, IsFixed}
use Rattle.xinu_model.specs.Tables.{Tables, process_at, state_at, message_at, semaphore_at, Place, InReady, InSemaphore, InSleepers}

-- how often a process at a place is in the ready list
abbrev pub place_ready : Place → ℕ
place_ready InReady = 1
place_ready _ = 0

-- how often it is among waiters
abbrev pub place_waiting : Place → ℕ
place_waiting (InSemaphore sem) = 1
place_waiting _ = 0

-- how often it is among the sleepers
abbrev pub place_sleeping : Place → ℕ
place_sleeping (InSleepers wake) = 1
place_sleeping _ = 0

-- a process of this state is at such a place
abbrev pub IsPlaceOf : State → Place → Type 0
IsPlaceOf state place =
    (ready_places state ≡ place_ready place) × (waiting_places state ≡ place_waiting place) × (sleeping_places state ≡ place_sleeping place)

-- the place fits the process that goes there: a semaphore without tokens whose owner calls for what is left of its call, or a later tick
abbrev pub FitsPlace : Tables → Process → Place → Type 0
FitsPlace t x (InSemaphore sem) = (sem < NSEM) × ((semaphore_at t sem).tokens ≡ 0) × FitsOwner sem (semaphore_at t sem).owner x.rest
FitsPlace t x (InSleepers wake) = t.ticks < wake
FitsPlace t x _ = Unit {0}

-- What lets process q become x with message m and go to a place.
pub record CanMove (t : Tables) (q : ℕ) (x : Process) (m : Option ℕ) (place : Place) : Type 0 where
  pub within : q < NPROC
  pub place_of : IsPlaceOf x.state place
  pub if_current : x.state ≡ Current → q ≡ t.current
  pub if_null : q ≡ 0 → CanRun x.state × (x.rest ≡ Nothing)
  pub fits : FitsPlace t x place
  pub slot : FitsMessage x.state x.rest m
  pub if_free : IsFixed x m

-- What lets process q become ready: it is alive, doesn't run, and doesn't wait for a message without end.
pub record CanBeReady (t : Tables) (q : ℕ) : Type 0 where
  pub alive : state_at t q ≢ Free
  pub idle : state_at t q ≢ Current
  pub holds : HoldsFor (process_at t q).rest (message_at t q)
