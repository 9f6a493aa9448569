-- What holds of the tables at each moment, and between two events.
use Rattle.std.specs.Prelude.{◌≡◌, ◌⊎◌, ℕ, zero, suc, ◌+◌, ◌<◌, ◌≤◌, ◌==◌, Bool, true, false, cond, List, [], ◌∷◌, length, slice_index_or, Option, Some, None, IsSome, ℤ, ◌≤ℤ◌}
use Rattle.std.specs.List.{AllByRecursion}
use Rattle.xinu_base.specs.Constants.{NPROC, NSEM}
use Rattle.xinu_base.specs.declared.processes.Process.{Process}
use Rattle.xinu_base.specs.declared.processes.Rest.{Rest}
use Rattle.xinu_base.specs.declared.processes.Rest.TheVariants as rest
use Rattle.xinu_base.specs.declared.processes.State.{State}
use Rattle.xinu_base.specs.declared.processes.State.TheVariants.{Free, Current, Ready, Receiving, Sleeping, Waiting, Timed}
use Rattle.xinu_base.specs.declared.semaphores.Owner.{Owner}
use Rattle.xinu_base.specs.declared.semaphores.Owner.TheVariants as owner
use Rattle.xinu_model.specs.Tables.{no_process, Semaphore, no_semaphore, Tables, process_at, state_at, message_at, semaphore_at}

-- how many elements of a list pass a test
abbrev pub times : {A : Type 0} → (A → Bool) → List A → ℕ
times test [] = 0
times test (x ∷ xs) = cond (test x) (suc (times test xs)) (times test xs)

-- the sum of a number over the elements of a list
abbrev pub total : {A : Type 0} → (A → ℕ) → List A → ℕ
total f [] = 0
total f (x ∷ xs) = f x + total f xs

-- how often process p is in a list of processes with keys
abbrev pub entries_of : {K : Type 0} → ℕ → List (ℕ × K) → ℕ
entries_of p l = times (λ e. e.0 == p) l

-- how often p is in a list of numbers
abbrev pub count_in : ℕ → List ℕ → ℕ
count_in p l = times (λ x. x == p) l

-- how often p is among the waiters of the semaphores
abbrev pub waits_of : ℕ → List Semaphore → ℕ
waits_of p semaphores = total (λ x. count_in p x.waiters) semaphores

-- how often a process of this state is in the ready list, among waiters, among the sleepers
abbrev pub ready_places : State → ℕ
ready_places Ready = 1
ready_places _ = 0

abbrev pub waiting_places : State → ℕ
waiting_places Waiting = 1
waiting_places _ = 0

abbrev pub sleeping_places : State → ℕ
sleeping_places Sleeping = 1
sleeping_places Timed = 1
sleeping_places _ = 0

-- each element is in the relation to all after it
abbrev pub IsInOrder : {A : Type 0} → (A → A → Type 0) → List A → Type 0
IsInOrder R [] = Unit {0}
IsInOrder R (x ∷ xs) = AllByRecursion (R x) xs × IsInOrder R xs

-- the keys fall, or stay equal
abbrev pub IsFalling : List (ℕ × ℤ) → Type 0
IsFalling l = IsInOrder (λ a b. b.1 ≤ℤ a.1) l

-- each key is the priority of its process
abbrev pub HaveKeys : List Process → List (ℕ × ℤ) → Type 0
HaveKeys processes l = AllByRecursion (λ e. e.1 ≡ (slice_index_or processes e.0 no_process).priority) l

-- the wake ticks rise, or stay equal
abbrev pub IsRising : List (ℕ × ℕ) → Type 0
IsRising l = IsInOrder (λ a b. a.1 ≤ b.1) l

-- a process of this state can run
abbrev pub CanRun : State → Type 0
CanRun state = (state ≡ Current) ⊎ (state ≡ Ready)

-- a semaphore hasn't both tokens and waiters
abbrev pub HasOneKind : Semaphore → Type 0
HasOneKind x = (x.tokens ≡ 0) ⊎ (x.waiters ≡ [])

-- what is left of a call on port q that waits on semaphore sem
abbrev pub IsForPort : ℕ → ℕ → Rest → Type 0
IsForPort q sem (rest.PtSend ticket message) = (ticket.port ≡ q) × (ticket.sem ≡ sem)
IsForPort q sem (rest.PtRecv ticket) = (ticket.port ≡ q) × (ticket.sem ≡ sem)
IsForPort q sem _ = ⊥

-- whether what is left of a call takes items from the console, or puts bytes to it
abbrev pub asks_input : Rest → Bool
asks_input rest.TtyGet = true
asks_input (rest.TtyRead part) = true
asks_input _ = false

abbrev pub asks_output : Rest → Bool
asks_output (rest.TtyPut b returned) = true
asks_output (rest.TtyWrite part returned) = true
asks_output _ = false

-- what is left of the call of one who waits on a semaphore of the kernel's: the console's input, its output, or a disk
abbrev pub FitsDevice : ℕ → Rest → Type 0
FitsDevice zero left = asks_input left ≡ true
FitsDevice (suc zero) left = asks_output left ≡ true
FitsDevice (suc (suc sem)) left = left ≡ rest.Disk None

-- what is left of the call of one who waits on a semaphore with this owner
abbrev pub FitsOwner : ℕ → Option Owner → Rest → Type 0
FitsOwner sem None left = ⊥
FitsOwner sem (Some owner.Image) left = left ≡ rest.Nothing
FitsOwner sem (Some (owner.Pool i)) left = left ≡ rest.GetBuf i
FitsOwner sem (Some (owner.Port q)) left = IsForPort q sem left
FitsOwner sem (Some owner.Device) left = FitsDevice sem left

-- a process that no longer waits for a message holds one if its call is to answer it
abbrev pub HoldsFor : Rest → Option ℕ → Type 0
HoldsFor rest.Receive message = IsSome message
HoldsFor _ message = Unit {0}

-- what a state says of what is left of the call and of the message
abbrev pub FitsMessage : State → Rest → Option ℕ → Type 0
FitsMessage Receiving left message = (left ≡ rest.Receive) × (message ≡ None)
FitsMessage Timed left message = (left ≡ rest.Timed) × (message ≡ None)
FitsMessage Sleeping left message = left ≡ rest.Nothing
FitsMessage _ left message = HoldsFor left message

-- a free entry of the process table holds what it held at the start, and no message
abbrev pub IsFixed : Process → Option ℕ → Type 0
IsFixed x message = x.state ≡ Free → (x ≡ no_process) × (message ≡ None)

-- so does a semaphore that isn't in use
abbrev pub IsUnused : Semaphore → Type 0
IsUnused x = x.owner ≡ None → x ≡ no_semaphore

-- What holds of the tables at each moment, also inside an event.
--
-- Each process is in just the place that its state names, once: in the ready list, among the waiters of one semaphore, among the
-- sleepers, or nowhere. Only the current number can be in state current, and the null process can run. The ready list falls by
-- key, each key is its process's priority, the sleepers rise by wake tick and all wake later. No semaphore has both tokens and waiters, and what is left of a waiter's
-- call is what the semaphore's owner calls for. A process that waits for a message holds none, and one that was sent it holds it.
-- The kernel's semaphores are 0 to 3. What is free holds what it held at the start.
pub record IsInside (t : Tables) : Type 0 where
  pub processes : length t.processes ≡ NPROC
  pub messages : length t.messages ≡ NPROC
  pub semaphores : length t.semaphores ≡ NSEM
  pub ready : (p : ℕ) → entries_of p t.ready ≡ ready_places (state_at t p)
  pub waiting : (p : ℕ) → waits_of p t.semaphores ≡ waiting_places (state_at t p)
  pub sleeping : (p : ℕ) → entries_of p t.sleepers ≡ sleeping_places (state_at t p)
  pub one_current : (p : ℕ) → state_at t p ≡ Current → p ≡ t.current
  pub null : CanRun (state_at t 0)
  pub null_rest : (process_at t 0).rest ≡ rest.Nothing
  pub falling : IsFalling t.ready
  pub keys : HaveKeys t.processes t.ready
  pub rising : IsRising t.sleepers
  pub later : AllByRecursion (λ e. t.ticks < e.1) t.sleepers
  pub one_kind : (sem : ℕ) → HasOneKind (semaphore_at t sem)
  pub rests : (sem p : ℕ) → 0 < count_in p (semaphore_at t sem).waiters → FitsOwner sem (semaphore_at t sem).owner (process_at t p).rest
  pub slots : (p : ℕ) → FitsMessage (state_at t p) (process_at t p).rest (message_at t p)
  pub devices : (sem : ℕ) → sem < 4 → (semaphore_at t sem).owner ≡ Some owner.Device
  pub no_devices : (sem : ℕ) → (semaphore_at t sem).owner ≡ Some owner.Device → sem < 4
  pub free : (p : ℕ) → IsFixed (process_at t p) (message_at t p)
  pub unused : (sem : ℕ) → IsUnused (semaphore_at t sem)

-- Between two events the current process is in state current.
pub record IsSoundTables (t : Tables) : Type 0 where
  pub inside : IsInside t
  pub runs : state_at t t.current ≡ Current
