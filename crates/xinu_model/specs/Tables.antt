-- The tables of the kernel: processes, messages, the ready list, semaphores, the sleepers (book, chapters 4 to 8 and 13).
use Rattle.std.specs.Prelude.{ℕ, ◌==◌, Bool, true, false, not, List, [], ◌∷◌, ◌++◌, filter, map, replicate, slice_index_or, slice_set, Option, None, ℤ, pos}
use Rattle.xinu_base.specs.Insert.{ready_insert, sleeper_insert}
use Rattle.xinu_base.specs.declared.processes.Process.{Process}
use Rattle.xinu_base.specs.declared.processes.State.{State}
use Rattle.xinu_base.specs.declared.processes.State.TheVariants.{Free}
use Rattle.xinu_base.specs.declared.processes.Rest.TheVariants.{Nothing}
use Rattle.xinu_base.specs.declared.semaphores.Owner.{Owner}

-- what is at a free number
abbrev pub no_process : Process
no_process = record {
  state = Free;
  priority = pos 0;
  parent = 0;
  name = replicate 15 0;
  stack = 0;
  stack_size = 0;
  rest = Nothing;
}

-- A semaphore: whose it is, its tokens, and the processes that wait, in order.
pub record Semaphore : Type 0 where
  pub owner : Option Owner
  pub tokens : ℕ
  pub waiters : List ℕ

-- what is at a free number
abbrev pub no_semaphore : Semaphore
no_semaphore = record { owner = None; tokens = 0; waiters = [] }

-- Processes and messages go by process number, semaphores by theirs. Ready holds each process with its key, sleepers each with
-- the tick at which it wakes. The last numbers given are where the next search begins.
pub record Tables : Type 0 where
  pub processes : List Process
  pub messages : List (Option ℕ)
  pub current : ℕ
  pub quantum : ℕ
  pub ready : List (ℕ × ℤ)
  pub semaphores : List Semaphore
  pub sleepers : List (ℕ × ℕ)
  pub ticks : ℕ
  pub last_process : ℕ
  pub last_semaphore : ℕ

-- the entry of process p
abbrev pub process_at : Tables → ℕ → Process
process_at t p = slice_index_or t.processes p no_process

-- its state
abbrev pub state_at : Tables → ℕ → State
state_at t p = (slice_index_or t.processes p no_process).state

-- the message that it holds
abbrev pub message_at : Tables → ℕ → Option ℕ
message_at t p = slice_index_or t.messages p None

-- semaphore sem
abbrev pub semaphore_at : Tables → ℕ → Semaphore
semaphore_at t sem = slice_index_or t.semaphores sem no_semaphore

-- whether a number of this state has no process
abbrev pub is_free : State → Bool
is_free Free = true
is_free _ = false

-- the entries of a list but those of process p
abbrev pub entries_without : {K : Type 0} → ℕ → List (ℕ × K) → List (ℕ × K)
entries_without p l = filter (λ e. not (e.0 == p)) l

-- the numbers of a list but p
abbrev pub numbers_without : ℕ → List ℕ → List ℕ
numbers_without p l = filter (λ x. not (x == p)) l

-- a semaphore on which p doesn't wait
abbrev pub semaphore_without : ℕ → Semaphore → Semaphore
semaphore_without p x = record { owner = x.owner; tokens = x.tokens; waiters = numbers_without p x.waiters }

-- the semaphores, if p waits on none
abbrev pub waits_without : ℕ → List Semaphore → List Semaphore
waits_without p l = map (semaphore_without p) l

-- where a process can stand
pub data Place : Type 0 where
  Nowhere : Place
  InReady : Place
  InSemaphore : (sem : ℕ) → Place
  InSleepers : (wake : ℕ) → Place

-- the ready list with p, if that is p's place
abbrev pub ready_in : Place → ℕ → ℤ → List (ℕ × ℤ) → List (ℕ × ℤ)
ready_in InReady p key l = ready_insert p key l
ready_in Nowhere p key l = l
ready_in (InSemaphore sem) p key l = l
ready_in (InSleepers wake) p key l = l

-- a semaphore with p as its last waiter
abbrev pub with_waiter : ℕ → Semaphore → Semaphore
with_waiter p x = record { owner = x.owner; tokens = x.tokens; waiters = x.waiters ++ p ∷ [] }

-- the semaphores with p after the waiters of one of them, if that is p's place
abbrev pub semaphores_in : Place → ℕ → List Semaphore → List Semaphore
semaphores_in (InSemaphore sem) p l = slice_set l sem (with_waiter p (slice_index_or l sem no_semaphore))
semaphores_in Nowhere p l = l
semaphores_in InReady p l = l
semaphores_in (InSleepers wake) p l = l

-- the sleepers with p, if that is p's place
abbrev pub sleepers_in : Place → ℕ → List (ℕ × ℕ) → List (ℕ × ℕ)
sleepers_in (InSleepers wake) p l = sleeper_insert p wake l
sleepers_in Nowhere p l = l
sleepers_in InReady p l = l
sleepers_in (InSemaphore sem) p l = l

-- Process p leaves the list in which it is, becomes x with message m, and goes to a place.
abbrev pub move_to : ℕ → Process → Option ℕ → Place → Tables → Tables
move_to p x m place t =
    record t {
      processes = slice_set t.processes p x;
      messages = slice_set t.messages p m;
      ready = ready_in place p x.priority (entries_without p t.ready);
      semaphores = semaphores_in place p (waits_without p t.semaphores);
      sleepers = sleepers_in place p (entries_without p t.sleepers);
    }
