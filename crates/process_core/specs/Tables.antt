-- The kernel's tables, read off the lists of a queue table, the process table, and what is beside them.
use Rattle.std.specs.Prelude.{ℕ, ◌+◌, List, [], ◌∷◌, map, slice_index_or, slice_set, take, Option, ℤ, pos, negsuc}
use Rattle.queue_table.specs.Lists.{Entry, list_at, delays}
pub use Rattle.queue_table.specs.Lists.{numbers}
use Rattle.xinu_base.specs.declared.processes.Process.{Process}
use Rattle.xinu_base.specs.declared.processes.State.{State}
use Rattle.xinu_base.specs.declared.semaphores.Owner.{Owner}
use Rattle.xinu_model.specs.Process.Scheduling.{in_state}
use Rattle.xinu_model.specs.Tables.{no_process, Semaphore, Tables}

-- The process table: the processes by number, who runs, what is left of the quantum, and the last number given.
pub record ProcessTable : Type 0 where
  pub processes : List Process
  pub current : ℕ
  pub quantum : ℕ
  pub last_process : ℕ

-- A semaphore without its waiters, which are in its list.
pub record Mark : Type 0 where
  pub owner : Option Owner
  pub tokens : ℕ

-- What the kernel's tables have beside the lists and the processes.
pub record Beside : Type 0 where
  pub messages : List (Option ℕ)
  pub marks : List Mark
  pub ticks : ℕ
  pub last_semaphore : ℕ

-- the entry of process p
abbrev pub process_in : List Process → ℕ → Process
process_in ps p = slice_index_or ps p no_process

-- the table with x as the entry of process p
abbrev pub with_process : ℕ → Process → ProcessTable → ProcessTable
with_process p x s = record s { processes = slice_set s.processes p x }

-- the table with process p in another state
abbrev pub with_state : ℕ → State → ProcessTable → ProcessTable
with_state p state s = with_process p (in_state state (process_in s.processes p)) s

-- process p holds another message, or none
abbrev pub with_message : ℕ → Option ℕ → Beside → Beside
with_message p message b = record b { messages = slice_set b.messages p message }

-- a semaphore whose waiters are those of a list
abbrev pub semaphore_of : List Entry → Mark → Semaphore
semaphore_of l m = record { owner = m.owner; tokens = m.tokens; waiters = numbers l }

-- the semaphores, each with the waiters of its list
abbrev pub semaphores_of : List (List Entry) → List Mark → List Semaphore
semaphores_of ls [] = []
semaphores_of [] (m ∷ ms) = semaphore_of [] m ∷ semaphores_of [] ms
semaphores_of (l ∷ ls) (m ∷ ms) = semaphore_of l m ∷ semaphores_of ls ms

-- the tick that is a delay after some ticks
abbrev pub wake_tick : ℕ → ℤ → ℕ
wake_tick ticks (pos delay) = ticks + delay
wake_tick ticks (negsuc n) = ticks

-- the sleepers of a delta list, each with the tick at which it wakes
abbrev pub sleepers_of : ℕ → List Entry → List (ℕ × ℕ)
sleepers_of ticks l = map (λ e. (e.0, wake_tick ticks e.1)) (delays l)

-- The tables: queue 128 is the ready list, the queues below it have the waiters of the semaphores, queue 129 the sleepers.
unfoldable pub tables_of : List (List Entry) → ProcessTable → Beside → Tables
tables_of ls s b = record {
  processes = s.processes;
  messages = b.messages;
  current = s.current;
  quantum = s.quantum;
  ready = list_at ls 128;
  semaphores = semaphores_of (take 128 ls) b.marks;
  sleepers = sleepers_of b.ticks (list_at ls 129);
  ticks = b.ticks;
  last_process = s.last_process;
  last_semaphore = b.last_semaphore;
}
