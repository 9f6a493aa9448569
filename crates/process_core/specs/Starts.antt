-- The process table at the start, and what a new process is.
use Rattle.std.specs.Prelude.{ℕ, List, ◌++◌, take, map, replicate}
use Rattle.xinu_model.specs.Boot.{null_tables}
use Rattle.xinu_model.specs.Tables.{Semaphore}
use Rattle.process_core.specs.Tables.{ProcessTable, Mark, Beside}

-- the process table of the machine before any image is loaded: the null process alone, which runs
abbrev pub first_table : ProcessTable
first_table = record {
  processes = null_tables.processes;
  current = null_tables.current;
  quantum = null_tables.quantum;
  last_process = null_tables.last_process;
}

-- what is kept of a semaphore beside its waiters
abbrev pub mark_of : Semaphore → Mark
mark_of x = record { owner = x.owner; tokens = x.tokens }

-- what the tables have then beside lists and processes
abbrev pub first_beside : Beside
first_beside = record {
  messages = null_tables.messages;
  marks = map mark_of null_tables.semaphores;
  ticks = null_tables.ticks;
  last_semaphore = null_tables.last_semaphore;
}

-- a name with zeros after its end, fifteen bytes in all
abbrev pub padded : List ℕ → List ℕ
padded name = take 15 (name ++ replicate 15 0)
