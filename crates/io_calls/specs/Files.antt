-- What holds when a call on files begins, and what a completion of their disk leaves.
use Rattle.std.specs.Prelude.{◌≡◌, ◌≤◌, ◌++◌, if◌then◌else◌, ℕ, ℤ, pos, negsuc, List, Option, Some, None}
use Rattle.kernel_state.specs.Results.{IsStart}
use Rattle.table_laws.specs.Preserve.{MayCall}
use Rattle.xinu_base.specs.declared.processes.State.TheVariants.{Waiting}
use Rattle.part_laws.specs.FileWork.{callers_told}
use Rattle.xinu_model.specs.Files.Syscalls.{completing, file_step, files_of, LF_SEM}
use Rattle.xinu_model.specs.Files.Work.{calls_completed, FileNote, least_effects, most_effects}
use Rattle.xinu_model.specs.Machine.{CallResult, CallState, Xinu}
use Rattle.xinu_model.specs.Memory.{in_ram}
use Rattle.xinu_model.specs.RawDisk.Callers.{callers}
use Rattle.xinu_model.specs.Sound.Disks.{IsFileDisk}
use Rattle.xinu_model.specs.Sound.Tables.{IsSoundTables}
use Rattle.xinu_model.specs.Tables.{semaphore_at, state_at, Tables}

-- Nothing was done yet in this event, the current process may call, and what holds of files and of those who wait for them holds.
pub record AsksFiles (d : CallState) : Type 0 where
  pub starts : IsStart d
  pub may : MayCall d.state
  pub files : IsFileDisk d.state.tables (files_of d.state)

-- how many bytes are asked for, if their range is in RAM
abbrev pub bytes_asked : ℕ → ℤ → Option ℕ
bytes_asked at (negsuc n) = None
bytes_asked at (pos n) = if in_ram at n then Some n else None

-- A good completion of the files' disk: so many calls took effect, as many as the abstract machine allows, and this is told of them.
pub record CompletesFiles (s : Xinu) (notes : List FileNote) (result : CallResult) : Type 0 where
  pub effects : ℕ
  pub least : least_effects (files_of s).calls (files_of s) ≤ effects
  pub most : effects ≤ most_effects (files_of s)
  pub told : (calls_completed effects (file_step s)).notes ≡ notes
  pub is : result ≡ completing (calls_completed effects (file_step s)) s

-- who is told a reply waits for it
abbrev pub WaitsFor : Option ℤ → Option ℕ → Tables → Type 0
WaitsFor (Some reply) (Some p) t = state_at t p ≡ Waiting
WaitsFor _ _ t = Unit {0}

-- The living callers of whose calls notes tell are the first who wait for files.
pub record AreTold (notes : List FileNote) (t : Tables) : Type 0 where
  pub tables : IsSoundTables t
  pub others : List ℕ
  pub waiters : (semaphore_at t LF_SEM).waiters ≡ callers (λ (o : Option ℕ). o) (callers_told notes) ++ others
