-- How much the parts of a state hold, in each run: so their lines can say it.
use Rattle.std.specs.Prelude.{◌≤◌, ℕ, length, IfSome}
use Rattle.xinu_model.specs.Console.State.{Console}
use Rattle.xinu_model.specs.Files.Systems.{FileSystem, OpenFile, open_bytes}
use Rattle.xinu_model.specs.Machine.{Xinu}
use Rattle.xinu_model.specs.Pools.Buffers.{pool_at}
use Rattle.xinu_model.specs.Ports.Queues.{port_at}
use Rattle.xinu_model.specs.Tables.{Tables, semaphore_at}

-- What the console holds can be counted by words.
pub record IsSmallConsole (c : Console) : Type 0 where
  pub committed : length c.committed ≤ 4294967295
  pub line : length c.line ≤ 4294967295
  pub output : length c.output ≤ 4294967295
  pub echo : length c.echo ≤ 4294967295

-- There are at most six file devices, and the bytes of a file can be counted by words.
pub record AreFewFiles (s : FileSystem) : Type 0 where
  pub devices : length s.devices ≤ 6
  pub bytes : (f : OpenFile) → length (open_bytes f s) ≤ 4294967295

-- There are at most 128 semaphores, on each of which at most 64 processes wait.
pub record AreFewWaiters (t : Tables) : Type 0 where
  pub semaphores : length t.semaphores ≤ 128
  pub waiters : (sem : ℕ) → length (semaphore_at t sem).waiters ≤ 64

-- The same of a whole state.
pub record AreFew (s : Xinu) : Type 0 where
  pub tables : AreFewWaiters s.tables
  pub pools : length s.parts.pools ≤ 20
  pub buffers : (i : ℕ) → length (pool_at s.parts.pools i).free ≤ (pool_at s.parts.pools i).number
  pub ports : length s.parts.ports ≤ 30
  pub messages : (q : ℕ) → IfSome (port_at s.parts.ports q).queue (λ queue. length queue.messages ≤ 4294967295)
  pub console : IsSmallConsole s.parts.devices.console
  pub requests : length s.parts.devices.disk.requests ≤ 4294967295
  pub files : AreFewFiles s.parts.devices.files.system
