-- What holds of the console and those who wait for it, inside an event and between two.
use Rattle.std.specs.Prelude.{ℕ, ◌+◌, ◌<◌, ◌≤◌, Bool, not, ◌&&◌, length}
use Rattle.xinu_base.specs.declared.processes.Process.{Process}
use Rattle.xinu_base.specs.declared.processes.Rest.{Rest}
use Rattle.xinu_base.specs.declared.processes.Rest.TheVariants.{TtyRead, TtyWrite}
use Rattle.xinu_base.specs.declared.processes.Span.{Span}
use Rattle.xinu_model.specs.Console.Constants.{TY_OBUFLEN}
use Rattle.xinu_model.specs.Console.Putting.{TY_OSEM}
use Rattle.xinu_model.specs.Console.Sound.{IsSoundConsole}
use Rattle.xinu_model.specs.Console.State.{Console}
use Rattle.xinu_model.specs.Console.Taking.{TY_ISEM}
use Rattle.xinu_model.specs.Memory.{ram_size}
use Rattle.xinu_model.specs.Sound.Pools.{is_waiting}
use Rattle.xinu_model.specs.Sound.Tables.{times, asks_input, asks_output}
use Rattle.xinu_model.specs.Tables.{Tables, process_at, semaphore_at}

-- whether a process was released from the semaphore on which it waited in such a call, and hasn't gone on yet
abbrev pub is_released : (Rest → Bool) → Process → Bool
is_released asks x = not (is_waiting x.state) && asks x.rest

-- how many of what a semaphore counts are promised: its tokens, and one to each process that was released in such a call
abbrev pub promised : (Rest → Bool) → ℕ → Tables → ℕ
promised asks sem t = (semaphore_at t sem).tokens + times (is_released asks) t.processes

-- a range of RAM of which something is left to be done
pub record IsSpan (part : Span) : Type 0 where
  pub left : part.done < part.want
  pub within : part.at + part.want ≤ ram_size

-- what is left of a read or a write of the console has such a range
abbrev pub HasSpan : Rest → Type 0
HasSpan (TtyRead part) = IsSpan part
HasSpan (TtyWrite part returned) = IsSpan part
HasSpan _ = Unit {0}

-- The console by itself is sound. There is an item for each token of its input and each reader that was released; the output, the tokens of
-- its semaphore and the writers that were released are together at most what it can hold; reads and writes have something left to do.
pub record IsConsole (t : Tables) (c : Console) : Type 0 where
  pub itself : IsSoundConsole c
  pub items : promised asks_input TY_ISEM t ≤ length c.committed
  pub room : length c.output + promised asks_output TY_OSEM t ≤ TY_OBUFLEN
  pub spans : (p : ℕ) → HasSpan (process_at t p).rest
