-- What holds when a call on the raw disk begins or goes on, and what a completion leaves.
use Rattle.std.specs.Prelude.{Option, Some, None}
use Rattle.kernel_state.specs.Results.{IsStart}
use Rattle.table_laws.specs.Preserve.{MayCall}
use Rattle.xinu_model.specs.Machine.{CallState, start, Xinu}
use Rattle.xinu_model.specs.RawDisk.Calls.{after_served, disk_of}
use Rattle.xinu_model.specs.RawDisk.Completions.{Served}
use Rattle.xinu_model.specs.Sound.Disks.{IsRawDisk}

-- Nothing was done yet in this event, the current process may call, and what holds of the raw disk and of those who wait for it holds.
pub record AsksDisk (d : CallState) : Type 0 where
  pub starts : IsStart d
  pub may : MayCall d.state
  pub disk : IsRawDisk d.state.tables (disk_of d.state)

-- what is under way once a request was completed, if one was
abbrev pub after_completing : Option Served → Xinu → CallState
after_completing None s = start s
after_completing (Some x) s = after_served x s
