-- Ports that are deleted or reset.
use Rattle.std.specs.Prelude.{◌≡◌, ◌<◌, ℕ, if◌then◌else◌, nat_le, Option, None, Some, option_map}
use Rattle.ports.specs.Table.{head_of}
use Rattle.ports.specs.declared.table.PortHead.{PortHead}
use Rattle.xinu_model.specs.Machine.{CallState, Xinu}
use Rattle.xinu_model.specs.Ports.Queues.{port_at, PortQueue}
use Rattle.xinu_model.specs.Sound.Ports.{ArePorts}
use Rattle.xinu_model.specs.Sound.Tables.{IsSoundTables}

-- the queue of the port that a word names, if it is in use and its messages are dropped (0) or given back as buffers (1)
abbrev pub cleared_queue : ℕ → ℕ → Xinu → Option PortQueue
cleared_queue word how s = if nat_le how 1 then (port_at s.parts.ports word).queue else None

-- Port q has this head, and tables and ports are as inside a call: it can be deleted or reset.
pub record CanClear (q : ℕ) (head : PortHead) (d : CallState) : Type 0 where
  pub tables : IsSoundTables d.state.tables
  pub ports : ArePorts d.state.tables d.state.parts.ports
  pub used : Some head ≡ option_map head_of (port_at d.state.parts.ports q).queue
  pub number : (port_at d.state.parts.ports q).seq < 4294967295
