-- The table of ports: an entry for each, and beside the entries the messages.
use Rattle.std.specs.Prelude.{◌≡◌, ◌≤ℤ◌, ℕ, pos, nat_abs, List, [], ◌∷◌, length, option_map, slice_index_or, Option, None, Some}
use Rattle.ports.specs.declared.table.PortEntry.{PortEntry}
use Rattle.ports.specs.declared.table.PortHead.{PortHead}
use Rattle.ports.specs.Nodes.{queue_at}
use Rattle.xinu_model.specs.Ports.Queues.{PortQueue, MessagePort, first_ports, most_ports}

-- The ports, and the one at which the next search begins.
pub record PortTable : Type 0 where
  pub ports : List MessagePort
  pub next_port : ℕ

-- no port is in use
abbrev pub first_table : PortTable
first_table = record { ports = first_ports; next_port = 0 }

-- the entry of a port that was never made
abbrev pub no_entry : PortEntry
no_entry = record { seq = 0; head = None }

-- the entry of port q
abbrev pub entry_at : List PortEntry → ℕ → PortEntry
entry_at es q = slice_index_or es q no_entry

-- the queue of a port in use, with its messages
abbrev pub queue_of : List ℕ → PortHead → PortQueue
queue_of messages h = record { first_count = nat_abs h.first_count; send = h.send; receive = h.receive; messages = messages }

-- what a port in use has beside its messages
abbrev pub head_of : PortQueue → PortHead
head_of queue = record { first_count = pos queue.first_count; send = queue.send; receive = queue.receive }

-- the port of an entry and its messages
abbrev pub port_of : PortEntry → List ℕ → MessagePort
port_of e messages = record { seq = e.seq; queue = option_map (queue_of messages) e.head }

-- the ports of all entries
abbrev pub ports_of : List PortEntry → List (List ℕ) → List MessagePort
ports_of [] qs = []
ports_of (e ∷ es) [] = []
ports_of (e ∷ es) (q ∷ qs) = port_of e q ∷ ports_of es qs

-- what holds of an entry and its messages: a first count isn't negative, and a port that isn't in use has no messages
abbrev pub IsEntry : Option PortHead → List ℕ → Type 0
IsEntry None messages = messages ≡ []
IsEntry (Some h) messages = pos 0 ≤ℤ h.first_count

-- There are messages for each of the thirty entries, and each entry agrees with its messages.
pub record IsTable (es : List PortEntry) (qs : List (List ℕ)) : Type 0 where
  pub entries : length es ≡ most_ports
  pub queues : length qs ≡ most_ports
  pub each : (q : ℕ) → IsEntry (entry_at es q).head (queue_at qs q)
