-- Ports: queues of messages with a bound on how many wait in them (book, chapter 11).
use Rattle.std.specs.Prelude.{ℕ, ◌+◌, ◌==◌, Bool, not, ◌||◌, List, [], ◌∷◌, length, replicate, Option, None, Some, is_some, slice_index_or}
use Rattle.xinu_base.specs.declared.processes.PortTicket.{PortTicket}

-- What a port in use has: how many messages it can hold, the semaphore of the room that is left, the semaphore of the messages,
-- and the messages, in order.
pub record PortQueue : Type 0 where
  pub first_count : ℕ
  pub send : ℕ
  pub receive : ℕ
  pub messages : List ℕ

-- A port: a number that rises each time the port is made, reset or deleted, and its queue if it is in use.
pub record MessagePort : Type 0 where
  pub seq : ℕ
  pub queue : Option PortQueue

-- a port that was never made
abbrev pub no_port : MessagePort
no_port = record { seq = 0; queue = None }

-- how many ports there are, and the most messages that all of them hold together
abbrev pub most_ports : ℕ
most_ports = 30

abbrev pub most_nodes : ℕ
most_nodes = 100

-- the ports at the start
unfoldable pub first_ports : List MessagePort
first_ports = replicate most_ports no_port

-- the port of a number
abbrev pub port_at : List MessagePort → ℕ → MessagePort
port_at ports q = slice_index_or ports q no_port

-- whether a port is in use
abbrev pub is_used : MessagePort → Bool
is_used port = is_some port.queue

-- the messages that a queue holds
abbrev pub queued : Option PortQueue → List ℕ
queued None = []
queued (Some queue) = queue.messages

-- how many messages all ports hold
abbrev pub nodes : List MessagePort → ℕ
nodes [] = 0
nodes (port ∷ ports) = length (queued port.queue) + nodes ports

-- whether the port of a call was reset, deleted or made anew since the call began
abbrev pub is_stale : PortTicket → List MessagePort → Bool
is_stale ticket ports =
    let port = port_at ports ticket.port in not (is_used port) || not (port.seq == ticket.seq)
