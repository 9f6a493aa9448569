-- What the calls on ports make of the table, and answer.
use Rattle.std.specs.Prelude.{ℕ, ◌+◌, ◌%◌, ◌==◌, nat_le, not, if◌then◌else◌, List, [], ◌∷◌, ◌++◌, drop, slice_set, Option, None, Some}
use Rattle.ports.specs.declared.table.PortHead.{PortHead}
use Rattle.ports.specs.declared.moves.Received.{Received}
use Rattle.ports.specs.declared.moves.Sent.{Sent}
use Rattle.ports.specs.declared.moves.Sent.TheVariants.{Put, Full, Stale}
use Rattle.ports.specs.Table.{PortTable, queue_of}
use Rattle.xinu_base.specs.declared.processes.PortTicket.{PortTicket}
use Rattle.xinu_model.specs.Ports.Calls.{renewed}
use Rattle.xinu_model.specs.Ports.Queues.{PortQueue, MessagePort, is_stale, is_used, most_nodes, most_ports, nodes, port_at}
use Rattle.xinu_model.specs.Searches.{search}

-- the number of the port that is made next
abbrev pub free_place : PortTable → Option ℕ
free_place t = search (λ q. not (is_used (port_at t.ports q))) most_ports t.next_port

-- port q is made
abbrev pub with_made : ℕ → PortHead → PortTable → PortTable
with_made q head t = record { ports = renewed q (Some (queue_of [] head)) t.ports; next_port = (q + 1) % most_ports }

-- a queue without its messages
abbrev pub emptied : Option PortQueue → Option PortQueue
emptied None = None
emptied (Some queue) = Some (record queue { messages = [] })

-- port q is as it was made
abbrev pub with_reset : ℕ → PortTable → PortTable
with_reset q t = record t { ports = renewed q (emptied (port_at t.ports q).queue) t.ports }

-- port q is deleted, and the next search begins there
abbrev pub with_deleted : ℕ → PortTable → PortTable
with_deleted q t = record { ports = renewed q None t.ports; next_port = q }

-- port q has these messages
abbrev pub with_messages : ℕ → PortQueue → List ℕ → PortTable → PortTable
with_messages q queue messages t =
    record t { ports = slice_set t.ports q (record (port_at t.ports q) { queue = Some (record queue { messages = messages }) }) }

-- what a sender to port q keeps while it waits
abbrev pub ticket_to : ℕ → ℕ → Option PortQueue → Option PortTicket
ticket_to q seq None = None
ticket_to q seq (Some queue) = Some (record { port = q; seq = seq; sem = queue.send })

-- what a receiver from port q keeps while it waits
abbrev pub ticket_from : ℕ → ℕ → Option PortQueue → Option PortTicket
ticket_from q seq None = None
ticket_from q seq (Some queue) = Some (record { port = q; seq = seq; sem = queue.receive })

-- the queue of a ticket's port, if it is as it was when the call began
abbrev pub queue_by : PortTicket → List MessagePort → Option PortQueue
queue_by ticket ports = if is_stale ticket ports then None else (port_at ports ticket.port).queue

-- the queue of port q, if it has this sequence number
abbrev pub queue_at_seq : ℕ → ℕ → List MessagePort → Option PortQueue
queue_at_seq q seq ports = let port = port_at ports q in if port.seq == seq then port.queue else None

-- a message goes after those of a queue
abbrev pub with_last : Option PortQueue → ℕ → ℕ → PortTable → PortTable
with_last None q message t = t
with_last (Some queue) q message t = with_messages q queue (queue.messages ++ message ∷ []) t

-- the first message of a queue is gone
abbrev pub with_rest : Option PortQueue → ℕ → PortTable → PortTable
with_rest None q t = t
with_rest (Some queue) q t = with_messages q queue (drop 1 queue.messages) t

-- a message goes after those of a queue, unless all ports together are full
abbrev pub sent_to : Option PortQueue → ℕ → ℕ → PortTable → Sent × PortTable
sent_to None q message t = (Stale, t)
sent_to (Some queue) q message t =
    if nat_le most_nodes (nodes t.ports) then (Full, t) else (Put queue.receive, with_last (Some queue) q message t)

-- a message is sent to the port of a ticket
abbrev pub sent : PortTicket → ℕ → PortTable → Sent × PortTable
sent ticket message t = sent_to (queue_by ticket t.ports) ticket.port message t

-- the first of these messages is taken
abbrev pub taken : List ℕ → PortQueue → ℕ → PortTable → Option Received × PortTable
taken [] queue q t = (None, t)
taken (message ∷ messages) queue q t = (Some (record { message = message; send = queue.send }), with_messages q queue messages t)

-- the first message of a queue is taken, if there is one
abbrev pub received_from : Option PortQueue → ℕ → PortTable → Option Received × PortTable
received_from None q t = (None, t)
received_from (Some queue) q t = taken queue.messages queue q t

-- a message is received from the port of a ticket
abbrev pub received : PortTicket → PortTable → Option Received × PortTable
received ticket t = received_from (queue_by ticket t.ports) ticket.port t
