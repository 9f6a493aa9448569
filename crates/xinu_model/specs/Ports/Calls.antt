-- Ports as processes call them (book, chapter 11).
use Rattle.std.specs.Prelude.{ℕ, ◌+◌, ◌%◌, ◌==◌, nat_le, not, if◌then◌else◌, List, [], ◌∷◌, ◌++◌, slice_set, Option, Some, None, ℤ, pos, negsuc}
use Rattle.xinu_base.specs.Constants.{OK}
use Rattle.xinu_base.specs.declared.processes.PortTicket.{PortTicket}
use Rattle.xinu_base.specs.declared.processes.Rest.TheVariants.{PtSend, PtRecv}
use Rattle.xinu_base.specs.declared.semaphores.Owner.TheVariants as owner
use Rattle.xinu_model.specs.Machine.{Xinu, Panics, CallState, CallResult, start, returns, refused, goes_on}
use Rattle.xinu_model.specs.Messages.{held}
use Rattle.xinu_model.specs.Pools.Calls.{freed_buffer}
use Rattle.xinu_model.specs.Ports.Queues.{PortQueue, MessagePort, most_ports, most_nodes, port_at, is_used, nodes, is_stale}
use Rattle.xinu_model.specs.Searches.{search}
use Rattle.xinu_model.specs.Semaphores.Counts.{free_semaphore, make_semaphore, with_semaphore, with_tokens}
use Rattle.xinu_model.specs.Semaphores.Waiting.{signalled, emptied, await}
use Rattle.xinu_model.specs.Tables.{no_semaphore}
use Rattle.xinu_model.specs.Words.{signed}
use Rattle.xinu_model.specs.Footprints.{on_ports, on_ports_and_pools}
use Rattle.xinu_model.specs.Rows.{Status, PortMessage, CallRow, row}

-- the port that the next `ptcreate` gets
abbrev pub free_port : Xinu → Option ℕ
free_port s = search (λ q. not (is_used (port_at s.parts.ports q))) most_ports s.parts.next_port

-- port q has this queue, or none, from now on, and the next sequence number
abbrev pub renewed : ℕ → Option PortQueue → List MessagePort → List MessagePort
renewed q queue ports = slice_set ports q (record { seq = (port_at ports q).seq + 1; queue = queue })

-- port q is made with two semaphores
abbrev pub with_port : ℕ → ℕ → ℕ → ℕ → Xinu → CallResult
with_port q n send receive s =
    returns (start (record s {
      tables = make_semaphore receive (owner.Port q) 0 (make_semaphore send (owner.Port q) n s.tables);
      parts = record s.parts {
        ports = renewed q (Some (record { first_count = n; send = send; receive = receive; messages = [] })) s.parts.ports;
        next_port = (q + 1) % most_ports;
      };
    })) (pos q)

-- a port, if a number and the second semaphore are found
abbrev pub made_port : Option ℕ → ℕ → ℕ → ℕ → Xinu → CallResult
made_port None q n send s = refused s
made_port (Some receive) q n send s = with_port q n send receive s

-- a port, if a number and the first semaphore are found; the second is sought after the first
abbrev pub started_port : Option ℕ → Option ℕ → ℕ → Xinu → CallResult
started_port (Some q) (Some send) n s =
    made_port (free_semaphore (make_semaphore send (owner.Port q) n s.tables)) q n send s
started_port (Some q) None n s = refused s
started_port None send n s = refused s

-- call 31: a port that holds n messages; refused if n is negative, or no port or no two semaphores are free
abbrev pub ptcreate : ℤ → Xinu → CallResult
ptcreate (negsuc n) s = refused s
ptcreate (pos n) s = started_port (free_port s) (free_semaphore s.tables) n s

-- the messages are given back as buffers, one after another; what is no held buffer is passed over
abbrev pub freed_buffers : List ℕ → CallState → CallState
freed_buffers [] d = d
freed_buffers (a ∷ messages) d = freed_buffers messages (freed_buffer a d)

-- the messages of a queue are dropped, or given back as buffers
abbrev pub disposed : ℕ → List ℕ → CallState → CallState
disposed how messages d = if how == 1 then freed_buffers messages d else d

-- the messages of port q are gone, and all who wait on it go on, the senders first
abbrev pub cleared : ℕ → PortQueue → CallState → CallState
cleared how queue d = emptied queue.receive (emptied queue.send (disposed how queue.messages d))

-- the port is deleted: its semaphores and its number are free
abbrev pub deleted : ℕ → PortQueue → CallState → CallState
deleted q queue d =
    record d {
      state = record d.state {
        tables = with_semaphore queue.receive no_semaphore (with_semaphore queue.send no_semaphore d.state.tables);
        parts = record d.state.parts { ports = renewed q None d.state.parts.ports; next_port = q };
      };
    }

-- the port is as it was made: its room is whole, and it holds no messages
abbrev pub emptied_port : ℕ → PortQueue → CallState → CallState
emptied_port q queue d =
    record d {
      state = record d.state {
        tables = with_tokens queue.receive 0 (with_tokens queue.send queue.first_count d.state.tables);
        parts = record d.state.parts { ports = renewed q (Some (record queue { messages = [] })) d.state.parts.ports };
      };
    }

-- a port is deleted, if it is in use
abbrev pub deleted_where : Option PortQueue → ℕ → ℕ → Xinu → CallResult
deleted_where None q how s = refused s
deleted_where (Some queue) q how s =
    if nat_le how 1 then returns (deleted q queue (cleared how queue (start s))) OK else refused s

-- call 32: port q is deleted, its messages dropped (0) or given back as buffers (1); refused if it isn't in use, or `how` is neither
abbrev pub ptdelete : ℕ → ℕ → Xinu → CallResult
ptdelete q how s = deleted_where (port_at s.parts.ports q).queue q how s

-- a port is reset, if it is in use
abbrev pub reset_where : Option PortQueue → ℕ → ℕ → Xinu → CallResult
reset_where None q how s = refused s
reset_where (Some queue) q how s =
    if nat_le how 1 then returns (emptied_port q queue (cleared how queue (start s))) OK else refused s

-- call 33: port q is as it was made, its messages dropped (0) or given back as buffers (1); refused as call 32
abbrev pub ptreset : ℕ → ℕ → Xinu → CallResult
ptreset q how s = reset_where (port_at s.parts.ports q).queue q how s

-- port q has these messages
abbrev pub with_messages : ℕ → PortQueue → List ℕ → CallState → CallState
with_messages q queue messages d =
    let port = port_at d.state.parts.ports q in
    record d {
      state = record d.state {
        parts = record d.state.parts { ports = slice_set d.state.parts.ports q (record port { queue = Some (record queue { messages = messages }) }) };
      };
    }

-- a message goes after those of the port, and its receivers are signalled; if all ports together are full the kernel panics
abbrev pub put_message : Option PortQueue → ℕ → ℕ → Xinu → CallResult
put_message None q message s = refused s
put_message (Some queue) q message s =
    if nat_le most_nodes (nodes s.parts.ports) then record { call = start s; answer = Panics }
    else returns (signalled queue.receive (with_messages q queue (queue.messages ++ message ∷ []) (start s))) OK

-- a sender goes on with its token, unless the port changed since its call began
abbrev pub finish_send : PortTicket → ℕ → Xinu → CallResult
finish_send ticket message s =
    if is_stale ticket s.parts.ports then refused s else put_message (port_at s.parts.ports ticket.port).queue ticket.port message s

-- the first of these messages is taken, and the senders are signalled
abbrev pub take_message : List ℕ → PortQueue → ℕ → Xinu → CallResult
take_message [] queue q s = refused s
take_message (message ∷ messages) queue q s =
    returns (signalled queue.send (with_messages q queue messages (start s))) (signed message)

abbrev pub take_from : Option PortQueue → ℕ → Xinu → CallResult
take_from None q s = refused s
take_from (Some queue) q s = take_message queue.messages queue q s

-- a receiver goes on with its token, unless the port changed since its call began
abbrev pub finish_receive : PortTicket → Xinu → CallResult
finish_receive ticket s =
    if is_stale ticket s.parts.ports then refused s else take_from (port_at s.parts.ports ticket.port).queue ticket.port s

-- what a call keeps of the port on which it waits
abbrev pub ticket_of : ℕ → ℕ → Xinu → PortTicket
ticket_of q sem s = record { port = q; seq = (port_at s.parts.ports q).seq; sem = sem }

-- a message is sent to a port, if it is in use
abbrev pub sent_to : Option PortQueue → ℕ → ℕ → Xinu → CallResult
sent_to None q message s = refused s
sent_to (Some queue) q message s =
    let ticket = ticket_of q queue.send s in
    await queue.send (PtSend ticket message) (finish_send ticket message) s

-- call 34: a message for port q; the caller waits for room; refused if the port isn't in use
abbrev pub ptsend : ℕ → ℕ → Xinu → CallResult
ptsend q message s = sent_to (port_at s.parts.ports q).queue q message s

-- a message is received from a port, if it is in use
abbrev pub received_from : Option PortQueue → ℕ → Xinu → CallResult
received_from None q s = refused s
received_from (Some queue) q s =
    let ticket = ticket_of q queue.receive s in
    await queue.receive (PtRecv ticket) (finish_receive ticket) s

-- call 35: the first message of port q, for which the caller waits; refused if the port isn't in use
abbrev pub ptrecv : ℕ → Xinu → CallResult
ptrecv q s = received_from (port_at s.parts.ports q).queue q s

-- the calls go on
abbrev pub go_on_ptsend : PortTicket → ℕ → Xinu → CallResult
go_on_ptsend ticket message s = finish_send ticket message (goes_on (held s) s)

abbrev pub go_on_ptrecv : PortTicket → Xinu → CallResult
go_on_ptrecv ticket s = finish_receive ticket (goes_on (held s) s)

-- the calls on ports
abbrev pub port_calls : List CallRow
port_calls =
    row 31 on_ports Status (λ a s. ptcreate (signed (a 0)) s) ∷
    row 32 on_ports_and_pools Status (λ a s. ptdelete (a 0) (a 1) s) ∷
    row 33 on_ports_and_pools Status (λ a s. ptreset (a 0) (a 1) s) ∷
    row 34 on_ports Status (λ a s. ptsend (a 0) (a 1) s) ∷
    row 35 on_ports PortMessage (λ a s. ptrecv (a 0) s) ∷
    []
