-- What holds of the ports, inside an event and between two.
use Rattle.std.specs.Prelude.{◌≡◌, ◌≢◌, ◌⊎◌, ℕ, ◌+◌, ◌<◌, ◌≤◌, ◌==◌, Bool, false, not, ◌&&◌, List, length, Some}
use Rattle.xinu_base.specs.declared.processes.PortTicket.{PortTicket}
use Rattle.xinu_base.specs.declared.processes.Process.{Process}
use Rattle.xinu_base.specs.declared.processes.Rest.{Rest}
use Rattle.xinu_base.specs.declared.processes.Rest.TheVariants.{PtSend, PtRecv}
use Rattle.xinu_base.specs.declared.semaphores.Owner.TheVariants as owner
use Rattle.xinu_model.specs.Ports.Queues.{PortQueue, MessagePort, most_nodes, most_ports, port_at, nodes}
use Rattle.xinu_model.specs.Sound.Tables.{times, count_in}
use Rattle.xinu_model.specs.Sound.Pools.{is_waiting}
use Rattle.xinu_model.specs.Tables.{Tables, process_at, semaphore_at}

-- whether a call began on port q when it had this sequence number
abbrev pub is_ticket_of : ℕ → ℕ → PortTicket → Bool
is_ticket_of q seq ticket = (ticket.port == q) && (ticket.seq == seq)

-- whether what is left of a call is to put a message into port q, or to take one, by such a ticket
abbrev pub sends_to : ℕ → ℕ → Rest → Bool
sends_to q seq (PtSend ticket message) = is_ticket_of q seq ticket
sends_to q seq _ = false

abbrev pub receives_from : ℕ → ℕ → Rest → Bool
receives_from q seq (PtRecv ticket) = is_ticket_of q seq ticket
receives_from q seq _ = false

-- whether a process was released from a semaphore of port q, as it is now, and hasn't gone on yet
abbrev pub is_released_sender : ℕ → ℕ → Process → Bool
is_released_sender q seq x = not (is_waiting x.state) && sends_to q seq x.rest

abbrev pub is_released_receiver : ℕ → ℕ → Process → Bool
is_released_receiver q seq x = not (is_waiting x.state) && receives_from q seq x.rest

-- What holds of port q in use: its two semaphores are its own and differ; those who wait on the one send, and those who wait on the
-- other receive, by tickets of the port as it is now; there is a message for each token of the receivers and each released
-- receiver; the room that is left, the messages and the released senders are together at most the first count.
pub record IsSoundPort (t : Tables) (q seq : ℕ) (queue : PortQueue) : Type 0 where
  pub send_owner : (semaphore_at t queue.send).owner ≡ Some (owner.Port q)
  pub receive_owner : (semaphore_at t queue.receive).owner ≡ Some (owner.Port q)
  pub differ : queue.send ≢ queue.receive
  pub senders : (p : ℕ) → 0 < count_in p (semaphore_at t queue.send).waiters → (message : ℕ) × ((process_at t p).rest ≡ PtSend (record { port = q; seq = seq; sem = queue.send }) message)
  pub receivers : (p : ℕ) → 0 < count_in p (semaphore_at t queue.receive).waiters → (process_at t p).rest ≡ PtRecv (record { port = q; seq = seq; sem = queue.receive })
  pub messages : (semaphore_at t queue.receive).tokens + times (is_released_receiver q seq) t.processes ≤ length queue.messages
  pub room : (semaphore_at t queue.send).tokens + length queue.messages + times (is_released_sender q seq) t.processes ≤ queue.first_count

-- What holds of all ports: there are thirty, with at most a hundred messages in all; a semaphore that belongs to a port is one of the two
-- that the port names; no ticket has a later number than its port.
pub record ArePorts (t : Tables) (ports : List MessagePort) : Type 0 where
  pub many : length ports ≡ most_ports
  pub few : nodes ports ≤ most_nodes
  pub each : (q : ℕ) (queue : PortQueue) → (port_at ports q).queue ≡ Some queue → IsSoundPort t q (port_at ports q).seq queue
  pub owned : (sem q : ℕ) → (semaphore_at t sem).owner ≡ Some (owner.Port q) → (queue : PortQueue) × ((port_at ports q).queue ≡ Some queue) × ((sem ≡ queue.send) ⊎ (sem ≡ queue.receive))
  pub sent : (p : ℕ) (ticket : PortTicket) (message : ℕ) → (process_at t p).rest ≡ PtSend ticket message → ticket.seq ≤ (port_at ports ticket.port).seq
  pub received : (p : ℕ) (ticket : PortTicket) → (process_at t p).rest ≡ PtRecv ticket → ticket.seq ≤ (port_at ports ticket.port).seq
