-- A caller that has its token goes on: its message goes into the port, or it takes one, and what holds of the ports is kept. If
-- the port was renewed while it waited it is refused.
use Rattle.std.proofs.Common.{◌≡◌, ℕ, suc, ◌<◌, ◌==◌, false, not, List, [], ◌∷◌, ◌++◌, length, Option, None, Some, refl, sym, ap, subst, arith, get_or-set_same, length-append, pos}
use Rattle.std.specs.Prelude.{nat_le}
use Rattle.std.proofs.lemmas.Bool.{cond_both, eqb-true, leb-false, not-false, or_parts}
use Rattle.xinu_base.specs.declared.processes.PortTicket.{PortTicket}
use Rattle.xinu_model.specs.Machine.{Xinu, CallResult, Panics, start, returns}
use Rattle.xinu_model.specs.Ports.Queues.{PortQueue, MessagePort, no_port, most_nodes, port_at, is_used, nodes, is_stale}
use Rattle.xinu_model.specs.Ports.Calls.{with_messages, put_message, take_message}
use Rattle.xinu_model.specs.Semaphores.Waiting.{signalled}
use Rattle.xinu_model.specs.Sound.Tables.{IsInside}
use Rattle.xinu_model.specs.Sound.Ports.{ArePorts}
use Rattle.xinu_laws.proofs.Ports.Messages.{port_within, with_port_messages, ports_with_messages}
use Rattle.xinu_laws.proofs.Ports.Signals.{HasPorts, HasMessage, HasRoom, ports_signal_receive, ports_signal_send}

-- what is said of port q if it is as it was when a call began
abbrev pub WhereFresh : PortTicket → List MessagePort → (PortQueue → Type 0) → Type 0
WhereFresh ticket ports P =
    (queue : PortQueue) → (port_at ports ticket.port).queue ≡ Some queue → (port_at ports ticket.port).seq ≡ ticket.seq → P queue

-- the number of a port that holds other messages
seq_with_messages : (q : ℕ) (queue : PortQueue) (messages : List ℕ) (ports : List MessagePort) → q < length ports
    → (port_at (with_port_messages q queue messages ports) q).seq ≡ (port_at ports q).seq
seq_with_messages q queue messages ports i =
    ap (λ (x : MessagePort). x.seq)
    (get_or-set_same ports q (record (port_at ports q) { queue = Some (record queue { messages = messages }) }) no_port i)

-- its queue
queue_with_messages : (q : ℕ) (queue : PortQueue) (messages : List ℕ) (ports : List MessagePort) → q < length ports
    → (port_at (with_port_messages q queue messages ports) q).queue ≡ Some (record queue { messages = messages })
queue_with_messages q queue messages ports i =
    ap (λ (x : MessagePort). x.queue)
    (get_or-set_same ports q (record (port_at ports q) { queue = Some (record queue { messages = messages }) }) no_port i)

-- A message goes into a port that has room for it.
message_move : (queue : PortQueue) (q message : ℕ) (s : Xinu) → (port_at s.parts.ports q).queue ≡ Some queue
    → nodes s.parts.ports < most_nodes → IsInside s.tables → HasRoom s.tables q (port_at s.parts.ports q).seq queue
    → ArePorts s.tables s.parts.ports
    → HasPorts (signalled queue.receive (with_messages q queue (queue.messages ++ message ∷ []) (start s)))
message_move queue q message s here few o r a =
    let t = s.tables in
    let messages = queue.messages ++ message ∷ [] in
    let next : PortQueue = record queue { messages = messages } in
    let d = with_messages q queue messages (start s) in
    let i = port_within q queue s.parts.ports here in
    let k = a.each q queue here in
    let e = seq_with_messages q queue messages s.parts.ports i in
    let l = length-append queue.messages (message ∷ []) in
    let room = r.room in
    let mes = k.messages in
    ports_signal_receive q next d o (queue_with_messages q queue messages s.parts.ports i) (subst (λ n. HasMessage t q n next) (sym e) (record { messages = omega arith }))
    (ports_with_messages q queue messages t s.parts.ports here (omega arith) (record { messages = omega arith; room = omega arith }) a)

-- the same, if it isn't known whether the port is in use and has a node
pub put_kept : (found : Option PortQueue) (q message : ℕ) (s : Xinu) → (port_at s.parts.ports q).queue ≡ found → IsInside s.tables
    → ((queue : PortQueue) → found ≡ Some queue → HasRoom s.tables q (port_at s.parts.ports q).seq queue) → ArePorts s.tables s.parts.ports
    → HasPorts (put_message found q message s).call
put_kept None q message s here o r a = a
put_kept (Some queue) q message s here o r a =
    cond_both (nat_le most_nodes (nodes s.parts.ports)) (record { call = start s; answer = Panics })
    (returns (signalled queue.receive (with_messages q queue (queue.messages ++ message ∷ []) (start s))) (pos 0))
    (λ (h : CallResult). HasPorts h.call)
    (λ _. a) (λ b. message_move queue q message s here (leb-false most_nodes (nodes s.parts.ports) b) o (r queue refl) a)

-- the number of a port that isn't stale
pub fresh_seq : (ticket : PortTicket) (ports : List MessagePort) → is_stale ticket ports ≡ false
    → (port_at ports ticket.port).seq ≡ ticket.seq
fresh_seq ticket ports b =
    let port = port_at ports ticket.port in
    eqb-true port.seq ticket.seq (not-false (port.seq == ticket.seq) (or_parts (not (is_used port)) (not (port.seq == ticket.seq)) b).1)

-- A message is taken from a port that has one to give.
message_taken : (queue : PortQueue) (message : ℕ) (messages : List ℕ) (q : ℕ) (s : Xinu) → (port_at s.parts.ports q).queue ≡ Some queue
    → queue.messages ≡ message ∷ messages → IsInside s.tables → HasMessage s.tables q (port_at s.parts.ports q).seq queue
    → ArePorts s.tables s.parts.ports → HasPorts (signalled queue.send (with_messages q queue messages (start s)))
message_taken queue message messages q s here f o r a =
    let t = s.tables in
    let next : PortQueue = record queue { messages = messages } in
    let d = with_messages q queue messages (start s) in
    let i = port_within q queue s.parts.ports here in
    let k = a.each q queue here in
    let e = seq_with_messages q queue messages s.parts.ports i in
    let l : length queue.messages ≡ suc (length messages) = ap length f in
    let room = k.room in
    let mes = r.messages in
    let few = a.few in
    ports_signal_send q next d o (queue_with_messages q queue messages s.parts.ports i) (subst (λ n. HasRoom t q n next) (sym e) (record { room = omega arith }))
    (ports_with_messages q queue messages t s.parts.ports here (omega arith) (record { messages = omega arith; room = omega arith }) a)

-- the same by the list of messages
pub take_first_kept : (messages : List ℕ) (queue : PortQueue) (q : ℕ) (s : Xinu) → (port_at s.parts.ports q).queue ≡ Some queue
    → queue.messages ≡ messages → IsInside s.tables → HasMessage s.tables q (port_at s.parts.ports q).seq queue
    → ArePorts s.tables s.parts.ports → HasPorts (take_message messages queue q s).call
take_first_kept [] queue q s here f o r a = a
take_first_kept (message ∷ messages) queue q s here f o r a = message_taken queue message messages q s here f o r a
