-- The calls on ports: what is done is what they do.
use Rattle.std.proofs.Common.{◌≡◌, ◌∙◌, ℕ, zero, suc, ◌-◌, ◌<◌, ◌≤◌, Bool, true, false, cond, nat_le, nat_lt, int_lt, List, [], ◌∷◌, length, Option, Some, None, refl, sym, ap, subst, arith}
use Rattle.std.proofs.lemmas.Bool.{leb-false}
use Rattle.ports.specs.Calls.{received, received_from, sent, ticket_from, ticket_to, with_last}
use Rattle.ports.specs.Calls as table
use Rattle.ports.specs.Table.{PortTable}
use Rattle.ports.specs.declared.moves.Received.{Received}
use Rattle.ports.specs.declared.moves.Sent.{Sent}
use Rattle.ports.specs.declared.moves.Sent.TheVariants.{Put, Full}
use Rattle.xinu_base.specs.declared.processes.PortTicket.{PortTicket}
use Rattle.xinu_base.specs.declared.processes.Process.{Process}
use Rattle.xinu_base.specs.declared.processes.Rest.{Rest}
use Rattle.xinu_base.specs.declared.processes.Rest.TheVariants.{PtRecv, PtSend}
use Rattle.table_laws.proofs.Frame.MoveTo.{owner_move, tokens_move}
use Rattle.table_laws.proofs.Tables.Owners.{owner_tokens}
use Rattle.xinu_model.specs.Machine.{CallResult, refused, returns, start, Xinu}
use Rattle.xinu_model.specs.Ports.Calls.{finish_receive, finish_send, ptrecv, ptsend, sent_to, take_from, take_message, ticket_of}
use Rattle.xinu_model.specs.Ports.Calls as model
use Rattle.xinu_model.specs.Ports.Queues.{is_stale, MessagePort, most_nodes, nodes, port_at, PortQueue}
use Rattle.xinu_model.specs.Semaphores.Counts.{count_of, most_tokens, with_tokens}
use Rattle.xinu_model.specs.Semaphores.Waiting.{signalled, take_token}
use Rattle.xinu_model.specs.Sound.Ports.{ArePorts}
use Rattle.xinu_model.specs.Sound.Tables.{FitsOwner}
use Rattle.xinu_model.specs.Tables.{move_to, Place, semaphore_at, Tables}
use Rattle.xinu_model.specs.Words.{signed}
use Rattle.core_calls.specs.PortRoom.{HaveRoom}
use Rattle.kernel_state.specs.Released.{IsOfPart}
use Rattle.table_laws.proofs.PortRoom.{fewer_set, one_of_nodes, few_tokens}

-- Sound ports have room, also if some tokens are gone.
pub have_room : (t u : Tables) (ports : List MessagePort) → ArePorts t ports → ((r : ℕ) → (semaphore_at u r).owner ≡ (semaphore_at t r).owner)
    → ((r : ℕ) → (semaphore_at u r).tokens ≤ (semaphore_at t r).tokens)
    → HaveRoom u ports
have_room t u ports a owners fewer = record {
  each = λ q queue e. (
      let k = a.each q queue e in
      let s = fewer queue.send in
      let r = fewer queue.receive in
      let m = k.messages in
      let n = k.room in
      record {
        senders = subst IsOfPart (sym (owners queue.send ∙ k.send_owner)) tt;
        receivers = subst IsOfPart (sym (owners queue.receive ∙ k.receive_owner)) tt;
        messages = omega (arith, r, m);
        room = omega (arith, s, n);
      });
}

-- once a token is taken
pub room_taken : (t : Tables) (sem : ℕ) (ports : List MessagePort) → ArePorts t ports → HaveRoom (with_tokens sem ((semaphore_at t sem).tokens - 1) t) ports
room_taken t sem ports a =
    let n = (semaphore_at t sem).tokens - 1 in
    have_room t (with_tokens sem n t) ports a (λ r. owner_tokens t sem n r) (λ r. fewer_set t.semaphores sem r n (omega arith))

-- and once a process moved
pub room_moved : (t : Tables) (p : ℕ) (x : Process) (m : Option ℕ) (place : Place) (ports : List MessagePort) → ArePorts t ports
    → HaveRoom (move_to p x m place t) ports
room_moved t p x m place ports a =
    have_room t (move_to p x m place t) ports a (λ r. owner_move t p x m place r) (λ r. (let e = tokens_move t p x m place r in omega (arith, e)))

-- Of a message that was put: the port's queue, and that not all nodes were in use.
pub record IsPut (ticket : PortTicket) (sem : ℕ) (ports : List MessagePort) : Type 0 where
  pub queue : PortQueue
  pub used : (port_at ports ticket.port).queue ≡ Some queue
  pub is : sem ≡ queue.receive
  pub few : nodes ports < 100

pub is_put : (ticket : PortTicket) (message sem : ℕ) (p : PortTable) → Put sem ≡ (sent ticket message p).0 → IsPut ticket sem p.ports
is_put ticket message sem p h = by_stale (is_stale ticket p.ports) h
  where
    q : ℕ
    q = ticket.port

    by_full : (queue : PortQueue) → (port_at p.ports q).queue ≡ Some queue → (b : Bool) → nat_le most_nodes (nodes p.ports) ≡ b
        → Put sem ≡ (cond {A = Sent × PortTable} b (Full, p) (Put queue.receive, with_last (Some queue) q message p)).0 → IsPut ticket sem p.ports
    by_full queue e true f h = absurd (cc)
    by_full queue e false f h = (let n = leb-false most_nodes (nodes p.ports) f in record { queue = queue; used = e; is = cc; few = omega (arith, n) })

    by_queue : (o : Option PortQueue) → (port_at p.ports q).queue ≡ o → Put sem ≡ (table.sent_to o q message p).0 → IsPut ticket sem p.ports
    by_queue None e h = absurd (cc)
    by_queue (Some queue) e h = by_full queue e (nat_le most_nodes (nodes p.ports)) refl h

    by_stale : (b : Bool) → Put sem ≡ (table.sent_to (cond b None (port_at p.ports q).queue) q message p).0 → IsPut ticket sem p.ports
    by_stale true h = absurd (cc)
    by_stale false h = by_queue (port_at p.ports q).queue refl h

-- So the receivers of a message that was put can be signalled.
pub receivers_used : (t : Tables) (ports : List MessagePort) (ticket : PortTicket) (sem : ℕ) → HaveRoom t ports → IsPut ticket sem ports
    → IsOfPart (semaphore_at t sem).owner
receivers_used t ports ticket sem k p = subst (λ s. IsOfPart (semaphore_at t s).owner) (sym p.is) (k.each ticket.port p.queue p.used).receivers

pub receivers_below : (t : Tables) (ports : List MessagePort) (ticket : PortTicket) (sem : ℕ) → HaveRoom t ports → IsPut ticket sem ports
    → int_lt (count_of (semaphore_at t sem)) most_tokens ≡ true
receivers_below t ports ticket sem k p =
    let h = (k.each ticket.port p.queue p.used).messages in
    let n = one_of_nodes ports ticket.port p.queue p.used in
    let f = p.few in
    let e = ap (λ s. (semaphore_at t s).tokens) p.is in
    few_tokens (semaphore_at t sem) 100 (omega (arith, h, n, f, e)) (omega arith)

-- Of a message that was received: the port's queue, which had it.
pub record IsTaken (ticket : PortTicket) (r : Received) (ports : List MessagePort) : Type 0 where
  pub queue : PortQueue
  pub used : (port_at ports ticket.port).queue ≡ Some queue
  pub is : r.send ≡ queue.send
  pub some : 1 ≤ length queue.messages

pub is_taken : (ticket : PortTicket) (r : Received) (p : PortTable) → Some r ≡ (received ticket p).0 → IsTaken ticket r p.ports
is_taken ticket r p h = by_stale (is_stale ticket p.ports) h
  where
    q : ℕ
    q = ticket.port

    by_messages : (queue : PortQueue) → (port_at p.ports q).queue ≡ Some queue → (l : List ℕ) → queue.messages ≡ l
        → Some r ≡ (table.taken l queue q p).0 → IsTaken ticket r p.ports
    by_messages queue e [] f h = absurd (cc)
    by_messages queue e (message ∷ l) f h = (
        let n = ap length f in
        let same : r ≡ record { message = message; send = queue.send } = cc in
        record { queue = queue; used = e; is = ap (λ (x : Received). x.send) same; some = omega (arith, n) })

    by_queue : (o : Option PortQueue) → (port_at p.ports q).queue ≡ o → Some r ≡ (received_from o q p).0 → IsTaken ticket r p.ports
    by_queue None e h = absurd (cc)
    by_queue (Some queue) e h = by_messages queue e queue.messages refl h

    by_stale : (b : Bool) → Some r ≡ (received_from (cond b None (port_at p.ports q).queue) q p).0 → IsTaken ticket r p.ports
    by_stale true h = absurd (cc)
    by_stale false h = by_queue (port_at p.ports q).queue refl h

-- So the senders to its port can be signalled, if the first count is a signed number.
pub senders_used : (t : Tables) (ports : List MessagePort) (ticket : PortTicket) (r : Received) → HaveRoom t ports → IsTaken ticket r ports
    → IsOfPart (semaphore_at t r.send).owner
senders_used t ports ticket r k p = subst (λ s. IsOfPart (semaphore_at t s).owner) (sym p.is) (k.each ticket.port p.queue p.used).senders

pub senders_below : (t : Tables) (ports : List MessagePort) (ticket : PortTicket) (r : Received) → HaveRoom t ports → (p : IsTaken ticket r ports)
    → p.queue.first_count ≤ 2147483647 → int_lt (count_of (semaphore_at t r.send)) most_tokens ≡ true
senders_below t ports ticket r k p fits =
    let h = (k.each ticket.port p.queue p.used).room in
    let n = p.some in
    let e = ap (λ s. (semaphore_at t s).tokens) p.is in
    few_tokens (semaphore_at t r.send) 2147483647 (omega (arith, h, n, e, fits)) (omega arith)

-- the port that a word names
pub port_named : (q word : ℕ) → Some q ≡ cond (nat_lt word 30) (Some word) None → q ≡ word
port_named q word h = by_test (nat_lt word 30) h
  where
    by_test : (b : Bool) → Some q ≡ cond b (Some word) None → q ≡ word
    by_test true h = cc
    by_test false h = absurd (cc)

-- Of a sender's ticket: the queue of its port.
pub record IsSender (s : Xinu) (q : ℕ) (ticket : PortTicket) : Type 0 where
  pub queue : PortQueue
  pub used : (port_at s.parts.ports q).queue ≡ Some queue
  pub is : ticket ≡ ticket_of q queue.send s

pub is_sender : (s : Xinu) (q : ℕ) (ticket : PortTicket) → Some ticket ≡ ticket_to q (port_at s.parts.ports q).seq (port_at s.parts.ports q).queue
    → IsSender s q ticket
is_sender s q ticket h = by_queue (port_at s.parts.ports q).queue refl h
  where
    by_queue : (o : Option PortQueue) → (port_at s.parts.ports q).queue ≡ o → Some ticket ≡ ticket_to q (port_at s.parts.ports q).seq o → IsSender s q ticket
    by_queue None e h = absurd (cc)
    by_queue (Some queue) e h = record { queue = queue; used = e; is = cc }

-- The same of a receiver's.
pub record IsReceiver (s : Xinu) (q : ℕ) (ticket : PortTicket) : Type 0 where
  pub queue : PortQueue
  pub used : (port_at s.parts.ports q).queue ≡ Some queue
  pub is : ticket ≡ ticket_of q queue.receive s

pub is_receiver : (s : Xinu) (q : ℕ) (ticket : PortTicket) → Some ticket ≡ ticket_from q (port_at s.parts.ports q).seq (port_at s.parts.ports q).queue
    → IsReceiver s q ticket
is_receiver s q ticket h = by_queue (port_at s.parts.ports q).queue refl h
  where
    by_queue : (o : Option PortQueue) → (port_at s.parts.ports q).queue ≡ o → Some ticket ≡ ticket_from q (port_at s.parts.ports q).seq o → IsReceiver s q ticket
    by_queue None e h = absurd (cc)
    by_queue (Some queue) e h = record { queue = queue; used = e; is = cc }

-- So each may wait on the semaphore of its ticket.
pub sender_fits : (s : Xinu) (q message : ℕ) (ticket : PortTicket) → ArePorts s.tables s.parts.ports → IsSender s q ticket
    → FitsOwner ticket.sem (semaphore_at s.tables ticket.sem).owner (PtSend ticket message)
sender_fits s q message ticket a i =
    let k = a.each q i.queue i.used in
    let F : PortTicket → Type 0 = λ x. FitsOwner x.sem (semaphore_at s.tables x.sem).owner (PtSend x message) in
    let y = ticket_of q i.queue.send s in
    subst F (sym i.is) (subst (λ o. FitsOwner y.sem o (PtSend y message)) (sym k.send_owner) (refl, refl))

pub receiver_fits : (s : Xinu) (q : ℕ) (ticket : PortTicket) → ArePorts s.tables s.parts.ports → IsReceiver s q ticket
    → FitsOwner ticket.sem (semaphore_at s.tables ticket.sem).owner (PtRecv ticket)
receiver_fits s q ticket a i =
    let k = a.each q i.queue i.used in
    let F : PortTicket → Type 0 = λ x. FitsOwner x.sem (semaphore_at s.tables x.sem).owner (PtRecv x) in
    let y = ticket_of q i.queue.receive s in
    subst F (sym i.is) (subst (λ o. FitsOwner y.sem o (PtRecv y)) (sym k.receive_owner) (refl, refl))

-- a token is taken of some
pub token_taken : (n sem : ℕ) (rest : Rest) (then_ : Xinu → CallResult) (s : Xinu) → true ≡ nat_lt 0 n
    → then_ (record s { tables = with_tokens sem (n - 1) s.tables }) ≡ take_token n sem rest then_ s
token_taken zero sem rest then_ s h = absurd (cc)
token_taken (suc n) sem rest then_ s h =
    let e : suc n - 1 ≡ n = omega arith in ap (λ m. then_ (record s { tables = with_tokens sem m s.tables })) e

-- call 34 waits for room
send_awaits : (s : Xinu) (q message : ℕ) (ticket : PortTicket) → IsSender s q ticket
    → take_token (semaphore_at s.tables ticket.sem).tokens ticket.sem (PtSend ticket message) (finish_send ticket message) s ≡ ptsend q message s
send_awaits s q message ticket i =
    let T : PortTicket → CallResult = λ x. take_token (semaphore_at s.tables x.sem).tokens x.sem (PtSend x message) (finish_send x message) s in
    ap T i.is ∙ sym (ap (λ o. sent_to o q message s) i.used)

-- If there is a token the caller takes it and goes on.
pub send_takes : (s : Xinu) (q word message : ℕ) (ticket : PortTicket) (u : Tables) → q ≡ word → IsSender s q ticket
    → true ≡ nat_lt 0 (semaphore_at s.tables ticket.sem).tokens → u ≡ with_tokens ticket.sem ((semaphore_at s.tables ticket.sem).tokens - 1) s.tables
    → finish_send ticket message (record s { tables = u }) ≡ ptsend word message s
send_takes s q word message ticket u named i some is =
    ap (λ u. finish_send ticket message (record s { tables = u })) is
    ∙ token_taken (semaphore_at s.tables ticket.sem).tokens ticket.sem (PtSend ticket message) (finish_send ticket message) s some
    ∙ send_awaits s q message ticket i ∙ ap (λ w. ptsend w message s) named

-- call 35 waits for a message
receive_awaits : (s : Xinu) (q : ℕ) (ticket : PortTicket) → IsReceiver s q ticket
    → take_token (semaphore_at s.tables ticket.sem).tokens ticket.sem (PtRecv ticket) (finish_receive ticket) s ≡ ptrecv q s
receive_awaits s q ticket i =
    let T : PortTicket → CallResult = λ x. take_token (semaphore_at s.tables x.sem).tokens x.sem (PtRecv x) (finish_receive x) s in
    ap T i.is ∙ sym (ap (λ o. model.received_from o q s) i.used)

-- If there is a token the caller takes it and goes on.
pub receive_takes : (s : Xinu) (q word : ℕ) (ticket : PortTicket) (u : Tables) → q ≡ word → IsReceiver s q ticket
    → true ≡ nat_lt 0 (semaphore_at s.tables ticket.sem).tokens → u ≡ with_tokens ticket.sem ((semaphore_at s.tables ticket.sem).tokens - 1) s.tables
    → finish_receive ticket (record s { tables = u }) ≡ ptrecv word s
receive_takes s q word ticket u named i some is =
    ap (λ u. finish_receive ticket (record s { tables = u })) is
    ∙ token_taken (semaphore_at s.tables ticket.sem).tokens ticket.sem (PtRecv ticket) (finish_receive ticket) s some
    ∙ receive_awaits s q ticket i ∙ ap (λ w. ptrecv w s) named

-- what comes of a message that was received, and the ports as they are then
abbrev pub taken_from_port : Xinu → Received → PortTable → CallResult
taken_from_port s r p =
    returns (signalled r.send (start (record s { parts = record s.parts { ports = p.ports; next_port = p.next_port } }))) (signed r.message)

-- the table of the ports of a state
abbrev pub table_of : Xinu → PortTable
table_of s = record { ports = s.parts.ports; next_port = s.parts.next_port }

-- A message that the table gave is what call 35 takes.
pub message_taken : (s : Xinu) (ticket : PortTicket) (r : Received) (p : PortTable)
    → Some r ≡ (received ticket (table_of s)).0 → p ≡ (received ticket (table_of s)).1 → taken_from_port s r p ≡ finish_receive ticket s
message_taken s ticket r p = by_stale (is_stale ticket s.parts.ports)
  where
    q : ℕ
    q = ticket.port

    by_messages : (queue : PortQueue) (l : List ℕ) → Some r ≡ (table.taken l queue q (table_of s)).0 → p ≡ (table.taken l queue q (table_of s)).1
        → taken_from_port s r p ≡ take_message l queue q s
    by_messages queue [] h g = absurd (cc)
    by_messages queue (message ∷ l) h g =
        let same : r ≡ record { message = message; send = queue.send } = cc in
        ap (λ x. taken_from_port s x p) same ∙ ap (taken_from_port s (record { message = message; send = queue.send })) g

    by_queue : (o : Option PortQueue) → Some r ≡ (received_from o q (table_of s)).0 → p ≡ (received_from o q (table_of s)).1
        → taken_from_port s r p ≡ take_from o q s
    by_queue None h g = absurd (cc)
    by_queue (Some queue) h g = by_messages queue queue.messages h g

    by_stale : (b : Bool) → Some r ≡ (received_from (cond b None (port_at s.parts.ports q).queue) q (table_of s)).0
        → p ≡ (received_from (cond b None (port_at s.parts.ports q).queue) q (table_of s)).1
        → taken_from_port s r p ≡ cond b (refused s) (take_from (port_at s.parts.ports q).queue q s)
    by_stale true h g = absurd (cc)
    by_stale false h g = by_queue (port_at s.parts.ports q).queue h g
