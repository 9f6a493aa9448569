-- A caller that has its token goes on, or waits for one: what holds of tables and ports is kept, and the rest is left alone.
use Rattle.std.proofs.Common.{◌≡◌, ℕ, zero, suc, ◌<◌, ◌==◌, Bool, true, false, not, cond, List, [], ◌∷◌, ◌++◌, length, Option, None, Some, refl, sym, ap, subst, ◌∙◌, arith, ℤ, pos}
use Rattle.std.specs.Prelude.{nat_le}
use Rattle.std.proofs.lemmas.Bool.{and_from, cond_both, eq-eqb}
use Rattle.xinu_base.specs.declared.processes.PortTicket.{PortTicket}
use Rattle.xinu_base.specs.declared.processes.Rest.{Rest}
use Rattle.xinu_base.specs.declared.processes.Rest.TheVariants.{PtSend, PtRecv}
use Rattle.xinu_base.specs.declared.processes.State.TheVariants.{Waiting}
use Rattle.xinu_base.specs.declared.semaphores.Owner.TheVariants as owner
use Rattle.xinu_model.specs.Machine.{Xinu, CallState, CallResult, Panics, start, refused, returns, goes_on}
use Rattle.xinu_model.specs.Messages.{held}
use Rattle.xinu_model.specs.Ports.Queues.{PortQueue, most_nodes, port_at, nodes, is_stale}
use Rattle.xinu_model.specs.Ports.Calls.{with_messages, put_message, finish_send, take_message, take_from, finish_receive, ticket_of, sent_to, received_from, ptsend, ptrecv, go_on_ptsend, go_on_ptrecv}
use Rattle.xinu_model.specs.Semaphores.Counts.{with_tokens}
use Rattle.xinu_model.specs.Semaphores.Waiting.{signalled, take_token}
use Rattle.xinu_model.specs.Sound.Tables.{FitsOwner, IsForPort, IsSoundTables}
use Rattle.xinu_model.specs.Sound.Pools.{is_waiting}
use Rattle.xinu_model.specs.Sound.Ports.{is_ticket_of, sends_to, receives_from, is_released_sender, is_released_receiver, IsSoundPort, ArePorts}
use Rattle.xinu_model.specs.Tables.{Tables, process_at, message_at, semaphore_at, InSemaphore}
use Rattle.xinu_model.specs.Words.{signed}
use Rattle.table_laws.proofs.Tables.Changes.{sound_token_taken}
use Rattle.table_laws.specs.Preserve.{AreAlive, MayCall}
use Rattle.table_laws.proofs.Preserve.{current_within, blocked_preserves, goes_on_may_call, tables_may_call, waits_hold}
use Rattle.xinu_laws.proofs.Preserve.Semaphores.{harts_signalled}
use Rattle.table_laws.proofs.Tables.MoveTo.{semaphore_within}
use Rattle.table_laws.proofs.Tables.Unblock.{sound_signalled}
use Rattle.xinu_laws.proofs.Ports.Finish.{WhereFresh, put_kept, take_first_kept, fresh_seq}
use Rattle.xinu_laws.proofs.Ports.Made.{PreservesPorts, refused_on_ports}
use Rattle.xinu_laws.proofs.Ports.Messages.{ports_take_room, ports_take_turn, ports_go_on, room_go_on, message_go_on}
use Rattle.xinu_laws.proofs.Ports.Signals.{HasPorts, HasMessage, HasRoom}
use Rattle.xinu_laws.proofs.Ports.Waits.{IsCallOn, ports_wait, sender_call, receiver_call}
use Rattle.table_laws.proofs.Tables.Alive.{alive_signalled}
use Rattle.table_laws.proofs.Tables.Harts.{harts_same}
use Rattle.xinu_model.specs.Sound.State.{AreHarts}

-- a semaphore of a port is in the table
owned_within : (q sem : ℕ) (t : Tables) → IsSoundTables t → (semaphore_at t sem).owner ≡ Some (owner.Port q) → sem < 128
owned_within q sem t k e = semaphore_within t sem k.inside.semaphores (λ f. cc)

-- A signal on a semaphore of a port, which keeps what holds of the ports.
signal_on_ports : (q sem : ℕ) (value : ℤ) (d : CallState) → IsSoundTables d.state.tables → AreHarts d.state.harts
    → AreAlive d.state.tables d.released → (semaphore_at d.state.tables sem).owner ≡ Some (owner.Port q) → HasPorts (signalled sem d)
    → PreservesPorts (returns (signalled sem d) value)
signal_on_ports q sem value d k harts alive e a = record {
  preserved = record { tables = sound_signalled sem d k (owned_within q sem d.state.tables k e) (λ f. cc); harts = harts_same d.state.harts _ (harts_signalled sem d) harts; released = alive_signalled sem d k.inside alive };
  ports = a;
}

-- a sender puts its message, if the port is in use and has a node
put_on_ports : (found : Option PortQueue) (q message : ℕ) (s : Xinu) → MayCall s → ArePorts s.tables s.parts.ports
    → (port_at s.parts.ports q).queue ≡ found
    → ((queue : PortQueue) → found ≡ Some queue → HasRoom s.tables q (port_at s.parts.ports q).seq queue)
    → PreservesPorts (put_message found q message s)
put_on_ports None q message s c a here r = refused_on_ports s c a
put_on_ports (Some queue) q message s c a here r =
    let ports = put_kept (Some queue) q message s here c.tables.inside r a in
    let d = with_messages q queue (queue.messages ++ message ∷ []) (start s) in
    go (nat_le most_nodes (nodes s.parts.ports)) ports
  where
    go : (full : Bool)
        → HasPorts (cond full (record { call = start s; answer = Panics }) (returns (signalled queue.receive (with_messages q queue (queue.messages ++ message ∷ []) (start s))) (pos 0))).call
        → PreservesPorts (cond full (record { call = start s; answer = Panics }) (returns (signalled queue.receive (with_messages q queue (queue.messages ++ message ∷ []) (start s))) (pos 0)))
    go true p = record { preserved = record { tables = c.tables; harts = c.harts; released = tt }; ports = a }
    go false p =
        let w = signal_on_ports q queue.receive (pos 0)
        (with_messages q queue (queue.messages ++ message ∷ []) (start s)) c.tables c.harts tt (a.each q queue here).receive_owner p in
        record { preserved = w.preserved; ports = w.ports }

-- A sender that has its token goes on.
pub finish_send_on_ports : (ticket : PortTicket) (message : ℕ) (s : Xinu) → MayCall s → ArePorts s.tables s.parts.ports
    → WhereFresh ticket s.parts.ports (HasRoom s.tables ticket.port ticket.seq) → PreservesPorts (finish_send ticket message s)
finish_send_on_ports ticket message s c a r =
    let found = (port_at s.parts.ports ticket.port).queue in
    cond_both (is_stale ticket s.parts.ports) (refused s) (put_message found ticket.port message s) PreservesPorts
    (λ _. refused_on_ports s c a)
    (λ b. let e = fresh_seq ticket s.parts.ports b in
    put_on_ports found ticket.port message s c a refl (λ queue f. subst (λ n. HasRoom s.tables ticket.port n queue) (sym e) (r queue f e)))

-- a receiver takes the first of these messages
take_first_on_ports : (messages : List ℕ) (queue : PortQueue) (q : ℕ) (s : Xinu) → MayCall s → ArePorts s.tables s.parts.ports
    → (port_at s.parts.ports q).queue ≡ Some queue → queue.messages ≡ messages → HasMessage s.tables q (port_at s.parts.ports q).seq queue
    → PreservesPorts (take_message messages queue q s)
take_first_on_ports [] queue q s c a here e r = refused_on_ports s c a
take_first_on_ports (message ∷ messages) queue q s c a here e r =
    let w = signal_on_ports q queue.send (signed message) (with_messages q queue messages (start s)) c.tables c.harts tt
    (a.each q queue here).send_owner
    (take_first_kept (message ∷ messages) queue q s here e c.tables.inside r a) in
    record { preserved = w.preserved; ports = w.ports }

-- if the port is in use
take_on_ports : (found : Option PortQueue) (q : ℕ) (s : Xinu) → MayCall s → ArePorts s.tables s.parts.ports
    → (port_at s.parts.ports q).queue ≡ found
    → ((queue : PortQueue) → found ≡ Some queue → HasMessage s.tables q (port_at s.parts.ports q).seq queue)
    → PreservesPorts (take_from found q s)
take_on_ports None q s c a here r = refused_on_ports s c a
take_on_ports (Some queue) q s c a here r = take_first_on_ports queue.messages queue q s c a here refl (r queue refl)

-- A receiver that has its token goes on.
pub finish_receive_on_ports : (ticket : PortTicket) (s : Xinu) → MayCall s → ArePorts s.tables s.parts.ports
    → WhereFresh ticket s.parts.ports (HasMessage s.tables ticket.port ticket.seq) → PreservesPorts (finish_receive ticket s)
finish_receive_on_ports ticket s c a r =
    let found = (port_at s.parts.ports ticket.port).queue in
    cond_both (is_stale ticket s.parts.ports) (refused s) (take_from found ticket.port s) PreservesPorts
    (λ _. refused_on_ports s c a)
    (λ b. let e = fresh_seq ticket s.parts.ports b in
    take_on_ports found ticket.port s c a refl (λ queue f. subst (λ n. HasMessage s.tables ticket.port n queue) (sym e) (r queue f e)))

-- a caller takes one of these tokens of its port, or waits with this left of its call
take_on_port : (tokens q sem : ℕ) (queue : PortQueue) (left : Rest) (then_ : Xinu → CallResult) (s : Xinu) → MayCall s
    → ArePorts s.tables s.parts.ports → (port_at s.parts.ports q).queue ≡ Some queue → tokens ≡ (semaphore_at s.tables sem).tokens
    → (semaphore_at s.tables sem).owner ≡ Some (owner.Port q) → IsForPort q sem left → IsCallOn s.parts.ports q queue sem left
    → ((n : ℕ) → (semaphore_at s.tables sem).tokens ≡ suc n → MayCall (record s { tables = with_tokens sem n s.tables }) → PreservesPorts (then_ (record s { tables = with_tokens sem n s.tables })))
    → PreservesPorts (take_token tokens sem left then_ s)
take_on_port zero q sem queue left then_ s c a here e o fits call go =
    let t = s.tables in
    let w = owned_within q sem t c.tables o in
    record {
      preserved = blocked_preserves Waiting left (InSemaphore sem) s c (λ f. cc) (refl, refl, refl) (w, sym e, subst (λ v. FitsOwner sem v left) (sym o) fits) (waits_hold sem (Some (owner.Port q)) left (message_at t t.current) fits);
      ports = ports_wait q queue sem left t.current (message_at t t.current) t s.parts.ports c.tables.inside (current_within t c.tables) here o call a;
    }
take_on_port (suc n) q sem queue left then_ s c a here e o fits call go =
    (go n (sym e) (tables_may_call s (with_tokens sem n s.tables) c
    (sound_token_taken s.tables sem n c.tables (owned_within q sem s.tables c.tables o) (sym e)) refl))

-- a message for a port that is in use or not
sent_on_ports : (found : Option PortQueue) (q message : ℕ) (s : Xinu) → MayCall s → ArePorts s.tables s.parts.ports
    → (port_at s.parts.ports q).queue ≡ found → PreservesPorts (sent_to found q message s)
sent_on_ports None q message s c a here = refused_on_ports s c a
sent_on_ports (Some queue) q message s c a here =
    let i = a.each q queue here in
    let ticket = ticket_of q queue.send s in
    take_on_port (semaphore_at s.tables queue.send).tokens q queue.send queue (PtSend ticket message)
    (finish_send ticket message) s c a here refl i.send_owner (refl, refl)
    (sender_call q queue message s.parts.ports i.differ)
    (λ n e k. let u = record s { tables = with_tokens queue.send n s.tables } in
    let r = ports_take_room q queue n s.tables s.parts.ports c.tables.inside here e a in
    finish_send_on_ports ticket message u k r.0
    (λ other f g. subst (HasRoom u.tables q (port_at s.parts.ports q).seq)
    (let h : Some queue ≡ Some other = sym here ∙ f in let v : queue ≡ other = cc in v) r.1))

-- Call 34.
pub ptsend_on_ports : (q message : ℕ) (s : Xinu) → MayCall s → ArePorts s.tables s.parts.ports → PreservesPorts (ptsend q message s)
ptsend_on_ports q message s c a = sent_on_ports (port_at s.parts.ports q).queue q message s c a refl

-- a message of a port that is in use or not
received_on_ports : (found : Option PortQueue) (q : ℕ) (s : Xinu) → MayCall s → ArePorts s.tables s.parts.ports
    → (port_at s.parts.ports q).queue ≡ found → PreservesPorts (received_from found q s)
received_on_ports None q s c a here = refused_on_ports s c a
received_on_ports (Some queue) q s c a here =
    let i = a.each q queue here in
    let ticket = ticket_of q queue.receive s in
    take_on_port (semaphore_at s.tables queue.receive).tokens q queue.receive queue (PtRecv ticket)
    (finish_receive ticket) s c a here refl i.receive_owner (refl, refl)
    (receiver_call q queue s.parts.ports i.differ)
    (λ n e k. let u = record s { tables = with_tokens queue.receive n s.tables } in
    let r = ports_take_turn q queue n s.tables s.parts.ports c.tables.inside here e a in
    finish_receive_on_ports ticket u k r.0
    (λ other f g. subst (HasMessage u.tables q (port_at s.parts.ports q).seq)
    (let h : Some queue ≡ Some other = sym here ∙ f in let v : queue ≡ other = cc in v) r.1))

-- Call 35.
pub ptrecv_on_ports : (q : ℕ) (s : Xinu) → MayCall s → ArePorts s.tables s.parts.ports → PreservesPorts (ptrecv q s)
ptrecv_on_ports q s c a = received_on_ports (port_at s.parts.ports q).queue q s c a refl

-- a ticket is one of its port, as it was
pub own_ticket : (ticket : PortTicket) → is_ticket_of ticket.port ticket.seq ticket ≡ true
own_ticket ticket =
    and_from (ticket.port == ticket.port) (ticket.seq == ticket.seq) (eq-eqb ticket.port ticket.port refl)
    (eq-eqb ticket.seq ticket.seq refl)

-- A sender goes on that waited.
pub go_on_ptsend_on_ports : (ticket : PortTicket) (message : ℕ) (s : Xinu) → MayCall s → ArePorts s.tables s.parts.ports
    → (process_at s.tables s.tables.current).rest ≡ PtSend ticket message → PreservesPorts (go_on_ptsend ticket message s)
go_on_ptsend_on_ports ticket message s c a e =
    let t = s.tables in
    let u = goes_on (held s) s in
    let x = process_at t t.current in
    let w : t.current < length t.processes = (let f = current_within t c.tables in let g = c.tables.inside.processes in omega arith) in
    let released : is_released_sender ticket.port ticket.seq x ≡ true = and_from (not (is_waiting x.state))
    (sends_to ticket.port ticket.seq x.rest)
    (ap (λ v. not (is_waiting v)) c.tables.runs) (ap (sends_to ticket.port ticket.seq) e ∙ own_ticket ticket) in
    (finish_send_on_ports ticket message u (goes_on_may_call (held s) s c) (ports_go_on t.current (held s) t s.parts.ports w a)
    (λ queue f g. room_go_on ticket.port ticket.seq t.current queue (held s) t w released
    (subst (λ n. IsSoundPort t ticket.port n queue) g (a.each ticket.port queue f))))

-- A receiver goes on that waited.
pub go_on_ptrecv_on_ports : (ticket : PortTicket) (s : Xinu) → MayCall s → ArePorts s.tables s.parts.ports
    → (process_at s.tables s.tables.current).rest ≡ PtRecv ticket → PreservesPorts (go_on_ptrecv ticket s)
go_on_ptrecv_on_ports ticket s c a e =
    let t = s.tables in
    let u = goes_on (held s) s in
    let x = process_at t t.current in
    let w : t.current < length t.processes = (let f = current_within t c.tables in let g = c.tables.inside.processes in omega arith) in
    let released : is_released_receiver ticket.port ticket.seq x ≡ true = and_from (not (is_waiting x.state))
    (receives_from ticket.port ticket.seq x.rest)
    (ap (λ v. not (is_waiting v)) c.tables.runs) (ap (receives_from ticket.port ticket.seq) e ∙ own_ticket ticket) in
    (finish_receive_on_ports ticket u (goes_on_may_call (held s) s c) (ports_go_on t.current (held s) t s.parts.ports w a)
    (λ queue f g. message_go_on ticket.port ticket.seq t.current queue (held s) t w released
    (subst (λ n. IsSoundPort t ticket.port n queue) g (a.each ticket.port queue f))))
