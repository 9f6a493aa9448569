-- A signal on a semaphore of a port keeps what holds of the ports, if there is a message or room for it.
use Rattle.std.proofs.Common.{◌≡◌, ◌≢◌, ℕ, suc, ◌+◌, ◌<◌, ◌≤◌, List, [], ◌∷◌, length, Option, Some, ⊎_elim, refl, sym, ap, subst, ◌∙◌, arith, get_or-set_same, get_or-set_other}
use Rattle.std.proofs.lemmas.Bool.{cases_eq, cond-false}
use Rattle.xinu_base.specs.declared.processes.PortTicket.{PortTicket}
use Rattle.xinu_base.specs.declared.processes.Rest.TheVariants.{PtSend, PtRecv}
use Rattle.xinu_base.specs.declared.processes.State.TheVariants.{Free, Ready}
use Rattle.xinu_base.specs.declared.semaphores.Owner.{Owner}
use Rattle.xinu_base.specs.declared.semaphores.Owner.TheVariants as owner
use Rattle.xinu_model.specs.Machine.{CallState}
use Rattle.xinu_model.specs.Process.Scheduling.{in_state, ready}
use Rattle.xinu_model.specs.Ports.Queues.{PortQueue, MessagePort, port_at}
use Rattle.xinu_model.specs.Semaphores.Counts.{with_tokens}
use Rattle.xinu_model.specs.Semaphores.Waiting.{signal_first, signalled}
use Rattle.xinu_model.specs.Sound.Tables.{times, count_in, waiting_places, FitsOwner, IsInside}
use Rattle.xinu_model.specs.Sound.Ports.{sends_to, receives_from, is_released_sender, is_released_receiver, IsSoundPort, ArePorts}
use Rattle.xinu_model.specs.Tables.{Semaphore, no_semaphore, Tables, process_at, state_at, message_at, semaphore_at}
use Rattle.table_laws.proofs.Lists.Counts.{first_is_counted, get_or-le-total}
use Rattle.table_laws.proofs.Tables.MoveTo.{within_table, semaphore_within}
use Rattle.xinu_laws.proofs.Ports.Kept.{KeepsPort, KeepsCounts, KeepsRests, HasCounts, counts_kept, ports_kept}
use Rattle.xinu_laws.proofs.Ports.Moves.{keeps_port_tokens, keeps_rests_semaphore, keeps_counts_semaphore, keeps_port_ready, keeps_rests_ready, keeps_counts_ready, left_for_ready, senders_ready, receivers_ready}
use Rattle.xinu_laws.proofs.Pools.Steps.{at_most_one}

-- what holds of the ports after a call
abbrev pub HasPorts : CallState → Type 0
HasPorts d = ArePorts d.state.tables d.state.parts.ports

-- If only port q is touched and its counts fit afterwards, what holds of the ports holds on.
pub ports_touched : (q : ℕ) (queue : PortQueue) (t u : Tables) (ports : List MessagePort) → ((r : ℕ) → KeepsPort r t u) → KeepsRests t u
    → ((r : ℕ) → q ≢ r → KeepsCounts r t u) → (port_at ports q).queue ≡ Some queue → HasCounts u q (port_at ports q).seq queue
    → ArePorts t ports → ArePorts u ports
ports_touched q queue t u ports k rests counts here c a = ports_kept t u ports k rests
    (λ r other e i. ⊎_elim
    (λ (f : q ≡ r). let g : queue ≡ other = (let h : (port_at ports r).queue ≡ Some queue = subst (λ v. (port_at ports v).queue ≡ Some queue) f here in cc) in
    subst (λ v. HasCounts u v (port_at ports v).seq other) f (subst (HasCounts u q (port_at ports q).seq) g c))
    (λ (n : q ≢ r). counts_kept r (port_at ports r).seq other t u (counts r n) i)
    (cases_eq q r)) a

-- two owners that are ports are one only if the ports are
pub other_owner : (q r : ℕ) (o : Option Owner) → q ≢ r → o ≡ Some (owner.Port q) → o ≢ Some (owner.Port r)
other_owner q r o n e f = n (let g : Some (owner.Port q) ≡ Some (owner.Port r) = sym e ∙ f in cc)

-- a semaphore of a port is in the table
pub port_semaphore_within : (q sem : ℕ) (t : Tables) → IsInside t → (semaphore_at t sem).owner ≡ Some (owner.Port q)
    → sem < length t.semaphores
port_semaphore_within q sem t o e =
    let m = o.semaphores in
    let w = semaphore_within t sem m (λ n. cc) in
    omega arith

-- who waits on a semaphore has a number of the table
pub waiter_within : (sem p : ℕ) (t : Tables) → IsInside t → 0 < count_in p (semaphore_at t sem).waiters → p < length t.processes
waiter_within sem p t o h =
    let m = o.processes in
    let w = o.waiting p in
    let c = get_or-le-total (λ (x : Semaphore). count_in p x.waiters) t.semaphores sem no_semaphore refl in
    let n : state_at t p ≢ Free = λ e. (let f = ap waiting_places e in absurd (omega arith)) in
    let k = within_table t p m n in
    omega arith

-- A token more, or fewer, at one of the semaphores of port q.
pub ports_tokens : (q : ℕ) (queue : PortQueue) (sem n : ℕ) (t : Tables) (ports : List MessagePort) → IsInside t
    → (semaphore_at t sem).owner ≡ Some (owner.Port q) → (port_at ports q).queue ≡ Some queue
    → HasCounts (with_tokens sem n t) q (port_at ports q).seq queue → ArePorts t ports → ArePorts (with_tokens sem n t) ports
ports_tokens q queue sem n t ports o e here c a = ports_touched q queue t (with_tokens sem n t) ports
    (λ r. keeps_port_tokens r t sem n (port_semaphore_within q sem t o e))
    (keeps_rests_semaphore t sem (record (semaphore_at t sem) { tokens = n }))
    (λ r k. keeps_counts_semaphore r t sem (record (semaphore_at t sem) { tokens = n })
    (other_owner q r (semaphore_at t sem).owner k e)) here c a

-- One who waits on a semaphore of port q wakes.
pub ports_ready : (q : ℕ) (queue : PortQueue) (sem p : ℕ) (t : Tables) (ports : List MessagePort) → IsInside t
    → (semaphore_at t sem).owner ≡ Some (owner.Port q) → 0 < count_in p (semaphore_at t sem).waiters → (port_at ports q).queue ≡ Some queue
    → HasCounts (ready p t) q (port_at ports q).seq queue → ArePorts t ports → ArePorts (ready p t) ports
ports_ready q queue sem p t ports o e h here c a =
    let i = waiter_within sem p t o h in
    let f : FitsOwner sem (Some (owner.Port q)) (process_at t p).rest = subst (λ k. FitsOwner sem k (process_at t p).rest) e
    (o.rests sem p h) in
    ports_touched q queue t (ready p t) ports (λ r. keeps_port_ready r p t) (keeps_rests_ready p t i)
    (λ r k. keeps_counts_ready q r sem p t i k f) here c a

-- a message of port q has no token and no released receiver
pub record HasMessage (t : Tables) (q seq : ℕ) (queue : PortQueue) : Type 0 where
  pub messages : suc ((semaphore_at t queue.receive).tokens + times (is_released_receiver q seq) t.processes) ≤ length queue.messages

-- port q has room without a token, a message or a released sender
pub record HasRoom (t : Tables) (q seq : ℕ) (queue : PortQueue) : Type 0 where
  pub room : suc ((semaphore_at t queue.send).tokens + length queue.messages + times (is_released_sender q seq) t.processes) ≤ queue.first_count

-- a semaphore keeps its tokens when a process wakes
tokens_ready : (sem p : ℕ) (t : Tables) → (semaphore_at (ready p t) sem).tokens ≡ (semaphore_at t sem).tokens
tokens_ready sem p t = ap (λ (x : Semaphore). x.tokens) (left_for_ready t p (in_state Ready (process_at t p)) (message_at t p) sem)

-- The counts fit after a receiver wakes for which there is a message,
counts_ready_receiver : (q seq p : ℕ) (ticket : PortTicket) (queue : PortQueue) (t : Tables) → p < length t.processes
    → (process_at t p).rest ≡ PtRecv ticket → HasMessage t q seq queue → IsSoundPort t q seq queue → HasCounts (ready p t) q seq queue
counts_ready_receiver q seq p ticket queue t j r m i =
    let g = m.messages in
    let h = i.room in
    let b = cond-false {A = ℕ} (sends_to q seq (process_at t p).rest) 1 0 (ap (sends_to q seq) r) in
    let c = at_most_one (receives_from q seq (process_at t p).rest) in
    let x = senders_ready q seq p t j in
    let y = receivers_ready q seq p t j in
    let e = tokens_ready queue.send p t in
    let f = tokens_ready queue.receive p t in
    record { messages = omega arith; room = omega arith }

-- and after a sender wakes for which there is room.
counts_ready_sender : (q seq p : ℕ) (ticket : PortTicket) (message : ℕ) (queue : PortQueue) (t : Tables) → p < length t.processes
    → (process_at t p).rest ≡ PtSend ticket message → HasRoom t q seq queue → IsSoundPort t q seq queue → HasCounts (ready p t) q seq queue
counts_ready_sender q seq p ticket message queue t j r m i =
    let g = m.room in
    let h = i.messages in
    let b = cond-false {A = ℕ} (receives_from q seq (process_at t p).rest) 1 0 (ap (receives_from q seq) r) in
    let c = at_most_one (sends_to q seq (process_at t p).rest) in
    let x = senders_ready q seq p t j in
    let y = receivers_ready q seq p t j in
    let e = tokens_ready queue.send p t in
    let f = tokens_ready queue.receive p t in
    record { messages = omega arith; room = omega arith }

-- a signal on the semaphore of the messages, if these wait
signal_receive : (q : ℕ) (queue : PortQueue) (waiters : List ℕ) (d : CallState) → IsInside d.state.tables
    → waiters ≡ (semaphore_at d.state.tables queue.receive).waiters → (port_at d.state.parts.ports q).queue ≡ Some queue
    → HasMessage d.state.tables q (port_at d.state.parts.ports q).seq queue → HasPorts d → HasPorts (signal_first queue.receive waiters d)
signal_receive q queue [] d o w here m a =
    let t = d.state.tables in
    let i = a.each q queue here in
    let n = (semaphore_at t queue.receive).tokens + 1 in
    let y : Semaphore = record (semaphore_at t queue.receive) { tokens = n } in
    let e = ap (λ (x : Semaphore). x.tokens)
    (get_or-set_same t.semaphores queue.receive y no_semaphore (port_semaphore_within q queue.receive t o i.receive_owner)) in
    let f = ap (λ (x : Semaphore). x.tokens) (get_or-set_other t.semaphores queue.receive queue.send y no_semaphore i.differ) in
    let g = m.messages in
    let h = i.room in
    ports_tokens q queue queue.receive n t d.state.parts.ports o i.receive_owner here (record { messages = omega arith; room = omega arith }) a
signal_receive q queue (p ∷ ps) d o w here m a =
    let t = d.state.tables in
    let i = a.each q queue here in
    let c : 0 < count_in p (semaphore_at t queue.receive).waiters = subst (λ l. 0 < count_in p l) w (first_is_counted p ps) in
    ports_ready q queue queue.receive p t d.state.parts.ports o i.receive_owner c here
    (counts_ready_receiver q (port_at d.state.parts.ports q).seq p _ queue t (waiter_within queue.receive p t o c) (i.receivers p c) m i) a

-- the same on the semaphore of the room
signal_send : (q : ℕ) (queue : PortQueue) (waiters : List ℕ) (d : CallState) → IsInside d.state.tables
    → waiters ≡ (semaphore_at d.state.tables queue.send).waiters → (port_at d.state.parts.ports q).queue ≡ Some queue
    → HasRoom d.state.tables q (port_at d.state.parts.ports q).seq queue → HasPorts d → HasPorts (signal_first queue.send waiters d)
signal_send q queue [] d o w here m a =
    let t = d.state.tables in
    let i = a.each q queue here in
    let n = (semaphore_at t queue.send).tokens + 1 in
    let y : Semaphore = record (semaphore_at t queue.send) { tokens = n } in
    let e = ap (λ (x : Semaphore). x.tokens)
    (get_or-set_same t.semaphores queue.send y no_semaphore (port_semaphore_within q queue.send t o i.send_owner)) in
    let f = ap (λ (x : Semaphore). x.tokens)
    (get_or-set_other t.semaphores queue.send queue.receive y no_semaphore (λ k. i.differ (sym k))) in
    let g = m.room in
    let h = i.messages in
    ports_tokens q queue queue.send n t d.state.parts.ports o i.send_owner here (record { messages = omega arith; room = omega arith }) a
signal_send q queue (p ∷ ps) d o w here m a =
    let t = d.state.tables in
    let i = a.each q queue here in
    let c : 0 < count_in p (semaphore_at t queue.send).waiters = subst (λ l. 0 < count_in p l) w (first_is_counted p ps) in
    let r = i.senders p c in
    ports_ready q queue queue.send p t d.state.parts.ports o i.send_owner c here
    (counts_ready_sender q (port_at d.state.parts.ports q).seq p _ r.0 queue t (waiter_within queue.send p t o c) r.1 m i) a

-- A signal on the semaphore of the messages, if there is one without a token,
pub ports_signal_receive : (q : ℕ) (queue : PortQueue) (d : CallState) → IsInside d.state.tables
    → (port_at d.state.parts.ports q).queue ≡ Some queue → HasMessage d.state.tables q (port_at d.state.parts.ports q).seq queue
    → HasPorts d → HasPorts (signalled queue.receive d)
ports_signal_receive q queue d o here m a = signal_receive q queue (semaphore_at d.state.tables queue.receive).waiters d o refl here m a

-- and on the semaphore of the room, if there is some without a token.
pub ports_signal_send : (q : ℕ) (queue : PortQueue) (d : CallState) → IsInside d.state.tables
    → (port_at d.state.parts.ports q).queue ≡ Some queue → HasRoom d.state.tables q (port_at d.state.parts.ports q).seq queue → HasPorts d
    → HasPorts (signalled queue.send d)
ports_signal_send q queue d o here m a = signal_send q queue (semaphore_at d.state.tables queue.send).waiters d o refl here m a
