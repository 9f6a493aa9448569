-- A message goes into a port, or is taken from it: what holds of the ports is kept, also if the caller's port changed meanwhile.
use Rattle.std.proofs.Common.{◌≡◌, ◌≢◌, ℕ, ◌⊎◌, suc, ◌+◌, ◌<◌, ◌≤◌, Bool, true, false, not, cond, ◌&&◌, List, length, Option, Some, set, ⊎_elim, refl, sym, ap, subst, ◌∙◌, arith, get_or-set_same, get_or-set_other}
use Rattle.std.proofs.Math.ListN.{length-set}
use Rattle.std.proofs.lemmas.Bool.{cases_lt, cond-true}
use Rattle.std.proofs.lemmas.List.{get_or_past}
use Rattle.xinu_base.specs.declared.processes.Process.{Process}
use Rattle.xinu_base.specs.declared.processes.Rest.TheVariants.{Nothing}
use Rattle.xinu_base.specs.declared.semaphores.Owner.TheVariants as owner
use Rattle.xinu_model.specs.Ports.Queues.{PortQueue, MessagePort, no_port, most_nodes, port_at, queued, nodes}
use Rattle.xinu_model.specs.Semaphores.Counts.{with_tokens}
use Rattle.xinu_model.specs.Sound.Tables.{times, IsInside}
use Rattle.xinu_model.specs.Sound.Pools.{is_waiting}
use Rattle.xinu_model.specs.Sound.Ports.{is_released_sender, is_released_receiver, IsSoundPort, ArePorts}
use Rattle.xinu_model.specs.Tables.{no_process, Semaphore, no_semaphore, Tables, process_at, semaphore_at, Nowhere, move_to}
use Rattle.table_laws.proofs.Lists.Counts.{times-set}
use Rattle.table_laws.proofs.Tables.MoveTo.{by_number}
use Rattle.xinu_laws.proofs.Ports.Counts.{nodes-set}
use Rattle.xinu_laws.proofs.Ports.Kept.{KeepsCounts, HasCounts, counts_kept, ports_kept}
use Rattle.xinu_laws.proofs.Ports.Moves.{keeps_port_left, keeps_rests_set, left_for_nowhere}
use Rattle.xinu_laws.proofs.Ports.Signals.{HasMessage, HasRoom, port_semaphore_within, ports_tokens}

-- A sender takes a token: there is room for its message.
pub ports_take_room : (q : ℕ) (queue : PortQueue) (n : ℕ) (t : Tables) (ports : List MessagePort) → IsInside t
    → (port_at ports q).queue ≡ Some queue → (semaphore_at t queue.send).tokens ≡ suc n → ArePorts t ports
    → ArePorts (with_tokens queue.send n t) ports × HasRoom (with_tokens queue.send n t) q (port_at ports q).seq queue
ports_take_room q queue n t ports o here e a =
    let i = a.each q queue here in
    let y : Semaphore = record (semaphore_at t queue.send) { tokens = n } in
    let f = ap (λ (x : Semaphore). x.tokens)
    (get_or-set_same t.semaphores queue.send y no_semaphore (port_semaphore_within q queue.send t o i.send_owner)) in
    let g = ap (λ (x : Semaphore). x.tokens)
    (get_or-set_other t.semaphores queue.send queue.receive y no_semaphore (λ k. i.differ (sym k))) in
    let h = i.messages in
    let r = i.room in
    (ports_tokens q queue queue.send n t ports o i.send_owner here (record { messages = omega arith; room = omega arith }) a, record { room = omega arith })

-- A receiver takes a token: there is a message for it.
pub ports_take_turn : (q : ℕ) (queue : PortQueue) (n : ℕ) (t : Tables) (ports : List MessagePort) → IsInside t
    → (port_at ports q).queue ≡ Some queue → (semaphore_at t queue.receive).tokens ≡ suc n → ArePorts t ports
    → ArePorts (with_tokens queue.receive n t) ports × HasMessage (with_tokens queue.receive n t) q (port_at ports q).seq queue
ports_take_turn q queue n t ports o here e a =
    let i = a.each q queue here in
    let y : Semaphore = record (semaphore_at t queue.receive) { tokens = n } in
    let f = ap (λ (x : Semaphore). x.tokens)
    (get_or-set_same t.semaphores queue.receive y no_semaphore (port_semaphore_within q queue.receive t o i.receive_owner)) in
    let g = ap (λ (x : Semaphore). x.tokens) (get_or-set_other t.semaphores queue.receive queue.send y no_semaphore i.differ) in
    let h = i.messages in
    let r = i.room in
    (ports_tokens q queue queue.receive n t ports o i.receive_owner here (record { messages = omega arith; room = omega arith }) a, record { messages = omega arith })

-- nothing is counted if the second of two tests fails
none_of : (b : Bool) → cond {A = ℕ} (b && false) 1 0 ≡ 0
none_of true = refl
none_of false = refl

-- the tables in which nothing is left of a process's call
abbrev pub gone_on : ℕ → Option ℕ → Tables → Tables
gone_on p message t = move_to p (record (process_at t p) { rest = Nothing }) message Nowhere t

-- the senders of which one goes on
senders_go_on : (q seq p : ℕ) (m : Option ℕ) (t : Tables) → p < length t.processes
    → times (is_released_sender q seq) (gone_on p m t).processes + cond (is_released_sender q seq (process_at t p)) 1 0 ≡ times (is_released_sender q seq) t.processes
senders_go_on q seq p m t i =
    let e = times-set (is_released_sender q seq) t.processes p (record (process_at t p) { rest = Nothing }) no_process i in
    let f = none_of (not (is_waiting (process_at t p).state)) in
    omega arith

-- the receivers of which one goes on
receivers_go_on : (q seq p : ℕ) (m : Option ℕ) (t : Tables) → p < length t.processes
    → times (is_released_receiver q seq) (gone_on p m t).processes + cond (is_released_receiver q seq (process_at t p)) 1 0 ≡ times (is_released_receiver q seq) t.processes
receivers_go_on q seq p m t i =
    let e = times-set (is_released_receiver q seq) t.processes p (record (process_at t p) { rest = Nothing }) no_process i in
    let f = none_of (not (is_waiting (process_at t p).state)) in
    omega arith

-- a semaphore keeps its tokens when a process goes on
tokens_go_on : (sem p : ℕ) (m : Option ℕ) (t : Tables) → (semaphore_at (gone_on p m t) sem).tokens ≡ (semaphore_at t sem).tokens
tokens_go_on sem p m t = ap (λ (x : Semaphore). x.tokens) (left_for_nowhere t p (record (process_at t p) { rest = Nothing }) m sem)

-- A process goes on whose call is complete.
pub ports_go_on : (p : ℕ) (m : Option ℕ) (t : Tables) (ports : List MessagePort) → p < length t.processes → ArePorts t ports
    → ArePorts (gone_on p m t) ports
ports_go_on p m t ports i a =
    let x : Process = record (process_at t p) { rest = Nothing } in
    let u = gone_on p m t in
    let counts : (q : ℕ) → KeepsCounts q t u = λ q. record {
      tokens = λ s e. tokens_go_on s p m t;
      senders = λ seq. (let e = senders_go_on q seq p m t i in omega arith);
      receivers = λ seq. (let e = receivers_go_on q seq p m t i in omega arith);
    } in
    ports_kept t u ports (λ q. keeps_port_left q p t u (left_for_nowhere t p x m) (λ r n. get_or-set_other t.processes p r x no_process n))
    (keeps_rests_set t u p x i refl (λ e. cc)) (λ q queue e k. counts_kept q (port_at ports q).seq queue t u (counts q) k) a

-- A released sender goes on: there is room for its message.
pub room_go_on : (q seq p : ℕ) (queue : PortQueue) (m : Option ℕ) (t : Tables) → p < length t.processes
    → is_released_sender q seq (process_at t p) ≡ true → IsSoundPort t q seq queue → HasRoom (gone_on p m t) q seq queue
room_go_on q seq p queue m t i r k =
    let e = senders_go_on q seq p m t i in
    let f = cond-true {A = ℕ} (is_released_sender q seq (process_at t p)) 1 0 r in
    let g = tokens_go_on queue.send p m t in
    let h = k.room in
    record { room = omega arith }

-- A released receiver goes on: there is a message for it.
pub message_go_on : (q seq p : ℕ) (queue : PortQueue) (m : Option ℕ) (t : Tables) → p < length t.processes
    → is_released_receiver q seq (process_at t p) ≡ true → IsSoundPort t q seq queue → HasMessage (gone_on p m t) q seq queue
message_go_on q seq p queue m t i r k =
    let e = receivers_go_on q seq p m t i in
    let f = cond-true {A = ℕ} (is_released_receiver q seq (process_at t p)) 1 0 r in
    let g = tokens_go_on queue.receive p m t in
    let h = k.messages in
    record { messages = omega arith }

-- a port in use has a number of the table
pub port_within : (q : ℕ) (queue : PortQueue) (ports : List MessagePort) → (port_at ports q).queue ≡ Some queue → q < length ports
port_within q queue ports e =
    ⊎_elim (λ (h : q < length ports). h)
    (λ (h : length ports ≤ q). (let f = ap (λ (x : MessagePort). x.queue) (get_or_past ports q no_port h) in absurd (cc)))
    (cases_lt q (length ports))

-- port q with other messages
abbrev pub with_port_messages : ℕ → PortQueue → List ℕ → List MessagePort → List MessagePort
with_port_messages q queue messages ports = set ports q (record (port_at ports q) { queue = Some (record queue { messages = messages }) })

-- What holds of the ports holds on with other messages of port q for which the counts fit.
pub ports_with_messages : (q : ℕ) (queue : PortQueue) (messages : List ℕ) (t : Tables) (ports : List MessagePort)
    → (port_at ports q).queue ≡ Some queue → nodes ports + length messages ≤ most_nodes + length queue.messages
    → HasCounts t q (port_at ports q).seq (record queue { messages = messages }) → ArePorts t ports
    → ArePorts t (with_port_messages q queue messages ports)
ports_with_messages q queue messages t ports here few c a =
    let next : PortQueue = record queue { messages = messages } in
    let x : MessagePort = record (port_at ports q) { queue = Some next } in
    let new = set ports q x in
    let i = port_within q queue ports here in
    let same : port_at new q ≡ x = get_or-set_same ports q x no_port i in
    let other = λ (r : ℕ) (n : r ≢ q). get_or-set_other ports q r x no_port n in
    let seqs : (r : ℕ) → (port_at new r).seq ≡ (port_at ports r).seq = λ r. by_number r q (λ k. (port_at new k).seq ≡ (port_at ports k).seq)
    (ap (λ (y : MessagePort). y.seq) same) (λ n. ap (λ (y : MessagePort). y.seq) (other r n)) in
    let k = a.each q queue here in
    let m = nodes-set ports q x i in
    let l : length (queued (port_at ports q).queue) ≡ length queue.messages = ap (λ o. length (queued o)) here in
    record {
      many = length-set ports q x ∙ a.many;
      few = omega arith;
      each = λ r. by_number r q (λ v. (y : PortQueue) → (port_at new v).queue ≡ Some y → IsSoundPort t v (port_at new v).seq y)
          (λ y e. (let f : next ≡ y = (let g = ap (λ (z : MessagePort). z.queue) same in cc) in
          subst (λ n. IsSoundPort t q n y) (sym (seqs q)) (subst (IsSoundPort t q (port_at ports q).seq) f (record {
            send_owner = k.send_owner;
            receive_owner = k.receive_owner;
            differ = k.differ;
            senders = k.senders;
            receivers = k.receivers;
            messages = c.messages;
            room = c.room;
          }))))
          (λ n y e. subst (λ (z : MessagePort). IsSoundPort t r z.seq y) (sym (other r n)) (a.each r y (sym (ap (λ (z : MessagePort). z.queue) (other r n)) ∙ e)));
      owned = λ s r. by_number r q (λ v. (semaphore_at t s).owner ≡ Some (owner.Port v) → (y : PortQueue) × ((port_at new v).queue ≡ Some y) × ((s ≡ y.send) ⊎ (s ≡ y.receive)))
          (λ e. (let o = a.owned s q e in let f : o.0 ≡ queue = (let g = o.1 in cc) in (next, ap (λ (z : MessagePort). z.queue) same, subst (λ (y : PortQueue). (s ≡ y.send) ⊎ (s ≡ y.receive)) f o.2)))
          (λ n e. (let o = a.owned s r e in (o.0, ap (λ (z : MessagePort). z.queue) (other r n) ∙ o.1, o.2)));
      sent = λ p ticket message e. subst (λ n. ticket.seq ≤ n) (sym (seqs ticket.port)) (a.sent p ticket message e);
      received = λ p ticket e. subst (λ n. ticket.seq ≤ n) (sym (seqs ticket.port)) (a.received p ticket e);
    }
