-- What keeps the ports: their semaphores keep their owners, nobody is a new waiter of one, and whoever is in a call on a port was in it
-- before. Then what holds of the ports holds on if the counts fit.
use Rattle.std.proofs.Common.{◌≡◌, ℕ, ◌+◌, ◌<◌, ◌≤◌, Bool, true, false, not, ◌&&◌, List, length, Option, Some, refl, sym, ap, subst, ◌∙◌, arith}
use Rattle.std.proofs.lemmas.Bool.{and_parts}
use Rattle.xinu_base.specs.declared.processes.Process.{Process}
use Rattle.xinu_base.specs.declared.processes.Rest.{Rest}
use Rattle.xinu_base.specs.declared.processes.Rest.TheVariants.{PtSend, PtRecv}
use Rattle.xinu_base.specs.declared.semaphores.Owner.{Owner}
use Rattle.xinu_base.specs.declared.semaphores.Owner.TheVariants as owner
use Rattle.xinu_model.specs.Ports.Queues.{PortQueue, MessagePort, port_at}
use Rattle.xinu_model.specs.Sound.Tables.{times, count_in, IsForPort, FitsOwner, IsInside}
use Rattle.xinu_model.specs.Sound.Pools.{is_waiting}
use Rattle.xinu_model.specs.Sound.Ports.{sends_to, receives_from, is_released_sender, is_released_receiver, IsSoundPort, ArePorts}
use Rattle.xinu_model.specs.Tables.{no_process, Tables, process_at, semaphore_at}
use Rattle.table_laws.specs.Frame.{Frame}
use Rattle.xinu_laws.proofs.Pools.Frame.{times-le}

-- whether a semaphore's owner is a port
abbrev pub is_ports : ℕ → Option Owner → Bool
is_ports sem (Some (owner.Port q)) = true
is_ports sem _ = false

-- whether what is left of a call is that of a call on a port
abbrev pub asks_port : Rest → Bool
asks_port (PtSend ticket message) = true
asks_port (PtRecv ticket) = true
asks_port _ = false

-- From t to u the semaphores of port q keep their owner, none is new, and nobody is a new waiter of one.
pub record KeepsPort (q : ℕ) (t u : Tables) : Type 0 where
  pub kept : (sem : ℕ) → (semaphore_at t sem).owner ≡ Some (owner.Port q) → (semaphore_at u sem).owner ≡ Some (owner.Port q)
  pub old : (sem : ℕ) → (semaphore_at u sem).owner ≡ Some (owner.Port q) → (semaphore_at t sem).owner ≡ Some (owner.Port q)
  pub waiters : (sem p : ℕ) → (semaphore_at t sem).owner ≡ Some (owner.Port q) → 0 < count_in p (semaphore_at u sem).waiters
      → (0 < count_in p (semaphore_at t sem).waiters) × ((process_at u p).rest ≡ (process_at t p).rest)

-- From t to u the semaphores of port q keep their tokens, and nobody more is released from them.
pub record KeepsCounts (q : ℕ) (t u : Tables) : Type 0 where
  pub tokens : (sem : ℕ) → (semaphore_at t sem).owner ≡ Some (owner.Port q) → (semaphore_at u sem).tokens ≡ (semaphore_at t sem).tokens
  pub senders : (seq : ℕ) → times (is_released_sender q seq) u.processes ≤ times (is_released_sender q seq) t.processes
  pub receivers : (seq : ℕ) → times (is_released_receiver q seq) u.processes ≤ times (is_released_receiver q seq) t.processes

-- From t to u whoever is in a call on a port was in it before.
pub record KeepsRests (t u : Tables) : Type 0 where
  pub rests : (p : ℕ) → asks_port (process_at u p).rest ≡ true → (process_at u p).rest ≡ (process_at t p).rest

-- the counts of a port in use fit
pub record HasCounts (t : Tables) (q seq : ℕ) (queue : PortQueue) : Type 0 where
  pub messages : (semaphore_at t queue.receive).tokens + times (is_released_receiver q seq) t.processes ≤ length queue.messages
  pub room : (semaphore_at t queue.send).tokens + length queue.messages + times (is_released_sender q seq) t.processes ≤ queue.first_count

pub keeps_rests_trans : (t u v : Tables) → KeepsRests t u → KeepsRests u v → KeepsRests t v
keeps_rests_trans t u v a b = record {
  rests = λ p h. (let e = b.rests p h in e ∙ a.rests p (sym (ap asks_port e) ∙ h));
}

-- the counts fit on if they are kept
pub counts_kept : (q seq : ℕ) (queue : PortQueue) (t u : Tables) → KeepsCounts q t u → IsSoundPort t q seq queue → HasCounts u q seq queue
counts_kept q seq queue t u k i =
    let e = k.tokens queue.receive i.receive_owner in
    let f = k.tokens queue.send i.send_owner in
    let g = k.senders seq in
    let h = k.receivers seq in
    let m = i.messages in
    let r = i.room in
    record { messages = omega arith; room = omega arith }

-- What holds of a port in use holds on if the port is kept and the counts fit.
pub sound_port_kept : (q seq : ℕ) (queue : PortQueue) (t u : Tables) → KeepsPort q t u → HasCounts u q seq queue → IsSoundPort t q seq queue
    → IsSoundPort u q seq queue
sound_port_kept q seq queue t u k c i = record {
  send_owner = k.kept queue.send i.send_owner;
  receive_owner = k.kept queue.receive i.receive_owner;
  differ = i.differ;
  senders = λ p h. (let w = k.waiters queue.send p i.send_owner h in let s = i.senders p w.0 in (s.0, w.1 ∙ s.1));
  receivers = λ p h. (let w = k.waiters queue.receive p i.receive_owner h in w.1 ∙ i.receivers p w.0);
  messages = c.messages;
  room = c.room;
}

-- What holds of all ports holds on where each is kept and the counts fit.
pub ports_kept : (t u : Tables) (ports : List MessagePort) → ((q : ℕ) → KeepsPort q t u) → KeepsRests t u
    → ((q : ℕ) (queue : PortQueue) → (port_at ports q).queue ≡ Some queue → IsSoundPort t q (port_at ports q).seq queue → HasCounts u q (port_at ports q).seq queue)
    → ArePorts t ports → ArePorts u ports
ports_kept t u ports k r c a = record {
  many = a.many;
  few = a.few;
  each = λ q queue e. (let i = a.each q queue e in sound_port_kept q (port_at ports q).seq queue t u (k q) (c q queue e i) i);
  owned = λ s q e. a.owned s q ((k q).old s e);
  sent = λ p ticket message e. a.sent p ticket message (sym (r.rests p (ap asks_port e)) ∙ e);
  received = λ p ticket e. a.received p ticket (sym (r.rests p (ap asks_port e)) ∙ e);
}

-- who waits on a port's semaphore is in a call on a port
asks_for_port : (q sem : ℕ) (left : Rest) → IsForPort q sem left → asks_port left ≡ true
asks_for_port q sem (PtSend ticket message) h = refl
asks_for_port q sem (PtRecv ticket) h = refl
asks_for_port q sem _ h = absurd h

-- who is to put a message into a port is in a call on a port
asks_send : (q seq : ℕ) (left : Rest) → sends_to q seq left ≡ true → asks_port left ≡ true
asks_send q seq (PtSend ticket message) h = refl
asks_send q seq (PtRecv ticket) h = refl
asks_send q seq _ h = h

-- and so is who is to take one
asks_receive : (q seq : ℕ) (left : Rest) → receives_from q seq left ≡ true → asks_port left ≡ true
asks_receive q seq (PtSend ticket message) h = refl
asks_receive q seq (PtRecv ticket) h = refl
asks_receive q seq _ h = h

-- a test of what is left of a call, and of not waiting, passes on if both are as they were
passes_on : (test : Rest → Bool) (x y : Process) → y.rest ≡ x.rest → is_waiting y.state ≡ is_waiting x.state
    → not (is_waiting y.state) && test y.rest ≡ true → not (is_waiting x.state) && test x.rest ≡ true
passes_on test x y e f h = sym (ap (λ w. not w && test y.rest) f ∙ ap (λ r. not (is_waiting x.state) && test r) e) ∙ h

-- What leaves the semaphores of port q and the calls on it alone.
pub record Covers (mine : ℕ → Option Owner → Bool) (asks : Rest → Bool) (q : ℕ) : Type 0 where
  pub owner : (sem : ℕ) → mine sem (Some (owner.Port q)) ≡ true
  pub waits : (s : ℕ) (left : Rest) → IsForPort q s left → asks left ≡ true
  pub sends : (seq : ℕ) (left : Rest) → sends_to q seq left ≡ true → asks left ≡ true
  pub receives : (seq : ℕ) (left : Rest) → receives_from q seq left ≡ true → asks left ≡ true

-- so it does if it leaves all ports alone
covers_ports : (q : ℕ) → Covers is_ports asks_port q
covers_ports q = record { owner = λ sem. refl; waits = asks_for_port q; sends = asks_send q; receives = asks_receive q }

module _ {mine : ℕ → Option Owner → Bool} {asks : Rest → Bool} where
  -- Such a move keeps the port,
  pub keeps_port_framed : (q : ℕ) (t u : Tables) → Covers mine asks q → IsInside u → Frame mine asks t u → KeepsPort q t u
  keeps_port_framed q t u v o c = record {
    kept = λ s e. (c.kept s (ap (mine s) e ∙ v.owner s)).0 ∙ e;
    old = λ s e. sym (c.old s (ap (mine s) e ∙ v.owner s)) ∙ e;
    waiters = λ s p e h. (
      c.waiters s p (ap (mine s) e ∙ v.owner s) h,
      (let f : FitsOwner s (Some (owner.Port q)) (process_at u p).rest = subst (λ k. FitsOwner s k (process_at u p).rest)
          ((c.kept s (ap (mine s) e ∙ v.owner s)).0 ∙ e) (o.rests s p h) in
          (c.rests p (v.waits s (process_at u p).rest f)).0),
    );
  }

  -- and its counts.
  pub keeps_counts_framed : (q : ℕ) (t u : Tables) → Covers mine asks q → Frame mine asks t u → KeepsCounts q t u
  keeps_counts_framed q t u v c = record {
    tokens = λ s e. (c.kept s (ap (mine s) e ∙ v.owner s)).1;
    senders = λ seq. times-le (is_released_sender q seq) u.processes t.processes no_process c.many
        (λ p h. (let a = v.sends seq (process_at u p).rest
        (and_parts (not (is_waiting (process_at u p).state)) (sends_to q seq (process_at u p).rest) h).1 in
        passes_on (sends_to q seq) (process_at t p) (process_at u p) (c.rests p a).0 (c.rests p a).1 h));
    receivers = λ seq. times-le (is_released_receiver q seq) u.processes t.processes no_process c.many
        (λ p h. (let a = v.receives seq (process_at u p).rest
        (and_parts (not (is_waiting (process_at u p).state)) (receives_from q seq (process_at u p).rest) h).1 in
        passes_on (receives_from q seq) (process_at t p) (process_at u p) (c.rests p a).0 (c.rests p a).1 h));
  }

-- What leaves the ports alone keeps what holds of them.
pub ports_framed : (t u : Tables) (ports : List MessagePort) → IsInside u → Frame is_ports asks_port t u → ArePorts t ports
    → ArePorts u ports
ports_framed t u ports o c a =
    ports_kept t u ports (λ q. keeps_port_framed q t u (covers_ports q) o c) (record { rests = λ p h. (c.rests p h).0 })
    (λ q queue e i. counts_kept q (port_at ports q).seq queue t u (keeps_counts_framed q t u (covers_ports q) c) i) a
