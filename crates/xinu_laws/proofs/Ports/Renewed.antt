-- A port that is made, reset or deleted gets the next number: no call that began before is one on the port as it is now, and the other
-- ports are left alone.
use Rattle.std.proofs.Common.{◌≡◌, ◌≢◌, ◌⊎◌, ℕ, ◌+◌, ◌<◌, ◌≤◌, ◌==◌, Bool, true, false, not, List, [], length, Option, Some, refl, sym, ap, subst, ◌∙◌, arith, get_or-set_same, get_or-set_other}
use Rattle.std.proofs.Math.ListN.{length-set}
use Rattle.std.proofs.lemmas.Bool.{and_parts, eq-eqb, eqb-true, ne_eqb, true≢false}
use Rattle.xinu_base.specs.declared.processes.PortTicket.{PortTicket}
use Rattle.xinu_base.specs.declared.processes.Rest.{Rest}
use Rattle.xinu_base.specs.declared.processes.Rest.TheVariants.{PtSend, PtRecv}
use Rattle.xinu_base.specs.declared.semaphores.Owner.{Owner}
use Rattle.xinu_base.specs.declared.semaphores.Owner.TheVariants as owner
use Rattle.xinu_model.specs.Ports.Queues.{PortQueue, MessagePort, no_port, most_ports, port_at, queued}
use Rattle.xinu_model.specs.Ports.Calls.{renewed}
use Rattle.xinu_model.specs.Sound.Tables.{times, count_in, IsForPort, IsInside}
use Rattle.xinu_model.specs.Sound.Pools.{is_waiting}
use Rattle.xinu_model.specs.Sound.Ports.{sends_to, receives_from, is_released_sender, is_released_receiver, IsSoundPort, ArePorts}
use Rattle.xinu_model.specs.Tables.{no_process, Tables, process_at, semaphore_at}
use Rattle.table_laws.specs.Frame.{Frame}
use Rattle.table_laws.proofs.Tables.MoveTo.{by_number}
use Rattle.xinu_laws.proofs.Ports.Counts.{times_none, nodes-set}
use Rattle.xinu_laws.proofs.Ports.Kept.{asks_port, KeepsRests, Covers, counts_kept, sound_port_kept, keeps_port_framed, keeps_counts_framed}

-- whether a semaphore's owner is a port other than q
abbrev pub is_other_port : ℕ → ℕ → Option Owner → Bool
is_other_port q sem (Some (owner.Port r)) = not (r == q)
is_other_port q sem _ = false

-- whether what is left of a call is that of a call on a port other than q
abbrev pub asks_other_port : ℕ → Rest → Bool
asks_other_port q (PtSend ticket message) = not (ticket.port == q)
asks_other_port q (PtRecv ticket) = not (ticket.port == q)
asks_other_port q _ = false

-- a number is no other
pub not_other : (r q : ℕ) → r ≡ q → not (r == q) ≡ false
not_other r q e = ap not (eq-eqb r q e)

-- another number is another
other : (r q : ℕ) → r ≢ q → not (r == q) ≡ true
other r q n = ap not (ne_eqb r q n)

-- who waits on a semaphore of port r is in a call on a port other than q,
waits_on_other : (q r sem : ℕ) (left : Rest) → r ≢ q → IsForPort r sem left → asks_other_port q left ≡ true
waits_on_other q r sem (PtSend ticket message) n h = other ticket.port q (λ e. n (sym h.0 ∙ e))
waits_on_other q r sem (PtRecv ticket) n h = other ticket.port q (λ e. n (sym h.0 ∙ e))
waits_on_other q r sem _ n h = absurd h

-- and so is who is to put a message into r,
sends_to_one : (q r seq : ℕ) (left : Rest) → r ≢ q → sends_to r seq left ≡ true → asks_other_port q left ≡ true
sends_to_one q r seq (PtSend ticket message) n h =
    other ticket.port q (λ e. n (sym (eqb-true ticket.port r (and_parts (ticket.port == r) (ticket.seq == seq) h).0) ∙ e))
sends_to_one q r seq (PtRecv ticket) n h = cc
sends_to_one q r seq _ n h = h

-- or to take one from it
receives_from_one : (q r seq : ℕ) (left : Rest) → r ≢ q → receives_from r seq left ≡ true → asks_other_port q left ≡ true
receives_from_one q r seq (PtRecv ticket) n h =
    other ticket.port q (λ e. n (sym (eqb-true ticket.port r (and_parts (ticket.port == r) (ticket.seq == seq) h).0) ∙ e))
receives_from_one q r seq (PtSend ticket message) n h = cc
receives_from_one q r seq _ n h = h

-- so what leaves the ports other than q alone covers each of them
covers_other : (q r : ℕ) → r ≢ q → Covers (is_other_port q) (asks_other_port q) r
covers_other q r n = record {
  owner = λ sem. other r q n;
  waits = λ s left h. waits_on_other q r s left n h;
  sends = λ seq left h. sends_to_one q r seq left n h;
  receives = λ seq left h. receives_from_one q r seq left n h;
}

-- who waits on a semaphore of port q is in no call on another
pub unasked_here : (q sem : ℕ) (left : Rest) → IsForPort q sem left → asks_other_port q left ≡ false
unasked_here q sem (PtSend ticket message) h = not_other ticket.port q h.0
unasked_here q sem (PtRecv ticket) h = not_other ticket.port q h.0
unasked_here q sem _ h = absurd h

-- a call that began before the next number isn't one by it
old_sender : (q seq : ℕ) (ports : List MessagePort) (left : Rest) → (port_at ports q).seq ≡ seq
    → ((ticket : PortTicket) (message : ℕ) → left ≡ PtSend ticket message → ticket.seq ≤ (port_at ports ticket.port).seq)
    → sends_to q (seq + 1) left ≡ true → ⊥
old_sender q seq ports (PtSend ticket message) e bound h =
    let p = and_parts (ticket.port == q) (ticket.seq == seq + 1) h in
    let f = bound ticket message refl in
    let g = ap (λ v. (port_at ports v).seq) (eqb-true ticket.port q p.0) in
    let k = eqb-true ticket.seq (seq + 1) p.1 in
    absurd (omega arith)
old_sender q seq ports (PtRecv ticket) e bound h = true≢false (sym h)
old_sender q seq ports _ e bound h = true≢false (sym h)

old_receiver : (q seq : ℕ) (ports : List MessagePort) (left : Rest) → (port_at ports q).seq ≡ seq
    → ((ticket : PortTicket) → left ≡ PtRecv ticket → ticket.seq ≤ (port_at ports ticket.port).seq) → receives_from q (seq + 1) left ≡ true
    → ⊥
old_receiver q seq ports (PtRecv ticket) e bound h =
    let p = and_parts (ticket.port == q) (ticket.seq == seq + 1) h in
    let f = bound ticket refl in
    let g = ap (λ v. (port_at ports v).seq) (eqb-true ticket.port q p.0) in
    let k = eqb-true ticket.seq (seq + 1) p.1 in
    absurd (omega arith)
old_receiver q seq ports (PtSend ticket message) e bound h = true≢false (sym h)
old_receiver q seq ports _ e bound h = true≢false (sym h)

-- no released sender has the next number,
pub no_new_senders : (q : ℕ) (t u : Tables) (ports : List MessagePort) → KeepsRests t u → ArePorts t ports
    → times (is_released_sender q ((port_at ports q).seq + 1)) u.processes ≡ 0
no_new_senders q t u ports k a = times_none (is_released_sender q ((port_at ports q).seq + 1)) no_process u.processes
    (λ p h. old_sender q (port_at ports q).seq ports (process_at u p).rest refl
    (λ ticket message e. a.sent p ticket message (sym (k.rests p (ap asks_port e)) ∙ e))
    (and_parts (not (is_waiting (process_at u p).state)) (sends_to q ((port_at ports q).seq + 1) (process_at u p).rest) h).1)

-- and no released receiver
pub no_new_receivers : (q : ℕ) (t u : Tables) (ports : List MessagePort) → KeepsRests t u → ArePorts t ports
    → times (is_released_receiver q ((port_at ports q).seq + 1)) u.processes ≡ 0
no_new_receivers q t u ports k a = times_none (is_released_receiver q ((port_at ports q).seq + 1)) no_process u.processes
    (λ p h. old_receiver q (port_at ports q).seq ports (process_at u p).rest refl
    (λ ticket e. a.received p ticket (sym (k.rests p (ap asks_port e)) ∙ e))
    (and_parts (not (is_waiting (process_at u p).state)) (receives_from q ((port_at ports q).seq + 1) (process_at u p).rest) h).1)

-- what port q is once it is renewed: its semaphores are its own, and nobody waits on one
pub record IsNewPort (u : Tables) (q : ℕ) (queue : PortQueue) : Type 0 where
  pub send_owner : (semaphore_at u queue.send).owner ≡ Some (owner.Port q)
  pub receive_owner : (semaphore_at u queue.receive).owner ≡ Some (owner.Port q)
  pub differ : queue.send ≢ queue.receive
  pub no_senders : (semaphore_at u queue.send).waiters ≡ []
  pub no_receivers : (semaphore_at u queue.receive).waiters ≡ []
  pub room : (semaphore_at u queue.send).tokens ≡ queue.first_count
  pub no_tokens : (semaphore_at u queue.receive).tokens ≡ 0
  pub empty : queue.messages ≡ []

-- nobody waits if the list is empty
nobody : {P : Type 0} (p : ℕ) (l : List ℕ) → l ≡ [] → 0 < count_in p l → P
nobody p l e h = let f = ap (count_in p) e in absurd (omega arith)

-- what holds of it
pub sound_new_port : (q : ℕ) (queue : PortQueue) (t u : Tables) (ports : List MessagePort) → KeepsRests t u → ArePorts t ports
    → IsNewPort u q queue → IsSoundPort u q ((port_at ports q).seq + 1) queue
sound_new_port q queue t u ports k a n =
    let senders = no_new_senders q t u ports k a in
    let receivers = no_new_receivers q t u ports k a in
    let e = n.no_tokens in
    let f = n.room in
    let g = ap length n.empty in
    record {
      send_owner = n.send_owner;
      receive_owner = n.receive_owner;
      differ = n.differ;
      senders = λ p h. nobody p (semaphore_at u queue.send).waiters n.no_senders h;
      receivers = λ p h. nobody p (semaphore_at u queue.receive).waiters n.no_receivers h;
      messages = omega arith;
      room = omega arith;
    }

-- Port q is renewed: what holds of it as it is now, and what held of the others, holds of all.
pub ports_renewed : (q : ℕ) (x : Option PortQueue) (t u : Tables) (ports : List MessagePort) → q < most_ports → IsInside u
    → Frame (is_other_port q) (asks_other_port q) t u → KeepsRests t u → ((queue : PortQueue) → x ≡ Some queue → IsNewPort u q queue)
    → ((sem : ℕ) → (semaphore_at u sem).owner ≡ Some (owner.Port q) → (queue : PortQueue) × (x ≡ Some queue) × ((sem ≡ queue.send) ⊎ (sem ≡ queue.receive)))
    → length (queued x) ≡ 0 → ArePorts t ports → ArePorts u (renewed q x ports)
ports_renewed q x t u ports w o c rests new owned none a =
    let y : MessagePort = record { seq = (port_at ports q).seq + 1; queue = x } in
    let now = renewed q x ports in
    let many = a.many in
    let i : q < length ports = omega arith in
    let same : port_at now q ≡ y = get_or-set_same ports q y no_port i in
    let others = λ (r : ℕ) (n : r ≢ q). get_or-set_other ports q r y no_port n in
    let m = nodes-set ports q y i in
    let few = a.few in
    let later : (r : ℕ) → (port_at ports r).seq ≤ (port_at now r).seq = λ r. by_number r q
    (λ v. (port_at ports v).seq ≤ (port_at now v).seq)
    (let e = ap (λ (z : MessagePort). z.seq) same in omega arith)
    (λ n. (let e = ap (λ (z : MessagePort). z.seq) (others r n) in omega arith)) in
    record {
      many = length-set ports q y ∙ a.many;
      few = omega arith;
      each = λ r. by_number r q (λ v. (queue : PortQueue) → (port_at now v).queue ≡ Some queue → IsSoundPort u v (port_at now v).seq queue)
          (λ queue e. subst (λ (z : MessagePort). IsSoundPort u q z.seq queue) (sym same)
          (sound_new_port q queue t u ports rests a (new queue (sym (ap (λ (z : MessagePort). z.queue) same) ∙ e))))
          (λ n queue e. (let k = a.each r queue (sym (ap (λ (z : MessagePort). z.queue) (others r n)) ∙ e) in
          let v = covers_other q r n in
          subst (λ (z : MessagePort). IsSoundPort u r z.seq queue) (sym (others r n))
          (sound_port_kept r (port_at ports r).seq queue t u (keeps_port_framed r t u v o c) (counts_kept r (port_at ports r).seq queue t u (keeps_counts_framed r t u v c) k) k)));
      owned = λ sem r. by_number r q (λ v. (semaphore_at u sem).owner ≡ Some (owner.Port v) → (queue : PortQueue) × ((port_at now v).queue ≡ Some queue) × ((sem ≡ queue.send) ⊎ (sem ≡ queue.receive)))
          (λ e. (let f = owned sem e in (f.0, ap (λ (z : MessagePort). z.queue) same ∙ f.1, f.2)))
          (λ n e. (let f = a.owned sem r ((keeps_port_framed r t u (covers_other q r n) o c).old sem e) in (f.0, ap (λ (z : MessagePort). z.queue) (others r n) ∙ f.1, f.2)));
      sent = λ p ticket message e. (let f = a.sent p ticket message (sym (rests.rests p (ap asks_port e)) ∙ e) in let g = later ticket.port in omega arith);
      received = λ p ticket e. (let f = a.received p ticket (sym (rests.rests p (ap asks_port e)) ∙ e) in let g = later ticket.port in omega arith);
    }
