-- A caller that waits on a semaphore of a port keeps what holds of the ports.
use Rattle.std.proofs.Common.{◌≡◌, ◌≢◌, ◌⊎◌, ℕ, ◌<◌, ◌≤◌, List, length, Option, Some, inl, inr, ⊎_elim, refl, sym, ap, subst, ◌∙◌, arith}
use Rattle.std.proofs.lemmas.Bool.{cases_eq}
use Rattle.xinu_base.specs.declared.processes.PortTicket.{PortTicket}
use Rattle.xinu_base.specs.declared.processes.Process.{Process}
use Rattle.xinu_base.specs.declared.processes.Rest.{Rest}
use Rattle.xinu_base.specs.declared.processes.Rest.TheVariants.{PtSend, PtRecv}
use Rattle.xinu_base.specs.declared.processes.State.TheVariants.{Waiting}
use Rattle.xinu_base.specs.declared.semaphores.Owner.TheVariants as owner
use Rattle.xinu_model.specs.Ports.Queues.{PortQueue, MessagePort, port_at}
use Rattle.xinu_model.specs.Sound.Tables.{count_in, IsInside}
use Rattle.xinu_model.specs.Sound.Ports.{is_released_sender, is_released_receiver, IsSoundPort, ArePorts}
use Rattle.xinu_model.specs.Tables.{no_process, Tables, process_at, semaphore_at, numbers_without, waits_without, InSemaphore, move_to}
use Rattle.table_laws.proofs.Lists.Counts.{times-set, numbers_without_same, numbers_without_other, count_last_other}
use Rattle.table_laws.proofs.Tables.Places.{IsInTable, length-waits_without}
use Rattle.table_laws.proofs.Tables.MoveTo.{by_number, process_move_same, process_move_other, semaphore_move_cases}
use Rattle.xinu_laws.proofs.Ports.Kept.{KeepsCounts, counts_kept}
use Rattle.xinu_laws.proofs.Ports.Signals.{port_semaphore_within}

-- c at semaphore s, or another process where it was
abbrev IsHereOr : Tables → ℕ → ℕ → ℕ → ℕ → Type 0
IsHereOr t c s p r = ((p ≡ c) × (r ≡ s)) ⊎ ((p ≢ c) × (0 < count_in p (semaphore_at t r).waiters))

-- who waits if c left waited there before
waits_where_left : (t : Tables) (c sem p r : ℕ) → 0 < count_in p (numbers_without c (semaphore_at t r).waiters) → IsHereOr t c sem p r
waits_where_left t c sem p r h = ⊎_elim
    (λ (e : p ≡ c). (let f : 0 < count_in c
    (numbers_without c (semaphore_at t r).waiters) = subst (λ k. 0 < count_in k (numbers_without c (semaphore_at t r).waiters)) e h in
    let g = numbers_without_same c (semaphore_at t r).waiters in absurd (omega arith)))
    (λ (n : p ≢ c). inr (n, subst (λ k. 0 < k) (numbers_without_other p c (semaphore_at t r).waiters n) h)) (cases_eq p c)

-- Who waits on a semaphore once c waits on sem: c on sem, or another that waited there before.
waits_after : (t : Tables) (c sem : ℕ) (x : Process) (m : Option ℕ) → sem < length t.semaphores → (p r : ℕ)
    → 0 < count_in p (semaphore_at (move_to c x m (InSemaphore sem) t) r).waiters → IsHereOr t c sem p r
waits_after t c sem x m i p r =
    let j : IsInTable (InSemaphore sem) (waits_without c t.semaphores) = (let e = length-waits_without c t.semaphores in omega arith) in
    semaphore_move_cases t c r x m (InSemaphore sem) (λ y. 0 < count_in p y.waiters → IsHereOr t c sem p r) j
    (λ h. waits_where_left t c sem p r h)
    (λ v f g h. (let k : r ≡ sem = cc in ⊎_elim (λ (e : p ≡ c). inl (e, k))
    (λ (n : p ≢ c). waits_where_left t c sem p r
    (subst (λ z. 0 < z) (count_last_other p c (numbers_without c (semaphore_at t r).waiters) n) h)) (cases_eq p c)))

-- what is left of the call of one who waits on semaphore s of port q
pub record IsCallOn (ports : List MessagePort) (q : ℕ) (queue : PortQueue) (sem : ℕ) (left : Rest) : Type 0 where
  pub sends : sem ≡ queue.send
      → (message : ℕ) × (left ≡ PtSend (record { port = q; seq = (port_at ports q).seq; sem = queue.send }) message)
  pub receives : sem ≡ queue.receive → left ≡ PtRecv (record { port = q; seq = (port_at ports q).seq; sem = queue.receive })
  pub sent : (ticket : PortTicket) (message : ℕ) → left ≡ PtSend ticket message → ticket.seq ≤ (port_at ports ticket.port).seq
  pub received : (ticket : PortTicket) → left ≡ PtRecv ticket → ticket.seq ≤ (port_at ports ticket.port).seq

-- the caller c waits with this left of its call
abbrev pub made_wait : ℕ → ℕ → Rest → Option ℕ → Tables → Tables
made_wait c s left m t = move_to c (record (process_at t c) { state = Waiting; rest = left }) m (InSemaphore s) t

module _ (q : ℕ) (queue : PortQueue) (sem : ℕ) (left : Rest) (c : ℕ) (m : Option ℕ) (t : Tables) (ports : List MessagePort)
    (o : IsInside t) (w : c < 64) (here : (port_at ports q).queue ≡ Some queue) (owned : (semaphore_at t sem).owner ≡ Some (owner.Port q))
    (call : IsCallOn ports q queue sem left) where
  -- the semaphore is in the table
  within : sem < length t.semaphores
  within = port_semaphore_within q sem t o owned

  -- a semaphore keeps its owner and its tokens
  same_owner : (r : ℕ) → (semaphore_at (made_wait c sem left m t) r).owner ≡ (semaphore_at t r).owner
  same_owner r =
      semaphore_move_cases t c r (record (process_at t c) { state = Waiting; rest = left }) m (InSemaphore sem)
      (λ y. y.owner ≡ (semaphore_at t r).owner)
      (let e = length-waits_without c t.semaphores in let f = within in omega arith) refl (λ v f g. refl)

  same_tokens : (r : ℕ) → (semaphore_at (made_wait c sem left m t) r).tokens ≡ (semaphore_at t r).tokens
  same_tokens r =
      semaphore_move_cases t c r (record (process_at t c) { state = Waiting; rest = left }) m (InSemaphore sem)
      (λ y. y.tokens ≡ (semaphore_at t r).tokens)
      (let e = length-waits_without c t.semaphores in let f = within in omega arith) refl (λ v f g. refl)

  -- the caller's call, and those of the others
  caller_waits : (process_at (made_wait c sem left m t) c).rest ≡ left
  caller_waits = ap (λ (x : Process). x.rest) (process_move_same t c (record (process_at t c) { state = Waiting; rest = left }) m (InSemaphore sem) o.processes w)

  others_wait : (p : ℕ) → p ≢ c → (process_at (made_wait c sem left m t) p).rest ≡ (process_at t p).rest
  others_wait p n =
      ap (λ (x : Process). x.rest)
      (process_move_other t p c (record (process_at t c) { state = Waiting; rest = left }) m (InSemaphore sem) n)

  -- the caller is released from no semaphore
  counts_wait : (r : ℕ) → KeepsCounts r t (made_wait c sem left m t)
  counts_wait r = record {
    tokens = λ v e. same_tokens v;
    senders = λ seq. (let e = times-set (is_released_sender r seq) t.processes c (record (process_at t c) { state = Waiting; rest = left }) no_process (let f = o.processes in omega arith) in omega arith);
    receivers = λ seq. (let e = times-set (is_released_receiver r seq) t.processes c (record (process_at t c) { state = Waiting; rest = left }) no_process (let f = o.processes in omega arith) in omega arith);
  }

  -- a port whose semaphore the caller's is is the caller's, with its queue
  same_port : (r v : ℕ) (other : PortQueue) → (port_at ports r).queue ≡ Some other → (semaphore_at t v).owner ≡ Some (owner.Port r)
      → v ≡ sem → (r ≡ q) × (other ≡ queue)
  same_port r v other e f g =
      let h : Some (owner.Port r) ≡ Some (owner.Port q) = sym f
      ∙ subst (λ k. (semaphore_at t k).owner ≡ Some (owner.Port q)) (sym g) owned in
      let k : r ≡ q = cc in
      (k, (let l : Some other ≡ Some queue = sym e ∙ subst (λ n. (port_at ports n).queue ≡ Some queue) (sym k) here in cc))

  -- What holds of each port holds on.
  port_waits : (r : ℕ) (other : PortQueue) → (port_at ports r).queue ≡ Some other → IsSoundPort t r (port_at ports r).seq other
      → IsSoundPort (made_wait c sem left m t) r (port_at ports r).seq other
  port_waits r other e k =
      let u = made_wait c sem left m t in
      let n = counts_kept r (port_at ports r).seq other t u (counts_wait r) k in
      record {
        send_owner = same_owner other.send ∙ k.send_owner;
        receive_owner = same_owner other.receive ∙ k.receive_owner;
        differ = k.differ;
        senders = λ p h. ⊎_elim
            (λ (f : (p ≡ c) × (other.send ≡ sem)). (let g = same_port r other.send other e k.send_owner f.1 in
            let z : sem ≡ queue.send = sym f.1 ∙ ap (λ (y : PortQueue). y.send) g.1 in
            let l = call.sends z in
            let y : (process_at u p).rest ≡ left = subst (λ v. (process_at u v).rest ≡ left) (sym f.0) caller_waits in
            (l.0, y ∙ l.1 ∙ (let g0 = g.0 in let g1 = g.1 in cc))))
            (λ (f : (p ≢ c) × (0 < count_in p (semaphore_at t other.send).waiters)). (let l = k.senders p f.1 in (l.0, others_wait p f.0 ∙ l.1)))
            (waits_after t c sem (record (process_at t c) { state = Waiting; rest = left }) m within p other.send h);
        receivers = λ p h. ⊎_elim
            (λ (f : (p ≡ c) × (other.receive ≡ sem)). (let g = same_port r other.receive other e k.receive_owner f.1 in
            let z : sem ≡ queue.receive = sym f.1 ∙ ap (λ (y : PortQueue). y.receive) g.1 in
            let y : (process_at u p).rest ≡ left = subst (λ v. (process_at u v).rest ≡ left) (sym f.0) caller_waits in
            y ∙ call.receives z ∙ (let g0 = g.0 in let g1 = g.1 in cc)))
            (λ (f : (p ≢ c) × (0 < count_in p (semaphore_at t other.receive).waiters)). others_wait p f.0 ∙ k.receivers p f.1)
            (waits_after t c sem (record (process_at t c) { state = Waiting; rest = left }) m within p other.receive h);
        messages = n.messages;
        room = n.room;
      }

  -- What holds of all ports holds on.
  pub ports_wait : ArePorts t ports → ArePorts (made_wait c sem left m t) ports
  ports_wait a =
      let u = made_wait c sem left m t in
      record {
        many = a.many;
        few = a.few;
        each = λ r other e. port_waits r other e (a.each r other e);
        owned = λ v r e. a.owned v r (sym (same_owner v) ∙ e);
        sent = λ p ticket message. by_number p c (λ v. (process_at u v).rest ≡ PtSend ticket message → ticket.seq ≤ (port_at ports ticket.port).seq)
            (λ e. call.sent ticket message (sym caller_waits ∙ e)) (λ n e. a.sent p ticket message (sym (others_wait p n) ∙ e));
        received = λ p ticket. by_number p c (λ v. (process_at u v).rest ≡ PtRecv ticket → ticket.seq ≤ (port_at ports ticket.port).seq)
            (λ e. call.received ticket (sym caller_waits ∙ e)) (λ n e. a.received p ticket (sym (others_wait p n) ∙ e));
      }

-- what is left of a sender's call
pub sender_call : (q : ℕ) (queue : PortQueue) (message : ℕ) (ports : List MessagePort) → queue.send ≢ queue.receive
    → IsCallOn ports q queue queue.send (PtSend (record { port = q; seq = (port_at ports q).seq; sem = queue.send }) message)
sender_call q queue message ports n = record {
  sends = λ e. (message, refl);
  receives = λ e. absurd (n e);
  sent = λ ticket other e. (let f : record { port = q; seq = (port_at ports q).seq; sem = queue.send } ≡ ticket = cc in subst (λ (y : PortTicket). y.seq ≤ (port_at ports y.port).seq) f (omega arith));
  received = λ ticket e. cc;
}

-- what is left of a receiver's call
pub receiver_call : (q : ℕ) (queue : PortQueue) (ports : List MessagePort) → queue.send ≢ queue.receive
    → IsCallOn ports q queue queue.receive (PtRecv (record { port = q; seq = (port_at ports q).seq; sem = queue.receive }))
receiver_call q queue ports n = record {
  sends = λ e. absurd (n (sym e));
  receives = λ e. refl;
  sent = λ ticket message e. cc;
  received = λ ticket e. (let f : record { port = q; seq = (port_at ports q).seq; sem = queue.receive } ≡ ticket = cc in subst (λ (y : PortTicket). y.seq ≤ (port_at ports y.port).seq) f (omega arith));
}
