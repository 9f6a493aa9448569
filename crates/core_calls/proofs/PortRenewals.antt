-- A port is made, deleted or reset: what is done is what calls 31 to 33 do.
use Rattle.std.proofs.Common.{◌≡◌, ◌≢◌, ◌∙◌, ℕ, ◌<◌, Bool, true, false, cond, nat_le, ℤ, pos, negsuc, ◌≤ℤ◌, List, [], Option, None, Some, option_map, refl, sym, ap, subst, arith}
use Rattle.std.proofs.lemmas.Int.{ints}
use Rattle.std.specs.Prelude.{IsSome}
use Rattle.ports.specs.Calls.{free_place, with_deleted, with_made, with_reset}
use Rattle.ports.specs.Calls as table
use Rattle.ports.specs.Table.{head_of, PortTable}
use Rattle.ports.specs.declared.table.PortHead.{PortHead}
use Rattle.semaphores.specs.Counts.{paired, second_number, tokens_of, two_numbers, with_two}
use Rattle.semaphores.proofs.Finding.{are_found}
use Rattle.xinu_base.specs.Constants.{OK}
use Rattle.xinu_base.specs.declared.semaphores.Owner.{Owner}
use Rattle.xinu_base.specs.declared.semaphores.Owner.TheVariants as owner
use Rattle.xinu_base.specs.declared.processes.State.TheVariants.{Current}
use Rattle.xinu_model.specs.Process.Scheduling.{ready_all}
use Rattle.table_laws.proofs.Tables.Unblock.{owner_ready}
use Rattle.xinu_model.specs.Machine.{CallState, refused, returns, start, Xinu}
use Rattle.xinu_model.specs.Ports.Calls.{cleared, deleted, disposed, emptied_port, made_port, ptcreate, ptdelete, ptreset, renewed, started_port}
use Rattle.xinu_model.specs.Ports.Calls as model
use Rattle.xinu_model.specs.Ports.Queues.{MessagePort, port_at, PortQueue, queued}
use Rattle.xinu_model.specs.Semaphores.Counts.{free_semaphore, make_semaphore}
use Rattle.xinu_model.specs.Semaphores.Waiting.{emptied}
use Rattle.xinu_model.specs.Sound.Pools.{ArePools}
use Rattle.xinu_model.specs.Sound.Ports.{ArePorts}
use Rattle.xinu_model.specs.Sound.Tables.{IsSoundTables}
use Rattle.xinu_model.specs.Tables.{no_semaphore, Semaphore, semaphore_at, state_at, Tables}
use Rattle.kernel_tables.specs.Waking.{are_any}
use Rattle.kernel_tables.proofs.Waiters.{sound_all_ready}
use Rattle.kernel_state.specs.Released.{IsOfPart}
use Rattle.core_calls.specs.ClearedPorts.{CanClear, cleared_queue}
use Rattle.core_calls.proofs.Disposals.{disposed_keeps}
use Rattle.kernel_state.proofs.GoingOn.{emptied_is, gone_on}
use Rattle.core_calls.proofs.InTurn.{changed, changed_other, in_turn, IsBlind, released_to}
use Rattle.core_calls.proofs.PortCalls.{table_of}

-- a semaphore that is given up, and one with other tokens
abbrev pub given_up : Semaphore → Semaphore
given_up x = no_semaphore

abbrev pub with_count : ℕ → Semaphore → Semaphore
with_count n x = record x { tokens = n }

pub given_up_blindly : IsBlind given_up
given_up_blindly = record { without = λ p x. refl }

pub counted_blindly : (n : ℕ) → IsBlind (with_count n)
counted_blindly n = record { without = λ p x. refl }

-- the head of a port in use says what its queue has
pub record HasHead (head : PortHead) (found : Option PortQueue) : Type 0 where
  pub queue : PortQueue
  pub used : found ≡ Some queue
  pub is : head ≡ head_of queue

pub has_head : (head : PortHead) (found : Option PortQueue) → Some head ≡ option_map head_of found → HasHead head found
has_head head None h = absurd (cc)
has_head head (Some queue) h = record { queue = queue; used = refl; is = cc }

-- who waits on the semaphores of port q in use goes on by itself
senders_part : (q : ℕ) (queue : PortQueue) (t : Tables) (ports : List MessagePort) → ArePorts t ports → (port_at ports q).queue ≡ Some queue
    → IsOfPart (semaphore_at t queue.send).owner
senders_part q queue t ports a used = subst IsOfPart (sym (a.each q queue used).send_owner) tt

-- What is known of the state in which port q, which has this head, is renewed.
pub record IsRenewable (q : ℕ) (head : PortHead) (d : CallState) : Type 0 where
  pub tables : IsSoundTables d.state.tables
  pub ports : ArePorts d.state.tables d.state.parts.ports
  pub has : HasHead head (port_at d.state.parts.ports q).queue

pub is_renewable : (q : ℕ) (head : PortHead) (d e : CallState) → d ≡ e → IsSoundTables e.state.tables
    → ArePorts e.state.tables e.state.parts.ports → Some head ≡ option_map head_of (port_at e.state.parts.ports q).queue → IsRenewable q head d
is_renewable q head d e same k a h =
    subst (IsRenewable q head) (sym same) (record { tables = k; ports = a; has = has_head head (port_at e.state.parts.ports q).queue h })

-- its semaphores are its own, so they are in use, and no device's
pub send_owner : (q : ℕ) (head : PortHead) (d : CallState) → IsRenewable q head d
    → (semaphore_at d.state.tables head.send).owner ≡ Some (owner.Port q)
send_owner q head d r = subst (λ (x : PortHead). (semaphore_at d.state.tables x.send).owner ≡ Some (owner.Port q)) (sym r.has.is)
    (r.ports.each q r.has.queue r.has.used).send_owner

pub port_used : (q : ℕ) (o : Option Owner) → o ≡ Some (owner.Port q) → IsSome o
port_used q o e = subst IsSome (sym e) refl

pub port_no_device : (q : ℕ) (o : Option Owner) → o ≡ Some (owner.Port q) → o ≢ Some owner.Device
port_no_device q o e f = let g = sym e ∙ f in cc

-- What is known once the senders went on: the caller runs, and the receivers are those of the port.
pub record CanFollow (q receive : ℕ) (t : Tables) : Type 0 where
  pub runs : state_at t t.current ≡ Current
  pub owned : (semaphore_at t receive).owner ≡ Some (owner.Port q)

pub can_follow : (q : ℕ) (head : PortHead) (d : CallState) (u : Tables) (f : Semaphore → Semaphore) → IsRenewable q head d
    → u ≡ released_to head.send f d.state.tables → CanFollow q head.receive u
can_follow q head d u f w is =
    let t = d.state.tables in
    let h = w.has in
    let i = w.ports.each q h.queue h.used in
    let v = ready_all (semaphore_at t head.send).waiters t in
    let s : head.send ≡ h.queue.send = ap (λ (x : PortHead). x.send) h.is in
    let r : head.receive ≡ h.queue.receive = ap (λ (x : PortHead). x.receive) h.is in
    let n : head.send ≢ head.receive = λ e. i.differ (sym s ∙ e ∙ r) in
    let same : (semaphore_at (released_to head.send f t) head.receive).owner ≡ Some (owner.Port q)
    = ap (λ (x : Semaphore). x.owner) (changed_other v head.send head.receive f n)
    ∙ owner_ready (semaphore_at t head.send).waiters t head.receive ∙ ap (λ r. (semaphore_at t r).owner) r ∙ i.receive_owner in
    subst (CanFollow q head.receive) (sym is) (record {
      runs = (sound_all_ready t head.send w.tables).runs;
      owned = same;
    })

-- all who wait on the two semaphores of a port go on
both_emptied : (q : ℕ) (queue : PortQueue) (d : CallState) → IsSoundTables d.state.tables → ArePorts d.state.tables d.state.parts.ports
    → (port_at d.state.parts.ports q).queue ≡ Some queue
    → (let t = d.state.tables in let u = ready_all (semaphore_at t queue.send).waiters t in
    emptied queue.receive (emptied queue.send d) ≡ gone_on (semaphore_at u queue.receive).waiters (gone_on (semaphore_at t queue.send).waiters d))
both_emptied q queue d k a used =
    let t = d.state.tables in
    let ps = (semaphore_at t queue.send).waiters in
    let i = a.each q queue used in
    ap (emptied queue.receive) (emptied_is queue.send d k.inside (senders_part q queue t d.state.parts.ports a used))
    ∙ emptied_is queue.receive (gone_on ps d) (sound_all_ready t queue.send k).inside
    (subst IsOfPart (sym (owner_ready ps t queue.receive ∙ i.receive_owner)) tt)

-- what is under way once senders and receivers went on, with these tables and these ports
abbrev pub renewed_in : Tables → List ℕ → List ℕ → PortTable → CallState → CallState
renewed_in t senders receivers p d = record {
  state = record d.state { tables = t; parts = record d.state.parts { ports = p.ports; next_port = p.next_port } };
  released = d.released;
  owes_resched = cond (are_any receivers) true (cond (are_any senders) true d.owes_resched);
}

-- What is known of a port's two semaphores that were changed one after the other: who waited there, and the tables in between and after.
pub record AreChanged (send receive : ℕ) (f g : Semaphore → Semaphore) (t u v : Tables) (senders receivers : List ℕ) : Type 0 where
  pub first : senders ≡ (semaphore_at t send).waiters
  pub between : u ≡ released_to send f t
  pub second : receivers ≡ (semaphore_at u receive).waiters
  pub after : v ≡ released_to receive g u

-- So they may as well be changed once all went on.
both_changed : (q : ℕ) (queue : PortQueue) (send receive : ℕ) (f g : Semaphore → Semaphore) (d : CallState) (u v : Tables) (senders receivers : List ℕ)
    (p : PortTable) → ArePorts d.state.tables d.state.parts.ports → (port_at d.state.parts.ports q).queue ≡ Some queue → send ≡ queue.send
    → receive ≡ queue.receive → IsBlind f → AreChanged send receive f g d.state.tables u v senders receivers
    → (let t = d.state.tables in let w = ready_all (semaphore_at t queue.send).waiters t in let rs = (semaphore_at w queue.receive).waiters in
    renewed_in v senders receivers p d
    ≡ renewed_in (changed queue.receive g (changed queue.send f (ready_all rs w))) (semaphore_at t queue.send).waiters rs p d)
both_changed q queue send receive f g d u v senders receivers p a used es er blind c =
    let t = d.state.tables in
    let ss = (semaphore_at t queue.send).waiters in
    let w = ready_all ss t in
    let rs = (semaphore_at w queue.receive).waiters in
    let n = (a.each q queue used).differ in
    let x = released_to queue.send f t in
    let between : u ≡ x = c.between ∙ ap (λ s. released_to s f t) es in
    let tables : v ≡ changed queue.receive g (changed queue.send f (ready_all rs w))
    = c.after ∙ ap (λ r. released_to r g u) er ∙ ap (released_to queue.receive g) between ∙ in_turn t queue.send queue.receive f g blind n in
    let first : senders ≡ ss = c.first ∙ ap (λ s. (semaphore_at t s).waiters) es in
    let second : receivers ≡ rs = c.second ∙ ap (λ r. (semaphore_at u r).waiters) er ∙ ap (λ u. (semaphore_at u queue.receive).waiters) between
    ∙ ap (λ (y : Semaphore). y.waiters) (changed_other w queue.send queue.receive f n) in
    ap (λ v. renewed_in v senders receivers p d) tables
    ∙ ap (λ l. renewed_in (changed queue.receive g (changed queue.send f (ready_all rs w))) l receivers p d) first
    ∙ ap (λ l. renewed_in (changed queue.receive g (changed queue.send f (ready_all rs w))) ss l p d) second

-- the head is that of the queue
head_is : (q : ℕ) (head : PortHead) (queue : PortQueue) (d : CallState) → IsRenewable q head d → (port_at d.state.parts.ports q).queue ≡ Some queue
    → head ≡ head_of queue
head_is q head queue d r used =
    let e : Some r.has.queue ≡ Some queue = sym r.has.used ∙ used in
    let same : r.has.queue ≡ queue = cc in
    r.has.is ∙ ap head_of same

-- a first count isn't negative
pub head_counted : (head : PortHead) (queue : PortQueue) → head ≡ head_of queue → pos 0 ≤ℤ head.first_count
head_counted head queue is = subst (λ (x : PortHead). pos 0 ≤ℤ x.first_count) (sym is) (omega (arith, ints))

-- A port is deleted.
pub port_deleted : (q : ℕ) (head : PortHead) (queue : PortQueue) (d : CallState) (u v : Tables) (senders receivers : List ℕ) (p : PortTable)
    → IsRenewable q head d → (port_at d.state.parts.ports q).queue ≡ Some queue → AreChanged head.send head.receive given_up given_up d.state.tables u v senders receivers
    → p ≡ with_deleted q (table_of d.state)
    → renewed_in v senders receivers p d ≡ deleted q queue (emptied queue.receive (emptied queue.send d))
port_deleted q head queue d u v senders receivers p r used c e =
    let t = d.state.tables in
    let k = r.tables in
    let a = r.ports in
    let is = head_is q head queue d r used in
    let ss = (semaphore_at t queue.send).waiters in
    let w = ready_all ss t in
    let rs = (semaphore_at w queue.receive).waiters in
    both_changed q queue head.send head.receive given_up given_up d u v senders receivers p a used (ap (λ (x : PortHead). x.send) is)
    (ap (λ (x : PortHead). x.receive) is) given_up_blindly c
    ∙ ap (λ p. renewed_in (changed queue.receive given_up (changed queue.send given_up (ready_all rs w))) ss rs p d) e
    ∙ sym (ap (deleted q queue) (both_emptied q queue d k a used))

-- A port is reset.
pub port_reset : (q : ℕ) (head : PortHead) (queue : PortQueue) (d : CallState) (u v : Tables) (senders receivers : List ℕ) (p : PortTable)
    → IsRenewable q head d → (port_at d.state.parts.ports q).queue ≡ Some queue
    → AreChanged head.send head.receive (with_count (tokens_of head.first_count)) (with_count 0) d.state.tables u v senders receivers
    → p ≡ with_reset q (table_of d.state)
    → renewed_in v senders receivers p d ≡ emptied_port q queue (emptied queue.receive (emptied queue.send d))
port_reset q head queue d u v senders receivers p r used c e =
    let t = d.state.tables in
    let k = r.tables in
    let a = r.ports in
    let is = head_is q head queue d r used in
    let n = tokens_of head.first_count in
    let en : n ≡ queue.first_count = ap (λ (x : PortHead). tokens_of x.first_count) is in
    let ports = d.state.parts.ports in
    let ss = (semaphore_at t queue.send).waiters in
    let w = ready_all ss t in
    let rs = (semaphore_at w queue.receive).waiters in
    let x = changed queue.receive (with_count 0) (changed queue.send (with_count n) (ready_all rs w)) in
    both_changed q queue head.send head.receive (with_count n) (with_count 0) d u v senders receivers p a used (ap (λ (x : PortHead). x.send) is)
    (ap (λ (x : PortHead). x.receive) is) (counted_blindly n) c
    ∙ ap (λ p. renewed_in x ss rs p d) e
    ∙ ap (λ o. renewed_in x ss rs (record { ports = renewed q (table.emptied o) ports; next_port = d.state.parts.next_port }) d) used
    ∙ ap (λ n. renewed_in (changed queue.receive (with_count 0) (changed queue.send (with_count n) (ready_all rs w))) ss rs
    (record { ports = renewed q (Some (record queue { messages = [] })) ports; next_port = d.state.parts.next_port }) d) en
    ∙ sym (ap (emptied_port q queue) (both_emptied q queue d k a used))

-- The port that a word names is in use with this head, and may be cleared so.
pub record Clears (how q : ℕ) (head : PortHead) (s : Xinu) : Type 0 where
  pub queue : PortQueue
  pub used : (port_at s.parts.ports q).queue ≡ Some queue
  pub is : head ≡ head_of queue
  pub allowed : nat_le how 1 ≡ true

pub clears : (word how q : ℕ) (head : PortHead) (s : Xinu) → q ≡ word → Some head ≡ option_map head_of (cleared_queue word how s)
    → Clears how q head s
clears word how q head s named f = by_test (nat_le how 1) refl (port_at s.parts.ports word).queue refl f
  where
    by_test : (b : Bool) → nat_le how 1 ≡ b → (o : Option PortQueue) → (port_at s.parts.ports word).queue ≡ o
        → Some head ≡ option_map head_of (cond b o None) → Clears how q head s
    by_test true h (Some queue) e f = record { queue = queue; used = ap (λ n. (port_at s.parts.ports n).queue) named ∙ e; is = cc; allowed = h }
    by_test true h None e f = absurd (cc)
    by_test false h o e f = absurd (cc)

-- What is known once the messages of port q were disposed of: it can be cleared, and the ports are the same.
pub record IsDisposed (q : ℕ) (head : PortHead) (d e : CallState) : Type 0 where
  pub clears : CanClear q head e
  pub same : e.state.parts.ports ≡ d.state.parts.ports

pub is_disposed : (q how : ℕ) (head : PortHead) (d e : CallState) → IsSoundTables d.state.tables → ArePools d.state.tables d.state.parts.pools
    → ArePorts d.state.tables d.state.parts.ports → ((r : ℕ) → (port_at d.state.parts.ports r).seq < 4294967295) → Clears how q head d.state
    → e ≡ disposed how (queued (port_at d.state.parts.ports q).queue) d → IsDisposed q head d e
is_disposed q how head d e k p a n c is =
    let kept = disposed_keeps how (queued (port_at d.state.parts.ports q).queue) d k p in
    subst (IsDisposed q head d) (sym is) (record {
      clears = record {
        tables = kept.tables;
        ports = kept.ports a;
        used = ap Some c.is ∙ sym (ap (option_map head_of) c.used) ∙ ap (λ l. option_map head_of (port_at l q).queue) (sym kept.same);
        number = subst (λ l. (port_at l q).seq < 4294967295) (sym kept.same) (n q);
      };
      same = kept.same;
    })

-- what a call that begins disposes of are the messages of its port
pub disposed_at_start : (q how : ℕ) (queue : PortQueue) (d e : CallState) → d ≡ start d.state → (port_at d.state.parts.ports q).queue ≡ Some queue
    → e ≡ disposed how (queued (port_at d.state.parts.ports q).queue) d → e ≡ disposed how queue.messages (start d.state)
disposed_at_start q how queue d e begins used is =
    is ∙ ap (λ o. disposed how (queued o) d) used ∙ ap (disposed how queue.messages) begins

-- call 32
pub ptdelete_is : (s : Xinu) (q word how : ℕ) (queue : PortQueue) → q ≡ word → (port_at s.parts.ports q).queue ≡ Some queue
    → nat_le how 1 ≡ true → returns (deleted q queue (cleared how queue (start s))) OK ≡ ptdelete word how s
ptdelete_is s q word how queue named used h =
    sym (ap (λ b. cond b (returns (deleted q queue (cleared how queue (start s))) OK) (refused s)) h)
    ∙ sym (ap (λ o. model.deleted_where o q how s) used) ∙ ap (λ n. ptdelete n how s) named

-- call 33
pub ptreset_is : (s : Xinu) (q word how : ℕ) (queue : PortQueue) → q ≡ word → (port_at s.parts.ports q).queue ≡ Some queue
    → nat_le how 1 ≡ true → returns (emptied_port q queue (cleared how queue (start s))) OK ≡ ptreset word how s
ptreset_is s q word how queue named used h =
    sym (ap (λ b. cond b (returns (emptied_port q queue (cleared how queue (start s))) OK) (refused s)) h)
    ∙ sym (ap (λ o. model.reset_where o q how s) used) ∙ ap (λ n. ptreset n how s) named

-- what is under way once a port is made
abbrev pub made_in : Tables → PortTable → Xinu → CallState
made_in t p s = start (record s { tables = t; parts = record s.parts { ports = p.ports; next_port = p.next_port } })

-- call 31
pub ptcreate_is : (s : Xinu) (q a b : ℕ) (count : ℤ) (t : Tables) (p : PortTable) → Some q ≡ free_place (table_of s)
    → ◌≡◌ {A = Option (ℕ × ℕ)} (Some (a, b)) (two_numbers (owner.Port q) count s.tables) → t ≡ with_two (Some (a, b)) (owner.Port q) count s.tables
    → p ≡ with_made q (record { first_count = count; send = a; receive = b }) (table_of s)
    → returns (made_in t p s) (pos q) ≡ ptcreate count s
ptcreate_is s q a b (negsuc n) t p e f g h = absurd (let x = (are_found a b (owner.Port q) (negsuc n) s.tables f).one in cc)
ptcreate_is s q a b (pos n) t p e f g h =
    let found = are_found a b (owner.Port q) (pos n) s.tables f in
    ap (λ t. returns (made_in t p s) (pos q)) g
    ∙ ap (λ p. returns (made_in (with_two (Some (a, b)) (owner.Port q) (pos n) s.tables) p s) (pos q)) h
    ∙ ap (λ o. made_port o q n a s) found.other
    ∙ ap (λ o. started_port (Some q) o n s) found.one
    ∙ ap (λ o. started_port o (free_semaphore s.tables) n s) e

-- it is refused if no port is free,
pub no_port_made : (s : Xinu) (count : ℤ) → None ≡ free_place (table_of s) → refused s ≡ ptcreate count s
no_port_made s (negsuc n) e = refl
no_port_made s (pos n) e = ap (λ o. started_port o (free_semaphore s.tables) n s) e

-- and if the count is negative or no two semaphores are
pub no_two_made : (s : Xinu) (q : ℕ) (count : ℤ) → Some q ≡ free_place (table_of s) → None ≡ two_numbers (owner.Port q) count s.tables
    → refused s ≡ ptcreate count s
no_two_made s q (negsuc n) e f = refl
no_two_made s q (pos n) e f = by_first (free_semaphore s.tables) f ∙ ap (λ o. started_port o (free_semaphore s.tables) n s) e
  where
    by_second : (a : ℕ) (o : Option ℕ) → None ≡ paired a o → refused s ≡ made_port o q n a s
    by_second a None f = refl
    by_second a (Some b) f = absurd (cc)

    by_first : (o : Option ℕ) → None ≡ second_number o (owner.Port q) (pos n) s.tables → refused s ≡ started_port (Some q) o n s
    by_first None f = refl
    by_first (Some a) f = by_second a (free_semaphore (make_semaphore a (owner.Port q) n s.tables)) f
