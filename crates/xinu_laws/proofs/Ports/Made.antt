-- A port is made: with a number and two semaphores that a search found.
use Rattle.std.proofs.Common.{◌≡◌, ◌≢◌, ◌⊎◌, ℕ, ◌+◌, ◌<◌, true, not, [], Option, None, Some, inl, inr, refl, sym, ap, subst, ◌∙◌, arith, get_or-set_same, get_or-set_other, ℤ, pos, negsuc}
use Rattle.std.specs.Prelude.{is_some}
use Rattle.xinu_base.specs.declared.semaphores.Owner.{Owner}
use Rattle.xinu_base.specs.declared.semaphores.Owner.TheVariants as owner
use Rattle.xinu_model.specs.Machine.{Xinu, CallResult, refused}
use Rattle.xinu_model.specs.Ports.Queues.{PortQueue, most_ports, port_at, is_used}
use Rattle.xinu_model.specs.Ports.Calls.{free_port, with_port, made_port, started_port, ptcreate}
use Rattle.xinu_model.specs.Semaphores.Counts.{make_semaphore, free_semaphore}
use Rattle.xinu_model.specs.Sound.Tables.{IsSoundTables}
use Rattle.xinu_model.specs.Sound.Ports.{ArePorts}
use Rattle.xinu_laws.specs.Touches.{Touches}
use Rattle.xinu_model.specs.Tables.{Semaphore, no_semaphore, Tables, semaphore_at}
use Rattle.xinu_laws.proofs.Touches.Ports.{with_port_touches}
use Rattle.table_laws.proofs.Tables.Changes.{sound_made_semaphore}
use Rattle.table_laws.specs.Preserve.{IsPreserved, MayCall}
use Rattle.table_laws.proofs.Preserve.{refused_preserves}
use Rattle.table_laws.proofs.Tables.Found.{free_semaphore_free}
use Rattle.table_laws.proofs.Tables.MoveTo.{by_number}
use Rattle.table_laws.proofs.Lists.Searches.{search_passes, search_within}
use Rattle.xinu_laws.proofs.Ports.Renewed.{IsNewPort, ports_renewed}
use Rattle.xinu_laws.proofs.Ports.Renewals.{beside_ports, port_reached_alone}
use Rattle.xinu_laws.proofs.Ports.Signals.{HasPorts}

-- What a call on a port keeps: what holds of tables and ports.
pub record PreservesPorts (h : CallResult) : Type 0 where
  pub preserved : IsPreserved h
  pub ports : HasPorts h.call

-- a refusal keeps all
pub refused_on_ports : (s : Xinu) → MayCall s → ArePorts s.tables s.parts.ports → PreservesPorts (refused s)
refused_on_ports s c a = record { preserved = refused_preserves s c; ports = a }

-- a semaphore that is made is its owner's
made_here : (t : Tables) (sem tokens : ℕ) (by : Owner) → IsSoundTables t → sem < 128
    → semaphore_at (make_semaphore sem by tokens t) sem ≡ record { owner = Some by; tokens = tokens; waiters = [] }
made_here t sem tokens by k w =
    get_or-set_same t.semaphores sem (record { owner = Some by; tokens = tokens; waiters = [] }) no_semaphore
    (let e = k.inside.semaphores in omega arith)

-- and the others are what they were
made_other : (t : Tables) (sem r tokens : ℕ) (by : Owner) → r ≢ sem → semaphore_at (make_semaphore sem by tokens t) r ≡ semaphore_at t r
made_other t sem r tokens by n =
    get_or-set_other t.semaphores sem r (record { owner = Some by; tokens = tokens; waiters = [] }) no_semaphore n

-- Port q is made with two semaphores that aren't in use.
pub port_made : (q n send receive : ℕ) (s : Xinu) → MayCall s → ArePorts s.tables s.parts.ports → q < most_ports
    → (port_at s.parts.ports q).queue ≡ None → send < 128 → (semaphore_at s.tables send).owner ≡ None → receive < 128
    → (semaphore_at (make_semaphore send (owner.Port q) n s.tables) receive).owner ≡ None → PreservesPorts (with_port q n send receive s)
port_made q n send receive s c a w unused ws fs wr fr =
    let t = s.tables in
    let by = owner.Port q in
    let u = make_semaphore send by n t in
    let v = make_semaphore receive by 0 u in
    let ku = sound_made_semaphore t send n by c.tables ws fs (λ f. cc) in
    let kv = sound_made_semaphore u receive 0 by ku wr fr (λ f. cc) in
    let differ : receive ≢ send = λ e. (let f = ap (λ (x : Semaphore). x.owner) (made_here t send n by c.tables ws) in
    let g : (semaphore_at u send).owner ≡ None = subst (λ r. (semaphore_at u r).owner ≡ None) e fr in cc) in
    let at_send : semaphore_at v send ≡ record { owner = Some by; tokens = n; waiters = [] } = made_other u receive send 0 by (λ e. differ (sym e)) ∙ made_here t send n by c.tables ws in
    let at_receive = made_here u receive 0 by ku wr in
    let queue : PortQueue = record { first_count = n; send = send; receive = receive; messages = [] } in
    let touches : Touches (beside_ports q) s (with_port q n send receive s).call.state = with_port_touches q
    (port_reached_alone q) n send receive s fs fr in
    let new : IsNewPort v q queue = record {
      send_owner = ap (λ (x : Semaphore). x.owner) at_send;
      receive_owner = ap (λ (x : Semaphore). x.owner) at_receive;
      differ = λ e. differ (sym e);
      no_senders = ap (λ (x : Semaphore). x.waiters) at_send;
      no_receivers = ap (λ (x : Semaphore). x.waiters) at_receive;
      room = ap (λ (x : Semaphore). x.tokens) at_send;
      no_tokens = ap (λ (x : Semaphore). x.tokens) at_receive;
      empty = refl;
    } in
    let owned : (r : ℕ) → (semaphore_at v r).owner ≡ Some by → (r ≡ send) ⊎ (r ≡ receive) = λ r. by_number r receive
    (λ k. (semaphore_at v k).owner ≡ Some by → (k ≡ send) ⊎ (k ≡ receive))
    (λ e. inr refl)
    (λ m e. by_number r send (λ k. (semaphore_at u k).owner ≡ Some by → (k ≡ send) ⊎ (k ≡ receive))
    (λ f. inl refl)
    (λ j f. (let h = a.owned r q (sym (ap (λ (x : Semaphore). x.owner) (made_other t send r n by j)) ∙ f) in let h1 = h.1 in cc))
    (sym (ap (λ (x : Semaphore). x.owner) (made_other u receive r 0 by m)) ∙ e)) in
    record {
      preserved = record { tables = kv; harts = c.harts; released = tt };
      ports = ports_renewed q (Some queue) t v s.parts.ports w kv.inside touches.frame (record { rests = λ p h. refl })
          (λ x f. subst (λ (y : PortQueue). IsNewPort v q y) (let g : queue ≡ x = cc in g) new)
          (λ r f. (queue, refl, owned r f)) refl a;
    }

-- a port that isn't in use has no queue
unused_queue : (found : Option PortQueue) → not (is_some found) ≡ true → found ≡ None
unused_queue None h = refl
unused_queue (Some queue) h = cc

-- the second semaphore is found or not
made_on_ports : (found : Option ℕ) (q n send : ℕ) (s : Xinu) → MayCall s → ArePorts s.tables s.parts.ports → q < most_ports
    → (port_at s.parts.ports q).queue ≡ None → send < 128 → (semaphore_at s.tables send).owner ≡ None
    → free_semaphore (make_semaphore send (owner.Port q) n s.tables) ≡ found → PreservesPorts (made_port found q n send s)
made_on_ports None q n send s c a w unused ws fs e = refused_on_ports s c a
made_on_ports (Some receive) q n send s c a w unused ws fs e =
    let u = make_semaphore send (owner.Port q) n s.tables in
    port_made q n send receive s c a w unused ws fs
    (search_within (λ r. not (is_some (semaphore_at u r).owner)) 128 (u.last_semaphore + 1) receive e) (free_semaphore_free u receive e)

-- the number and the first semaphore are found or not
start_on_ports : (found first : Option ℕ) (n : ℕ) (s : Xinu) → MayCall s → ArePorts s.tables s.parts.ports → free_port s ≡ found
    → free_semaphore s.tables ≡ first → PreservesPorts (started_port found first n s)
start_on_ports None first n s c a e f = refused_on_ports s c a
start_on_ports (Some q) None n s c a e f = refused_on_ports s c a
start_on_ports (Some q) (Some send) n s c a e f =
    let unused = λ (r : ℕ). not (is_used (port_at s.parts.ports r)) in
    made_on_ports (free_semaphore (make_semaphore send (owner.Port q) n s.tables)) q n send s c a
    (search_within unused most_ports s.parts.next_port q e)
    (unused_queue (port_at s.parts.ports q).queue (search_passes unused most_ports s.parts.next_port q e))
    (search_within (λ r. not (is_some (semaphore_at s.tables r).owner)) 128 (s.tables.last_semaphore + 1) send f)
    (free_semaphore_free s.tables send f) refl

-- Call 31.
pub ptcreate_on_ports : (count : ℤ) (s : Xinu) → MayCall s → ArePorts s.tables s.parts.ports → PreservesPorts (ptcreate count s)
ptcreate_on_ports (negsuc n) s c a = refused_on_ports s c a
ptcreate_on_ports (pos n) s c a = start_on_ports (free_port s) (free_semaphore s.tables) n s c a refl refl
