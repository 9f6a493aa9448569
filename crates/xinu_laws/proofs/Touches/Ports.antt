-- What the calls on ports touch. What is shown of one port holds for any reach that allows this port, so also for one that allows no other.
use Rattle.std.proofs.Common.{◌≡◌, ℕ, suc, ◌==◌, ◌++◌, true, false, List, [], ◌∷◌, Option, None, Some, refl, ap, subst, ◌∙◌, ℤ, pos, negsuc}
use Rattle.std.specs.Prelude.{nat_le}
use Rattle.std.proofs.lemmas.Bool.{cond_both}
use Rattle.xinu_base.specs.declared.processes.PortTicket.{PortTicket}
use Rattle.xinu_base.specs.declared.processes.Rest.{Rest}
use Rattle.xinu_base.specs.declared.processes.Rest.TheVariants.{Nothing, PtSend, PtRecv}
use Rattle.xinu_base.specs.declared.semaphores.Owner.TheVariants as owner
use Rattle.xinu_model.specs.Footprints.{on_ports, on_ports_and_pools}
use Rattle.xinu_model.specs.Machine.{Xinu, Panics, CallState, start, refused, returns, goes_on}
use Rattle.xinu_model.specs.Messages.{held}
use Rattle.xinu_model.specs.Ports.Calls.{free_port, with_port, made_port, started_port, ptcreate, freed_buffers, disposed, cleared, deleted, emptied_port, deleted_where, ptdelete, reset_where, ptreset, with_messages, put_message, finish_send, take_message, take_from, finish_receive, ticket_of, sent_to, ptsend, received_from, ptrecv, go_on_ptsend, go_on_ptrecv}
use Rattle.xinu_model.specs.Ports.Queues.{PortQueue, MessagePort, most_nodes, port_at, nodes, is_stale}
use Rattle.xinu_model.specs.Semaphores.Counts.{free_semaphore, make_semaphore, with_tokens, with_semaphore}
use Rattle.xinu_model.specs.Semaphores.Waiting.{signalled, emptied}
use Rattle.xinu_model.specs.Sound.Tables.{IsInside, IsSoundTables, FitsOwner, IsForPort}
use Rattle.xinu_model.specs.Sound.State.{IsSound}
use Rattle.xinu_model.specs.Tables.{no_semaphore, Tables, process_at, semaphore_at, Nowhere}
use Rattle.xinu_laws.specs.Touches.{Reach, reach, Touches}
use Rattle.table_laws.proofs.Tables.Changes.{sound_token_taken}
use Rattle.table_laws.proofs.Preserve.{sound_goes_on}
use Rattle.table_laws.proofs.Frame.MoveTo.{owner_move}
use Rattle.table_laws.proofs.Tables.Found.{free_semaphore_free}
use Rattle.table_laws.proofs.Tables.Owners.{owner_tokens}
use Rattle.xinu_laws.proofs.Ports.Kept.{is_ports}
use Rattle.table_laws.proofs.Tables.MoveTo.{semaphore_within}
use Rattle.table_laws.proofs.Tables.Unblock.{sound_emptied, owner_emptied}
use Rattle.xinu_laws.proofs.Touches.{StaysIn, parts_ports, touches_parts, touches_refl, touches_trans, touches_either, touches_if}
use Rattle.xinu_laws.proofs.Touches.Moves.{MayTouch, touches_semaphore, touches_tokens, touches_make_semaphore, touches_signalled, touches_emptied, still_touched, touches_take_token, touches_goes_on}
use Rattle.xinu_laws.proofs.Touches.Pools.{HasPools, OwnSemaphores, own_semaphores, freed_buffers_touch, freed_buffers_sound}

-- A reach that allows port q to change.
pub record HasPort (f : Reach) (q : ℕ) : Type 0 where
  pub none : (sem : ℕ) → f.mine sem None ≡ false
  pub owner : (sem : ℕ) → f.mine sem (Some (owner.Port q)) ≡ false
  pub waits : (sem : ℕ) (left : Rest) → IsForPort q sem left → f.asks left ≡ false
  pub nothing : f.asks Nothing ≡ false
  pub parts : f.parts.ports ≡ true

-- that of the calls on ports allows each
pub port_reached : (q : ℕ) → HasPort (reach on_ports) q
port_reached q = record { none = λ sem. refl; owner = λ sem. refl; waits = waits; nothing = refl; parts = refl }
  where
    waits : (sem : ℕ) (left : Rest) → IsForPort q sem left → (reach on_ports).asks left ≡ false
    waits sem (PtSend ticket message) h = refl
    waits sem (PtRecv ticket) h = refl
    waits sem _ h = absurd h

-- and so does that of the calls that give messages back as buffers
deleted_reached : (q : ℕ) → HasPort (reach on_ports_and_pools) q
deleted_reached q = record { none = λ sem. refl; owner = λ sem. refl; waits = waits; nothing = refl; parts = refl }
  where
    waits : (sem : ℕ) (left : Rest) → IsForPort q sem left → (reach on_ports_and_pools).asks left ≡ false
    waits sem (PtSend ticket message) h = refl
    waits sem (PtRecv ticket) h = refl
    waits sem _ h = absurd h

pools_reached_too : HasPools (reach on_ports_and_pools)
pools_reached_too = record { owner = λ sem i. refl; waits = λ i. refl; parts = refl }

-- Each port names two semaphores of its own.
pub record OwnPorts (t : Tables) (ports : List MessagePort) : Type 0 where
  pub send : (q : ℕ) (queue : PortQueue) → (port_at ports q).queue ≡ Some queue → (semaphore_at t queue.send).owner ≡ Some (owner.Port q)
  pub receive : (q : ℕ) (queue : PortQueue) → (port_at ports q).queue ≡ Some queue
      → (semaphore_at t queue.receive).owner ≡ Some (owner.Port q)

-- if the ports are sound each does
pub own_ports : (s : Xinu) → IsSound s → OwnPorts s.tables s.parts.ports
own_ports s k = record { send = λ q queue e. (k.ports.each q queue e).send_owner; receive = λ q queue e. (k.ports.each q queue e).receive_owner }

-- and still does if semaphores keep their owners
own_kept : (t u : Tables) (ports : List MessagePort) → ((sem : ℕ) → (semaphore_at u sem).owner ≡ (semaphore_at t sem).owner)
    → OwnPorts t ports → OwnPorts u ports
own_kept t u ports same k = record { send = λ q queue e. same queue.send ∙ k.send q queue e; receive = λ q queue e. same queue.receive ∙ k.receive q queue e }

module _ {f : Reach} (q : ℕ) (a : HasPort f q) where
  -- a semaphore of the port may be touched
  pub port_may_be_touched : (t : Tables) (sem : ℕ) → (semaphore_at t sem).owner ≡ Some (owner.Port q) → MayTouch f t sem
  port_may_be_touched t sem e = record {
    owner = ap (f.mine sem) e ∙ a.owner sem;
    rests = λ left g. a.waits sem left (subst (λ o. FitsOwner sem o left) e g);
  }

  -- A port is made with two semaphores that no one owns.
  pub with_port_touches : (n send receive : ℕ) (s : Xinu) → (semaphore_at s.tables send).owner ≡ None
      → (semaphore_at (make_semaphore send (owner.Port q) n s.tables) receive).owner ≡ None
      → Touches f s (with_port q n send receive s).call.state
  with_port_touches n send receive s g h =
      let u = record s { tables = make_semaphore send (owner.Port q) n s.tables } in
      let v = record u { tables = make_semaphore receive (owner.Port q) 0 u.tables } in
      let first : Touches f s u = touches_make_semaphore s send (owner.Port q) n (ap (f.mine send) g ∙ a.none send) (a.owner send) in
      let then_ : Touches f u v = touches_make_semaphore u receive (owner.Port q) 0 (ap (f.mine receive) (h) ∙ a.none receive)
      (a.owner receive) in
      touches_trans (touches_trans first then_) (touches_parts v _ refl refl (λ _. refl) (parts_ports a.parts s.parts _ _))

  -- a port is made, if the second semaphore is found
  made_port_touches : (found : Option ℕ) (n send : ℕ) (s : Xinu) → (semaphore_at s.tables send).owner ≡ None
      → free_semaphore (make_semaphore send (owner.Port q) n s.tables) ≡ found
      → Touches f s (made_port found q n send s).call.state
  made_port_touches None n send s g h = touches_refl s
  made_port_touches (Some receive) n send s g h =
      with_port_touches n send receive s g (free_semaphore_free (make_semaphore send (owner.Port q) n s.tables) receive h)

  -- A message goes into the port.
  pub put_message_touches : (found : Option PortQueue) (message : ℕ) (s : Xinu) → (port_at s.parts.ports q).queue ≡ found
      → IsInside s.tables → OwnPorts s.tables s.parts.ports
      → Touches f s (put_message found q message s).call.state
  put_message_touches None message s e o k = touches_refl s
  put_message_touches (Some queue) message s e o k =
      let d = with_messages q queue (queue.messages ++ message ∷ []) (start s) in
      touches_either s (nat_le most_nodes (nodes s.parts.ports)) (record { call = start s; answer = Panics }) (returns (signalled queue.receive d) (pos 0)) (λ _. touches_refl s)
      (λ _. touches_trans (touches_parts s d.state refl refl (λ _. refl) (parts_ports a.parts s.parts _ _))
      (touches_signalled queue.receive d o (port_may_be_touched s.tables queue.receive (k.receive q queue e))))

  -- A message is taken from the port.
  pub take_message_touches : (messages : List ℕ) (queue : PortQueue) (s : Xinu) → (port_at s.parts.ports q).queue ≡ Some queue
      → IsInside s.tables → OwnPorts s.tables s.parts.ports
      → Touches f s (take_message messages queue q s).call.state
  take_message_touches [] queue s e o k = touches_refl s
  take_message_touches (message ∷ messages) queue s e o k =
      let d = with_messages q queue messages (start s) in
      touches_trans (touches_parts s d.state refl refl (λ _. refl) (parts_ports a.parts s.parts _ _))
      (touches_signalled queue.send d o (port_may_be_touched s.tables queue.send (k.send q queue e)))

  -- All who wait on the two semaphores of the port go on.
  pub port_cleared_touches : (queue : PortQueue) (d : CallState) → IsSoundTables d.state.tables
      → (semaphore_at d.state.tables queue.send).owner ≡ Some (owner.Port q)
      → (semaphore_at d.state.tables queue.receive).owner ≡ Some (owner.Port q)
      → Touches f d.state (emptied queue.receive (emptied queue.send d)).state
  port_cleared_touches queue d k send receive =
      let one = emptied queue.send d in
      touches_trans (touches_emptied queue.send d k.inside (port_may_be_touched d.state.tables queue.send send))
      (touches_emptied queue.receive one (sound_emptied queue.send d k).inside
      (port_may_be_touched one.state.tables queue.receive (owner_emptied queue.send queue.receive d ∙ receive)))

  -- the messages are gone and the port is deleted
  pub deleted_touches : (queue : PortQueue) (d : CallState) → (semaphore_at d.state.tables queue.send).owner ≡ Some (owner.Port q)
      → (semaphore_at d.state.tables queue.receive).owner ≡ Some (owner.Port q)
      → Touches f d.state (deleted q queue d).state
  deleted_touches queue d send receive =
      let t = d.state.tables in
      let u = record d.state { tables = with_semaphore queue.send no_semaphore t } in
      let v = record u { tables = with_semaphore queue.receive no_semaphore u.tables } in
      let first : Touches f d.state u = touches_semaphore d.state queue.send no_semaphore (port_may_be_touched t queue.send send).owner
      (a.none queue.send) in
      let then_ : Touches f u v = touches_semaphore u queue.receive no_semaphore
      (still_touched queue.receive first (port_may_be_touched t queue.receive receive)) (a.none queue.receive) in
      touches_trans (touches_trans first then_) (touches_parts v _ refl refl (λ _. refl) (parts_ports a.parts d.state.parts _ _))

  -- or is as it was when it was made
  pub emptied_port_touches : (queue : PortQueue) (d : CallState) → (semaphore_at d.state.tables queue.send).owner ≡ Some (owner.Port q)
      → (semaphore_at d.state.tables queue.receive).owner ≡ Some (owner.Port q)
      → Touches f d.state (emptied_port q queue d).state
  emptied_port_touches queue d send receive =
      let t = d.state.tables in
      let u = record d.state { tables = with_tokens queue.send queue.first_count t } in
      let v = record u { tables = with_tokens queue.receive 0 u.tables } in
      let first : Touches f d.state u = touches_tokens d.state queue.send queue.first_count (port_may_be_touched t queue.send send).owner in
      let then_ : Touches f u v = touches_tokens u queue.receive 0
      (still_touched queue.receive first (port_may_be_touched t queue.receive receive)) in
      touches_trans (touches_trans first then_) (touches_parts v _ refl refl (λ _. refl) (parts_ports a.parts d.state.parts _ _))

-- a call on a port ends, unless its ticket is stale
finish_send_touches : (ticket : PortTicket) (message : ℕ) (s : Xinu) → IsInside s.tables → OwnPorts s.tables s.parts.ports
    → Touches (reach on_ports) s (finish_send ticket message s).call.state
finish_send_touches ticket message s o k =
    touches_either s (is_stale ticket s.parts.ports) (refused s)
    (put_message (port_at s.parts.ports ticket.port).queue ticket.port message s) (λ _. touches_refl s)
    (λ _. put_message_touches ticket.port (port_reached ticket.port) (port_at s.parts.ports ticket.port).queue message s refl o k)

take_from_touches : (found : Option PortQueue) (q : ℕ) (s : Xinu) → (port_at s.parts.ports q).queue ≡ found → IsInside s.tables
    → OwnPorts s.tables s.parts.ports → Touches (reach on_ports) s (take_from found q s).call.state
take_from_touches None q s e o k = touches_refl s
take_from_touches (Some queue) q s e o k = take_message_touches q (port_reached q) queue.messages queue s e o k

finish_receive_touches : (ticket : PortTicket) (s : Xinu) → IsInside s.tables → OwnPorts s.tables s.parts.ports
    → Touches (reach on_ports) s (finish_receive ticket s).call.state
finish_receive_touches ticket s o k =
    touches_either s (is_stale ticket s.parts.ports) (refused s) (take_from (port_at s.parts.ports ticket.port).queue ticket.port s)
    (λ _. touches_refl s)
    (λ _. take_from_touches (port_at s.parts.ports ticket.port).queue ticket.port s refl o k)

-- what holds of the tables for a caller that took a token of a port's semaphore
after_token : (q sem n : ℕ) (s : Xinu) → IsSound s → (semaphore_at s.tables sem).owner ≡ Some (owner.Port q)
    → (semaphore_at s.tables sem).tokens ≡ suc n
    → IsInside (with_tokens sem n s.tables) × OwnPorts (with_tokens sem n s.tables) s.parts.ports
after_token q sem n s k e tokens = (
  (sound_token_taken s.tables sem n k.tables (semaphore_within s.tables sem k.tables.inside.semaphores (λ g. cc)) tokens).inside,
  own_kept s.tables (with_tokens sem n s.tables) s.parts.ports (λ r. owner_tokens s.tables sem n r) (own_ports s k),
)

-- Call 34.
sent_to_touches : (found : Option PortQueue) (q message : ℕ) (s : Xinu) → (port_at s.parts.ports q).queue ≡ found → IsSound s
    → Touches (reach on_ports) s (sent_to found q message s).call.state
sent_to_touches None q message s e k = touches_refl s
sent_to_touches (Some queue) q message s e k =
    let sem = queue.send in
    let ticket = ticket_of q sem s in
    let by = (own_ports s k).send q queue e in
    let may = (port_may_be_touched q (port_reached q) s.tables sem by).owner in
    touches_take_token (semaphore_at s.tables sem).tokens sem (PtSend ticket message) (finish_send ticket message) s k.tables.runs may refl
    (λ n tokens. let u = record s { tables = with_tokens sem n s.tables } in
    let after = after_token q sem n s k by tokens in
    touches_trans (touches_tokens s sem n may) (finish_send_touches ticket message u after.0 after.1))

pub ptsend_touches : (q message : ℕ) → StaysIn on_ports (ptsend q message)
ptsend_touches q message s k = sent_to_touches (port_at s.parts.ports q).queue q message s refl k

-- Call 35.
received_from_touches : (found : Option PortQueue) (q : ℕ) (s : Xinu) → (port_at s.parts.ports q).queue ≡ found → IsSound s
    → Touches (reach on_ports) s (received_from found q s).call.state
received_from_touches None q s e k = touches_refl s
received_from_touches (Some queue) q s e k =
    let sem = queue.receive in
    let ticket = ticket_of q sem s in
    let by = (own_ports s k).receive q queue e in
    let may = (port_may_be_touched q (port_reached q) s.tables sem by).owner in
    touches_take_token (semaphore_at s.tables sem).tokens sem (PtRecv ticket) (finish_receive ticket) s k.tables.runs may refl
    (λ n tokens. let u = record s { tables = with_tokens sem n s.tables } in
    let after = after_token q sem n s k by tokens in
    touches_trans (touches_tokens s sem n may) (finish_receive_touches ticket u after.0 after.1))

pub ptrecv_touches : (q : ℕ) → StaysIn on_ports (ptrecv q)
ptrecv_touches q s k = received_from_touches (port_at s.parts.ports q).queue q s refl k

-- and for a caller that goes on
after_waiting : (s : Xinu) → IsSound s → IsInside (goes_on (held s) s).tables × OwnPorts (goes_on (held s) s).tables s.parts.ports
after_waiting s k =
    let t = s.tables in (
      (sound_goes_on (held s) s k.tables).inside,
      own_kept t (goes_on (held s) s).tables s.parts.ports
          (λ r. owner_move t t.current (record (process_at t t.current) { rest = Nothing }) (held s) Nowhere r) (own_ports s k),
    )

-- The calls go on.
pub go_on_ptsend_touches : (ticket : PortTicket) (message : ℕ) → StaysIn on_ports (go_on_ptsend ticket message)
go_on_ptsend_touches ticket message s k =
    let after = after_waiting s k in touches_trans (touches_goes_on refl (held s) s k.tables.runs)
    (finish_send_touches ticket message (goes_on (held s) s) after.0 after.1)

pub go_on_ptrecv_touches : (ticket : PortTicket) → StaysIn on_ports (go_on_ptrecv ticket)
go_on_ptrecv_touches ticket s k =
    let after = after_waiting s k in touches_trans (touches_goes_on refl (held s) s k.tables.runs)
    (finish_receive_touches ticket (goes_on (held s) s) after.0 after.1)

-- Call 31.
started_port_touches : (found first : Option ℕ) (n : ℕ) (s : Xinu) → free_semaphore s.tables ≡ first
    → Touches (reach on_ports) s (started_port found first n s).call.state
started_port_touches None first n s e = touches_refl s
started_port_touches (Some q) None n s e = touches_refl s
started_port_touches (Some q) (Some send) n s e =
    made_port_touches q (port_reached q) (free_semaphore (make_semaphore send (owner.Port q) n s.tables)) n send s
    (free_semaphore_free s.tables send e) refl

pub ptcreate_touches : (count : ℤ) → StaysIn on_ports (ptcreate count)
ptcreate_touches (negsuc n) s k = touches_refl s
ptcreate_touches (pos n) s k = started_port_touches (free_port s) (free_semaphore s.tables) n s refl

-- the semaphores and calls of ports are left alone, and nothing else
abbrev ports_alone : Reach
ports_alone = record { mine = is_ports; asks = λ left. false; parts = on_ports_and_pools; clock = false }

pools_reached_there : HasPools ports_alone
pools_reached_there = record { owner = λ sem i. refl; waits = λ i. refl; parts = refl }

-- Messages are dropped, or given back as buffers.
module _ {f : Reach} (a : HasPools f) where
  disposed_touches : (how : ℕ) (messages : List ℕ) (d : CallState) → IsSoundTables d.state.tables
      → OwnSemaphores d.state.tables d.state.parts.pools → Touches f d.state (disposed how messages d).state
  disposed_touches how messages d t k =
      cond_both (how == 1) (freed_buffers messages d) d (λ e. Touches f d.state e.state) (λ _. freed_buffers_touch a messages d t k)
      (λ _. touches_refl d.state)

disposed_sound : (how : ℕ) (messages : List ℕ) (d : CallState) → IsSoundTables d.state.tables
    → OwnSemaphores d.state.tables d.state.parts.pools → IsSoundTables (disposed how messages d).state.tables
disposed_sound how messages d t k =
    cond_both (how == 1) (freed_buffers messages d) d (λ e. IsSoundTables e.state.tables) (λ _. freed_buffers_sound messages d t k) (λ _. t)

-- the messages are gone, and all who waited go on: the port still has its semaphores
pub record HasCleared (f : Reach) (q : ℕ) (queue : PortQueue) (d e : CallState) : Type 0 where
  pub touches : Touches f d.state e.state
  pub send : (semaphore_at e.state.tables queue.send).owner ≡ Some (owner.Port q)
  pub receive : (semaphore_at e.state.tables queue.receive).owner ≡ Some (owner.Port q)

cleared_touches : (q how : ℕ) (queue : PortQueue) (s : Xinu) → IsSound s → (port_at s.parts.ports q).queue ≡ Some queue
    → HasCleared (reach on_ports_and_pools) q queue (start s) (cleared how queue (start s))
cleared_touches q how queue s k here =
    let d = start s in
    let one = disposed how queue.messages d in
    let two = emptied queue.send one in
    let own = own_semaphores s.tables s.parts.pools k.pools in
    let ports = own_ports s k in
    let left = disposed_touches pools_reached_there how queue.messages d k.tables own in
    let keeps : (sem : ℕ) → (semaphore_at s.tables sem).owner ≡ Some (owner.Port q) → (semaphore_at one.state.tables sem).owner ≡ Some
    (owner.Port q) =
    λ sem e. (left.frame.kept sem (ap (is_ports sem) e)).0 ∙ e in
    let send = keeps queue.send (ports.send q queue here) in
    let receive = keeps queue.receive (ports.receive q queue here) in
    record {
      touches = touches_trans (disposed_touches pools_reached_too how queue.messages d k.tables own)
          (port_cleared_touches q (deleted_reached q) queue one (disposed_sound how queue.messages d k.tables own) send receive);
      send = owner_emptied queue.receive queue.send two ∙ (owner_emptied queue.send queue.send one ∙ send);
      receive = owner_emptied queue.receive queue.receive two ∙ (owner_emptied queue.send queue.receive one ∙ receive);
    }

-- Call 32.
deleted_where_touches : (found : Option PortQueue) (q how : ℕ) (s : Xinu) → (port_at s.parts.ports q).queue ≡ found → IsSound s
    → Touches (reach on_ports_and_pools) s (deleted_where found q how s).call.state
deleted_where_touches None q how s e k = touches_refl s
deleted_where_touches (Some queue) q how s e k = touches_if s (nat_le how 1) _
    (λ _. let c = cleared_touches q how queue s k e in touches_trans c.touches
    (deleted_touches q (deleted_reached q) queue (cleared how queue (start s)) c.send c.receive))

pub ptdelete_touches : (q how : ℕ) → StaysIn on_ports_and_pools (ptdelete q how)
ptdelete_touches q how s k = deleted_where_touches (port_at s.parts.ports q).queue q how s refl k

-- Call 33.
reset_where_touches : (found : Option PortQueue) (q how : ℕ) (s : Xinu) → (port_at s.parts.ports q).queue ≡ found → IsSound s
    → Touches (reach on_ports_and_pools) s (reset_where found q how s).call.state
reset_where_touches None q how s e k = touches_refl s
reset_where_touches (Some queue) q how s e k = touches_if s (nat_le how 1) _
    (λ _. let c = cleared_touches q how queue s k e in touches_trans c.touches
    (emptied_port_touches q (deleted_reached q) queue (cleared how queue (start s)) c.send c.receive))

pub ptreset_touches : (q how : ℕ) → StaysIn on_ports_and_pools (ptreset q how)
ptreset_touches q how s k = reset_where_touches (port_at s.parts.ports q).queue q how s refl k
