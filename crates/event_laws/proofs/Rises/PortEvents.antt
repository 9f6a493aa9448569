-- The number of a port rises by at most one in an event.
use Rattle.std.proofs.Common.{◌≡◌, ◌∙◌, ℕ, zero, suc, ◌+◌, ◌≤◌, ◌==◌, cond, false, List, [], ◌∷◌, ◌++◌, Option, Some, None, ℤ, pos, negsuc, set, nat_le, refl, ap, arith}
use Rattle.std.specs.Prelude.{slice_set}
use Rattle.std.proofs.lemmas.Bool.{cond_both, eqb-false}
use Rattle.xinu_base.specs.Constants.{OK}
use Rattle.xinu_base.specs.declared.processes.PortTicket.{PortTicket}
use Rattle.xinu_base.specs.declared.processes.Rest.{Rest}
use Rattle.xinu_base.specs.declared.processes.Rest.TheVariants as rest
use Rattle.xinu_base.specs.declared.registers.Outcome.{Outcome}
use Rattle.xinu_base.specs.declared.registers.Outcome.TheVariants as outcome
use Rattle.xinu_base.specs.declared.semaphores.Owner.TheVariants as owner
use Rattle.xinu_model.specs.Calls.{calls, continued}
use Rattle.xinu_model.specs.Clock.{ticked}
use Rattle.xinu_model.specs.Console.Signals.{keyed, sent_in, transmits}
use Rattle.xinu_model.specs.Console.Taking.{console_of}
use Rattle.xinu_model.specs.Console.Transmitting.{Sent, transmitted}
use Rattle.xinu_model.specs.Events.{call_of, with_executed, reacted, instruction_step, is_done, stepped}
use Rattle.xinu_model.specs.Machine.{Xinu, CallResult, CallState, current_hart, EventResult, blocked, goes_on, nothing_happens, end_of_event, Panics, Parts, refused, returns, start}
use Rattle.xinu_model.specs.Messages.{held}
use Rattle.xinu_model.specs.Process.Death.{exit}
use Rattle.xinu_model.specs.Pools.Buffers.{holder, pool_at, with_free}
use Rattle.xinu_model.specs.Pools.Calls.{freed_buffer, given_to}
use Rattle.xinu_model.specs.Ports.Calls.{cleared, deleted, deleted_where, disposed, emptied_port, finish_receive, finish_send, free_port, freed_buffers, made_port, ptcreate, put_message, received_from, reset_where, sent_to, started_port, take_from, take_message, ticket_of, with_messages, with_port}
use Rattle.xinu_model.specs.Ports.Queues.{MessagePort, PortQueue, is_stale, most_nodes, nodes, port_at}
use Rattle.xinu_model.specs.Semaphores.Counts.{free_semaphore, make_semaphore, with_tokens}
use Rattle.xinu_model.specs.Semaphores.Waiting.{emptied, signalled, take_token}
use Rattle.xinu_model.specs.Sound.State.{IsSound}
use Rattle.xinu_base.specs.declared.processes.State.TheVariants.{Waiting}
use Rattle.xinu_model.specs.Tables.{InSemaphore, process_at, semaphore_at}
use Rattle.xinu_model.specs.Words.{signed}
use Rattle.event_laws.specs.Ownership.GivingAway.{next}
use Rattle.xinu_laws.specs.Touches.{at_a_tick, touched_by, Touches}
use Rattle.xinu_laws.proofs.Consoles.Kept.{sound_holds}
use Rattle.xinu_laws.proofs.Consoles.Signalled.{receiving_signals, sending_signals}
use Rattle.xinu_laws.proofs.Rows.RowByRow.{◌⨾◌}
use Rattle.xinu_laws.proofs.Preserve.Calls.{sound_where_called}
use Rattle.xinu_laws.proofs.Preserve.Events.{may_call, may_call_after}
use Rattle.xinu_laws.proofs.Touches.Continued.{continued_touches}
use Rattle.xinu_laws.proofs.Touches.Events.{touches_ticked}
use Rattle.xinu_laws.proofs.Touches.Few.{IsLawOfFew, law_of_few}
use Rattle.xinu_laws.proofs.Touches.Moves.{parts_emptied, parts_signalled}
use Rattle.xinu_laws.proofs.Touches.Processes.{exit_touches}

-- from s to u no port's number rises by more than one
abbrev pub RisesOnce : Xinu → Xinu → Type 0
RisesOnce s u = (q : ℕ) → (port_at u.parts.ports q).seq ≤ (port_at s.parts.ports q).seq + 1

-- none rises if the ports stay
pub stays_once : (s u : Xinu) → u.parts.ports ≡ s.parts.ports → RisesOnce s u
stays_once s u e q = let f = ap (λ (ports : List MessagePort). (port_at ports q).seq) e in omega (arith, f)

-- the numbers with another port at q
set_once : (ports : List MessagePort) (q r : ℕ) (x : MessagePort) → x.seq ≤ (port_at ports q).seq + 1
    → (port_at (set ports q x) r).seq ≤ (port_at ports r).seq + 1
set_once [] zero zero x h = omega arith
set_once [] zero (suc r) x h = omega arith
set_once [] (suc q) zero x h = omega arith
set_once [] (suc q) (suc r) x h = omega arith
set_once (y ∷ ports) zero zero x h = h
set_once (y ∷ ports) zero (suc r) x h = omega arith
set_once (y ∷ ports) (suc q) zero x h = omega arith
set_once (y ∷ ports) (suc q) (suc r) x h = set_once ports q r x h

-- the same of a step in which port q alone changes
changed_once : (s u : Xinu) (q : ℕ) (x : MessagePort) → u.parts.ports ≡ set s.parts.ports q x → x.seq ≤ (port_at s.parts.ports q).seq + 1
    → RisesOnce s u
changed_once s u q x e h r =
    let f = ap (λ (ports : List MessagePort). (port_at ports r).seq) e in let g = set_once s.parts.ports q r x h in omega (arith, f, g)

-- call 31
made_once : (found : Option ℕ) (q n send : ℕ) (s : Xinu) → RisesOnce s (made_port found q n send s).call.state
made_once None q n send s = stays_once s s refl
made_once (Some receive) q n send s =
    let queue : PortQueue = record { first_count = n; send = send; receive = receive; messages = [] } in
    changed_once s (with_port q n send receive s).call.state q (record { seq = (port_at s.parts.ports q).seq + 1; queue = Some queue }) refl (omega arith)

started_once : (place sem : Option ℕ) (n : ℕ) (s : Xinu) → RisesOnce s (started_port place sem n s).call.state
started_once (Some q) (Some send) n s = made_once (free_semaphore (make_semaphore send (owner.Port q) n s.tables)) q n send s
started_once (Some q) None n s = stays_once s s refl
started_once None sem n s = stays_once s s refl

created_once : (count : ℤ) (s : Xinu) → RisesOnce s (ptcreate count s).call.state
created_once (negsuc n) s = stays_once s s refl
created_once (pos n) s = started_once (free_port s) (free_semaphore s.tables) n s

-- buffers that are given back leave the ports alone
freed_leaves : (a : ℕ) (d : CallState) → (freed_buffer a d).state.parts.ports ≡ d.state.parts.ports
freed_leaves a d = by_holder (holder a d.state.parts.pools)
  where
    by_holder : (found : Option ℕ) → (given_to found a d).state.parts.ports ≡ d.state.parts.ports
    by_holder None = refl
    by_holder (Some i) = ap (λ (p : Parts). p.ports) (parts_signalled (pool_at d.state.parts.pools i).semaphore
        (record d { state = record d.state { parts = record d.state.parts { pools = slice_set d.state.parts.pools i (with_free a (pool_at d.state.parts.pools i)) } } }))

all_freed_leave : (messages : List ℕ) (d : CallState) → (freed_buffers messages d).state.parts.ports ≡ d.state.parts.ports
all_freed_leave [] d = refl
all_freed_leave (a ∷ messages) d = all_freed_leave messages (freed_buffer a d) ∙ freed_leaves a d

-- so does all that comes before a port is deleted or reset
cleared_leaves : (how : ℕ) (queue : PortQueue) (d : CallState) → (cleared how queue d).state.parts.ports ≡ d.state.parts.ports
cleared_leaves how queue d =
    let e = disposed how queue.messages d in
    ap (λ (p : Parts). p.ports) (parts_emptied queue.receive (emptied queue.send e) ∙ parts_emptied queue.send e)
    ∙ cond_both (how == 1) (freed_buffers queue.messages d) d (λ (x : CallState). x.state.parts.ports ≡ d.state.parts.ports)
    (λ _. all_freed_leave queue.messages d) (λ _. refl)

-- a port gets the next number of one that has the number of s
next_once : (s u : Xinu) (ports : List MessagePort) (q : ℕ) (queue : Option PortQueue) → ports ≡ s.parts.ports
    → u.parts.ports ≡ set ports q (record { seq = (port_at ports q).seq + 1; queue = queue })
    → RisesOnce s u
next_once s u ports q queue e h =
    let x : MessagePort = record { seq = (port_at ports q).seq + 1; queue = queue } in
    let f = ap (λ (ports : List MessagePort). (port_at ports q).seq) e in
    changed_once s u q x (h ∙ ap (λ l. set l q x) e) (omega (arith, f))

-- call 32
delete_once : (found : Option PortQueue) (q how : ℕ) (s : Xinu) → RisesOnce s (deleted_where found q how s).call.state
delete_once None q how s = stays_once s s refl
delete_once (Some queue) q how s =
    let d = cleared how queue (start s) in
    cond_both (nat_le how 1) (returns (deleted q queue d) OK) (refused s) (λ (r : CallResult). RisesOnce s r.call.state)
    (λ _. next_once s (deleted q queue d).state d.state.parts.ports q None (cleared_leaves how queue (start s)) refl)
    (λ _. stays_once s s refl)

-- call 33
reset_once : (found : Option PortQueue) (q how : ℕ) (s : Xinu) → RisesOnce s (reset_where found q how s).call.state
reset_once None q how s = stays_once s s refl
reset_once (Some queue) q how s =
    let d = cleared how queue (start s) in
    cond_both (nat_le how 1) (returns (emptied_port q queue d) OK) (refused s) (λ (r : CallResult). RisesOnce s r.call.state)
    (λ _. next_once s (emptied_port q queue d).state d.state.parts.ports q (Some (record queue { messages = [] }))
    (cleared_leaves how queue (start s)) refl)
    (λ _. stays_once s s refl)

-- other messages leave the number of a port
messages_once : (q : ℕ) (queue : PortQueue) (messages : List ℕ) (sem : ℕ) (s : Xinu)
    → RisesOnce s (signalled sem (with_messages q queue messages (start s))).state
messages_once q queue messages sem s =
    let port = port_at s.parts.ports q in
    changed_once s (signalled sem (with_messages q queue messages (start s))).state q
    (record port { queue = Some (record queue { messages = messages }) })
    (ap (λ (p : Parts). p.ports) (parts_signalled sem (with_messages q queue messages (start s)))) (omega arith)

-- call 34
put_once : (found : Option PortQueue) (q message : ℕ) (s : Xinu) → RisesOnce s (put_message found q message s).call.state
put_once None q message s = stays_once s s refl
put_once (Some queue) q message s =
    let d = signalled queue.receive (with_messages q queue (queue.messages ++ message ∷ []) (start s)) in
    cond_both (nat_le most_nodes (nodes s.parts.ports)) (record { call = start s; answer = Panics }) (returns d OK)
    (λ (r : CallResult). RisesOnce s r.call.state) (λ _. stays_once s s refl)
    (λ _. messages_once q queue (queue.messages ++ message ∷ []) queue.receive s)

finish_send_once : (ticket : PortTicket) (message : ℕ) (s : Xinu) → RisesOnce s (finish_send ticket message s).call.state
finish_send_once ticket message s =
    cond_both (is_stale ticket s.parts.ports) (refused s) (put_message (port_at s.parts.ports ticket.port).queue ticket.port message s)
    (λ (r : CallResult). RisesOnce s r.call.state) (λ _. stays_once s s refl)
    (λ _. put_once (port_at s.parts.ports ticket.port).queue ticket.port message s)

-- whether a token is taken or the caller waits
token_once : (tokens sem : ℕ) (left : Rest) (then_ : Xinu → CallResult) (s : Xinu) → ((x : Xinu) → RisesOnce x (then_ x).call.state)
    → RisesOnce s (take_token tokens sem left then_ s).call.state
token_once zero sem left then_ s h = stays_once s (blocked Waiting left (InSemaphore sem) s).call.state refl
token_once (suc n) sem left then_ s h = h (record s { tables = with_tokens sem n s.tables })

send_once : (found : Option PortQueue) (q message : ℕ) (s : Xinu) → RisesOnce s (sent_to found q message s).call.state
send_once None q message s = stays_once s s refl
send_once (Some queue) q message s =
    let ticket = ticket_of q queue.send s in
    token_once (semaphore_at s.tables queue.send).tokens queue.send (rest.PtSend ticket message) (finish_send ticket message) s
    (finish_send_once ticket message)

-- call 35
take_once : (messages : List ℕ) (queue : PortQueue) (q : ℕ) (s : Xinu) → RisesOnce s (take_message messages queue q s).call.state
take_once [] queue q s = stays_once s s refl
take_once (message ∷ messages) queue q s = messages_once q queue messages queue.send s

take_from_once : (found : Option PortQueue) (q : ℕ) (s : Xinu) → RisesOnce s (take_from found q s).call.state
take_from_once None q s = stays_once s s refl
take_from_once (Some queue) q s = take_once queue.messages queue q s

finish_receive_once : (ticket : PortTicket) (s : Xinu) → RisesOnce s (finish_receive ticket s).call.state
finish_receive_once ticket s =
    cond_both (is_stale ticket s.parts.ports) (refused s) (take_from (port_at s.parts.ports ticket.port).queue ticket.port s)
    (λ (r : CallResult). RisesOnce s r.call.state) (λ _. stays_once s s refl)
    (λ _. take_from_once (port_at s.parts.ports ticket.port).queue ticket.port s)

receive_once : (found : Option PortQueue) (q : ℕ) (s : Xinu) → RisesOnce s (received_from found q s).call.state
receive_once None q s = stays_once s s refl
receive_once (Some queue) q s =
    let ticket = ticket_of q queue.receive s in
    token_once (semaphore_at s.tables queue.receive).tokens queue.receive (rest.PtRecv ticket) (finish_receive ticket) s
    (finish_receive_once ticket)

-- each call obeys the law: those on ports, and those that leave them alone
ports_law : IsLawOfFew (λ f. f.ports) (λ number s u. RisesOnce s u)
unfolding calls
ports_law = record {
  same = λ number s. stays_once s s refl;
  others = λ number f s u e t. stays_once s u (t.parts.ports e).0;
  few =
      (λ a s k. created_once (signed (a 0)) s) ⨾
      (λ a s k. delete_once (port_at s.parts.ports (a 0)).queue (a 0) (a 1) s) ⨾
      (λ a s k. reset_once (port_at s.parts.ports (a 0)).queue (a 0) (a 1) s) ⨾
      (λ a s k. send_once (port_at s.parts.ports (a 0)).queue (a 0) (a 1) s) ⨾
      (λ a s k. receive_once (port_at s.parts.ports (a 0)).queue (a 0) s) ⨾
      tt;
}

-- so does what is left of a call that waited, which leaves the ports alone unless it waited on one
calm_once : (left : Rest) (s : Xinu) → IsSound s → (touched_by left).ports ≡ false → RisesOnce s (continued left s).call.state
calm_once left s k e = stays_once s (continued left s).call.state ((continued_touches left s k).parts.ports e).0

continued_once : (left : Rest) (s : Xinu) → IsSound s → RisesOnce s (continued left s).call.state
continued_once rest.Receive s k = calm_once rest.Receive s k refl
continued_once rest.Timed s k = calm_once rest.Timed s k refl
continued_once rest.SelfSuspend s k = calm_once rest.SelfSuspend s k refl
continued_once (rest.GetBuf i) s k = calm_once (rest.GetBuf i) s k refl
continued_once (rest.PtSend ticket message) s k = finish_send_once ticket message (goes_on (held s) s)
continued_once (rest.PtRecv ticket) s k = finish_receive_once ticket (goes_on (held s) s)
continued_once rest.TtyGet s k = calm_once rest.TtyGet s k refl
continued_once (rest.TtyRead part) s k = calm_once (rest.TtyRead part) s k refl
continued_once (rest.TtyPut b returned) s k = calm_once (rest.TtyPut b returned) s k refl
continued_once (rest.TtyWrite part returned) s k = calm_once (rest.TtyWrite part returned) s k refl
continued_once (rest.Disk reply) s k = calm_once (rest.Disk reply) s k refl
continued_once _ s k = stays_once s s refl

-- and what comes of an instruction
reacted_once : (o : Outcome) (s : Xinu) → IsSound s → RisesOnce s (reacted o s).state
reacted_once outcome.Went s k = stays_once s s refl
reacted_once outcome.Call s k = let call = call_of (current_hart s) in law_of_few ports_law call.number call.args s k
reacted_once outcome.Exit s k = stays_once s (exit s).call.state ((exit_touches s k).parts.ports refl).0
reacted_once (outcome.Trap cause) s k = stays_once s (exit s).call.state ((exit_touches s k).parts.ports refl).0

-- No port's number rises by more than one in a machine step.
pub stepped_once : (s : Xinu) → IsSound s → RisesOnce s (stepped s).state
stepped_once s k =
    let left = (process_at s.tables s.tables.current).rest in
    let goes_on = end_of_event s.tables.current [] (continued left s) in
    cond_both (s.tables.current == 0) (nothing_happens s) (cond (is_done left) (instruction_step s) goes_on)
    (λ (e : EventResult). RisesOnce s e.state)
    (λ _. stays_once s s refl)
    (λ b. let c = may_call s k (eqb-false s.tables.current 0 b) in
    cond_both (is_done left) (instruction_step s) goes_on (λ (e : EventResult). RisesOnce s e.state)
    (λ _. let u = with_executed (next s) s in reacted_once (next s).outcome u (sound_where_called u (may_call_after s c)))
    (λ _. continued_once left s k))

-- A tick leaves the ports alone.
pub ticked_once : (s : Xinu) → IsSound s → RisesOnce s (ticked s).state
ticked_once s k = let t : Touches at_a_tick s (ticked s).state = touches_ticked refl s k.tables in stays_once s (ticked s).state (t.parts.ports refl).0

-- Neither a received character nor a transmission touches them.
pub keyed_once : (b : ℕ) (s : Xinu) → IsSound s → RisesOnce s (keyed b s).state
keyed_once b s k = stays_once s (keyed b s).state ((receiving_signals b s (sound_holds s k)).touches.parts.ports refl).0

sent_once : (found : Option Sent) (s : Xinu) → transmitted (console_of s) ≡ found → IsSound s → RisesOnce s (sent_in found s).state
sent_once None s e k = stays_once s s refl
sent_once (Some sent) s e k =
    stays_once s (sent_in (Some sent) s).state ((sending_signals sent s e (sound_holds s k)).touches.parts.ports refl).0

pub transmits_once : (s : Xinu) → IsSound s → RisesOnce s (transmits s).state
transmits_once s k = sent_once (transmitted (console_of s)) s refl k
