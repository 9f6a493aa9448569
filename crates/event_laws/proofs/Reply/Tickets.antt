-- A caller on a port goes on after its wait: it is refused if its port was renewed, and else it isn't.
use Rattle.std.proofs.Common.{◌≡◌, ℕ, ◌<◌, ◌==◌, Bool, true, false, not, cond, List, [], ◌∷◌, length, Option, None, Some, refl, sym, ap, subst, ◌∙◌, arith}
use Rattle.std.specs.Prelude.{nat_le, is_some}
use Rattle.std.proofs.lemmas.Bool.{and_from, cond-true, ne_eqb, not-false, or_parts, or_right}
use Rattle.xinu_base.specs.Constants.{OK}
use Rattle.xinu_base.specs.declared.processes.PortTicket.{PortTicket}
use Rattle.xinu_base.specs.declared.processes.Rest.TheVariants.{PtSend, PtRecv}
use Rattle.xinu_model.specs.Calls.{continued}
use Rattle.xinu_model.specs.Machine.{Xinu, Returns, Panics, CallResult, start, returns, refused, goes_on}
use Rattle.xinu_model.specs.Messages.{held}
use Rattle.xinu_model.specs.Ports.Calls.{put_message, take_message, take_from}
use Rattle.xinu_model.specs.Ports.Queues.{PortQueue, MessagePort, most_nodes, port_at, is_used, nodes, is_stale}
use Rattle.xinu_model.specs.Sound.Pools.{is_waiting}
use Rattle.xinu_model.specs.Sound.Ports.{receives_from, is_released_receiver}
use Rattle.xinu_model.specs.Sound.State.{IsSound}
use Rattle.xinu_model.specs.Tables.{process_at}
use Rattle.event_laws.specs.Replies.{AnswersFirst}
use Rattle.xinu_laws.proofs.Ports.Messages.{message_go_on}
use Rattle.xinu_laws.proofs.Ports.Finish.{fresh_seq}
use Rattle.xinu_laws.proofs.Ports.Sends.{own_ticket}
use Rattle.table_laws.proofs.Preserve.{current_within}

-- A ticket is stale if its port has a later number.
pub later_is_stale : (ticket : PortTicket) (ports : List MessagePort) → ticket.seq < (port_at ports ticket.port).seq
    → is_stale ticket ports ≡ true
later_is_stale ticket ports h =
    let port = port_at ports ticket.port in
    or_right (not (is_used port)) (not (port.seq == ticket.seq)) (ap not (ne_eqb port.seq ticket.seq (λ e. absurd (omega arith))))

-- A sender whose ticket is stale is refused: its message doesn't come into the port.
pub stale_sender_refused : (ticket : PortTicket) (message : ℕ) (s : Xinu) → is_stale ticket s.parts.ports ≡ true
    → continued (PtSend ticket message) s ≡ refused (goes_on (held s) s)
stale_sender_refused ticket message s h =
    let u = goes_on (held s) s in
    cond-true (is_stale ticket s.parts.ports) (refused u) (put_message (port_at s.parts.ports ticket.port).queue ticket.port message u) h

-- So is a receiver: it takes none.
pub stale_receiver_refused : (ticket : PortTicket) (s : Xinu) → is_stale ticket s.parts.ports ≡ true
    → continued (PtRecv ticket) s ≡ refused (goes_on (held s) s)
stale_receiver_refused ticket s h =
    let u = goes_on (held s) s in
    cond-true (is_stale ticket s.parts.ports) (refused u) (take_from (port_at s.parts.ports ticket.port).queue ticket.port u) h

-- the port of a ticket that isn't stale is in use
fresh_used : (ticket : PortTicket) (ports : List MessagePort) → is_stale ticket ports ≡ false
    → is_some (port_at ports ticket.port).queue ≡ true
fresh_used ticket ports h =
    let port = port_at ports ticket.port in
    not-false (is_used port) (or_parts (not (is_used port)) (not (port.seq == ticket.seq)) h).0

-- what either of two calls answers
answer_of_either : (b : Bool) (x y : CallResult) → (cond b x y).answer ≡ cond b x.answer y.answer
answer_of_either true x y = refl
answer_of_either false x y = refl

-- a message that is put into a port in use
put_answers : (found : Option PortQueue) (q message : ℕ) (s : Xinu) → is_some found ≡ true
    → (put_message found q message s).answer ≡ cond (nat_le most_nodes (nodes s.parts.ports)) Panics (Returns OK)
put_answers None q message s h = absurd (cc)
put_answers (Some queue) q message s h =
    answer_of_either (nat_le most_nodes (nodes s.parts.ports)) (record { call = start s; answer = Panics }) (returns _ OK)

-- A sender whose ticket isn't stale isn't refused.
pub fresh_sender_answers : (ticket : PortTicket) (message : ℕ) (s : Xinu) → is_stale ticket s.parts.ports ≡ false
    → (continued (PtSend ticket message) s).answer ≡ cond (nat_le most_nodes (nodes s.parts.ports)) Panics (Returns OK)
fresh_sender_answers ticket message s h =
    let u = goes_on (held s) s in
    let put = put_message (port_at s.parts.ports ticket.port).queue ticket.port message u in
    ap (λ b. (cond b (refused u) put).answer) h
    ∙ put_answers (port_at s.parts.ports ticket.port).queue ticket.port message u (fresh_used ticket s.parts.ports h)

-- a message that is taken of some
take_answers : (messages : List ℕ) (queue : PortQueue) (q : ℕ) (s : Xinu) → queue.messages ≡ messages → 0 < length messages
    → AnswersFirst (Some queue) (take_message messages queue q s).answer
take_answers [] queue q s e h = absurd (omega arith)
take_answers (message ∷ messages) queue q s e h = (message, messages, e, refl)

-- a message that is taken from a port in use
from_answers : (found : Option PortQueue) (q : ℕ) (s : Xinu) → is_some found ≡ true
    → ((queue : PortQueue) → found ≡ Some queue → 0 < length queue.messages) → AnswersFirst found (take_from found q s).answer
from_answers None q s h some = absurd (cc)
from_answers (Some queue) q s h some = take_answers queue.messages queue q s refl (some queue refl)

-- A receiver whose ticket isn't stale isn't refused: there is a message for it.
pub fresh_receiver_answers : (ticket : PortTicket) (s : Xinu) → IsSound s → (process_at s.tables s.tables.current).rest ≡ PtRecv ticket
    → is_stale ticket s.parts.ports ≡ false → AnswersFirst (port_at s.parts.ports ticket.port).queue (continued (PtRecv ticket) s).answer
fresh_receiver_answers ticket s sound e h =
    let t = s.tables in
    let u = goes_on (held s) s in
    let x = process_at t t.current in
    let found = (port_at s.parts.ports ticket.port).queue in
    let w = current_within t sound.tables in
    let released : is_released_receiver ticket.port ticket.seq x ≡ true = and_from (not (is_waiting x.state))
    (receives_from ticket.port ticket.seq x.rest)
    (ap (λ v. not (is_waiting v)) sound.tables.runs) (ap (receives_from ticket.port ticket.seq) e ∙ own_ticket ticket) in
    let some : (queue : PortQueue) → found ≡ Some queue → 0 < length queue.messages = λ queue f.
    (let many = sound.tables.inside.processes in
    let i = sound.ports.each ticket.port queue f in
    let k = (message_go_on ticket.port (port_at s.parts.ports ticket.port).seq t.current queue (held s) t (omega arith)
    (subst (λ n. is_released_receiver ticket.port n x ≡ true) (sym (fresh_seq ticket s.parts.ports h)) released) i).messages in
    omega arith) in
    subst (λ b. AnswersFirst found (cond b (refused u) (take_from found ticket.port u)).answer) (sym h)
    (from_answers found ticket.port u (fresh_used ticket s.parts.ports h) some)
