-- A call that waited is answered -1 as it goes on if and only if it has a later reason.
use Rattle.std.proofs.Common.{◌≡◌, ◌∙◌, ◌↔◌, ℕ, suc, ◌+◌, ◌-◌, ◌==◌, Bool, true, false, not, cond, ◌||◌, List, [], ◌∷◌, refl, sym, ap, Option, Some, None, IsSome}
use Rattle.std.specs.Prelude.{is_some, nat_le, slice_index}
use Rattle.std.proofs.lemmas.Bool.{cond-false, cond_both, ne_eqb}
use Rattle.event_laws.proofs.Ownership.Events.{done_rest}
use Rattle.event_laws.specs.Replies.{first_of}
use Rattle.event_laws.proofs.Reply.Continued.{put_byte_never, read_item_never, reads_never, take_char_never, writes_never}
use Rattle.refusal_reasons.specs.Causes.{cause, answers_minus_one, is_minus_one_message}
use Rattle.refusal_reasons.specs.Later.{GoesOn, is_empty, later_causes, later_reason}
use Rattle.refusal_reasons.specs.declared.reasons.Reason.TheVariants as why
use Rattle.refusal_reasons.proofs.Calls.{received_told}
use Rattle.refusal_reasons.proofs.Combined.{Tells, tells, neither, value_told}
use Rattle.refusal_reasons.proofs.Rows.{minus_one}
use Rattle.refusal_reasons.proofs.Switch.{never_told, not_end}
use Rattle.xinu_base.specs.Constants.{OK, SYSERR, TIMEOUT}
use Rattle.xinu_base.specs.declared.processes.PortTicket.{PortTicket}
use Rattle.xinu_base.specs.declared.processes.Rest.{Rest}
use Rattle.xinu_base.specs.declared.processes.Rest.TheVariants as rest
use Rattle.xinu_model.specs.Calls.{continued}
use Rattle.xinu_model.specs.Console.Constants.{TY_NEWLINE}
use Rattle.xinu_model.specs.Console.Putting.{put, writes}
use Rattle.xinu_model.specs.Console.Taking.{console_of, reads}
use Rattle.xinu_model.specs.Events.{instruction_step, is_done, stepped}
use Rattle.xinu_model.specs.Machine.{Xinu, EventResult, Returns, Panics, end_of_event, nothing_happens, start, returns, refused, goes_on}
use Rattle.xinu_model.specs.Messages.{held}
use Rattle.xinu_model.specs.Pools.Buffers.{pool_at}
use Rattle.xinu_model.specs.Pools.Calls.{take_first}
use Rattle.xinu_model.specs.Ports.Calls.{put_message, take_message, take_from, with_messages}
use Rattle.xinu_model.specs.Ports.Queues.{PortQueue, is_stale, most_nodes, nodes, port_at, queued}
use Rattle.xinu_model.specs.Semaphores.Calls.{answers}
use Rattle.xinu_model.specs.Semaphores.Waiting.{signalled}
use Rattle.xinu_model.specs.Tables.{process_at}
use Rattle.xinu_model.specs.Words.{signed}

-- a buffer is taken, or there is none
first_told : (free : List ℕ) (i : ℕ) (x : Xinu) → Tells (cause why.NoFreeBuffer (is_empty free) ∷ []) (take_first free i x)
first_told [] i x = tells refl
first_told (a ∷ free) i x = tells refl

-- a port without a queue isn't that of any ticket
gone_is_stale : (ticket : PortTicket) (x : Xinu) → (port_at x.parts.ports ticket.port).queue ≡ None → is_stale ticket x.parts.ports ≡ true
gone_is_stale ticket x e = ap (λ (o : Option PortQueue). not (is_some o) || not ((port_at x.parts.ports ticket.port).seq == ticket.seq)) e

-- a sender goes on
put_told : (stale : Bool) (found : Option PortQueue) (q message : ℕ) (x : Xinu) → (found ≡ None → stale ≡ true)
    → Tells (cause why.PortRenewed stale ∷ []) (cond stale (refused x) (put_message found q message x))
put_told true found q message x gone = tells refl
put_told false None q message x gone = absurd (let e = gone refl in cc)
put_told false (Some queue) q message x gone =
    tells (neither (nat_le most_nodes (nodes x.parts.ports)) (record { call = start x; answer = Panics }) _ (tells refl) (tells refl)).told

-- a receiver goes on
message_told : (messages : List ℕ) (queue : PortQueue) (q : ℕ) (x : Xinu)
    → Tells (cause why.PortRenewed false ∷ cause why.NoMessage (is_empty messages) ∷ cause why.MessageIsMinusOne (is_minus_one_message (first_of messages)) ∷ []) (take_message messages queue q x)
message_told [] queue q x = tells refl
message_told (message ∷ messages) queue q x =
    tells (value_told why.MessageIsMinusOne (signed message) (signalled queue.send (with_messages q queue messages (start x)))).told

taken_told : (stale : Bool) (found : Option PortQueue) (q : ℕ) (x : Xinu)
    → Tells (cause why.PortRenewed stale ∷ cause why.NoMessage (is_empty (queued found)) ∷ cause why.MessageIsMinusOne (is_minus_one_message (first_of (queued found))) ∷ [])
    (cond stale (refused x) (take_from found q x))
taken_told true found q x = tells refl
taken_told false None q x = tells refl
taken_told false (Some queue) q x = message_told queue.messages queue q x

-- What is left of a call.
pub later_told : (left : Rest) (s : Xinu) → Tells (later_causes left s) (continued left s)
later_told rest.Receive s = received_told (held s) (returns (start (goes_on None s)) TIMEOUT) s (tells refl)
later_told rest.Timed s = received_told (held s) (returns (start (goes_on None s)) TIMEOUT) s (tells refl)
later_told rest.SelfSuspend s = value_told why.PriorityIsMinusOne (process_at s.tables s.tables.current).priority _
later_told (rest.GetBuf i) s = first_told (pool_at s.parts.pools i).free i (goes_on (held s) s)
later_told (rest.PtSend ticket message) s =
    put_told (is_stale ticket s.parts.ports) (port_at s.parts.ports ticket.port).queue ticket.port message (goes_on (held s) s) (gone_is_stale ticket s)
later_told (rest.PtRecv ticket) s = taken_told (is_stale ticket s.parts.ports) (port_at s.parts.ports ticket.port).queue ticket.port (goes_on (held s) s)
later_told rest.TtyGet s = never_told (continued rest.TtyGet s) (take_char_never 0 not_end (console_of s).committed (goes_on (held s) s))
later_told (rest.TtyRead part) s =
    never_told (continued (rest.TtyRead part) s)
    (read_item_never 0 not_end (console_of s).committed part.at part.done (reads (part.want - suc part.done) part.at (suc part.done))
    (goes_on (held s) s) (reads_never 0 not_end (part.want - suc part.done) part.at (suc part.done)))
later_told (rest.TtyPut b true) s = tells refl
later_told (rest.TtyPut b false) s =
    never_told (continued (rest.TtyPut b false) s) (put_byte_never 0 b (rest.TtyPut b true) (answers OK) (goes_on (held s) s) (λ v f. absurd (cc)))
later_told (rest.TtyWrite part true) s =
    never_told (continued (rest.TtyWrite part true) s)
    (writes_never 0 (part.want - suc part.done) part.at (suc part.done) (put TY_NEWLINE (goes_on (held s) s)))
later_told (rest.TtyWrite part false) s =
    never_told (continued (rest.TtyWrite part false) s)
    (put_byte_never 0 (slice_index s.memory (part.at + part.done)) (rest.TtyWrite part true)
    (writes (part.want - suc part.done) part.at (suc part.done)) (goes_on (held s) s)
    (writes_never 0 (part.want - suc part.done) part.at (suc part.done)))
later_told (rest.Disk None) s = tells refl
later_told (rest.Disk (Some reply)) s = value_told why.DiskRefused reply _
later_told rest.Nothing s = tells refl

-- A process that goes on does so in the state ahead of the event.
pub goes_on_ahead : (s : Xinu) → GoesOn s → stepped s ≡ end_of_event s.tables.current [] (continued (process_at s.tables s.tables.current).rest s)
goes_on_ahead s g =
    let left = (process_at s.tables s.tables.current).rest in
    let step = end_of_event s.tables.current [] (continued left s) in
    cond-false (s.tables.current == 0) (nothing_happens s) (cond (is_done left) (instruction_step s) step) (ne_eqb s.tables.current 0 g.runs)
    ∙ cond_both (is_done left) (instruction_step s) step (λ (x : EventResult). x ≡ step)
    (λ done. absurd (g.left (done_rest left done)))
    (λ _. refl)

pub later_refusals : (left : Rest) (s : Xinu) → ((continued left s).answer ≡ Returns SYSERR ↔ IsSome (later_reason left s))
later_refusals left s =
    let told = (later_told left s).told in
    (λ e. sym told ∙ ap answers_minus_one e, λ e. minus_one (continued left s).answer (told ∙ e))
