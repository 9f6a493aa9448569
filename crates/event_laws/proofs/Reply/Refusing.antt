-- Who answers -1 as it goes on is refused, and nothing else changes; or -1 is the value of its call.
use Rattle.std.proofs.Common.{◌≡◌, ◌≢◌, ◌⊎◌, inl, inr, ℕ, zero, suc, ◌+◌, ◌-◌, true, false, List, [], ◌∷◌, Option, Some, None, refl}
use Rattle.std.specs.Prelude.{slice_index, nat_le, option_map}
use Rattle.std.proofs.lemmas.Bool.{cond_both}
use Rattle.event_laws.specs.Replies.{first_of, value_kept}
use Rattle.event_laws.proofs.Reply.Continued.{put_byte_never, read_item_never, reads_never, take_char_never, writes_never}
use Rattle.xinu_base.specs.Constants.{OK, SYSERR, TIMEOUT}
use Rattle.xinu_base.specs.declared.processes.PortTicket.{PortTicket}
use Rattle.xinu_base.specs.declared.processes.Rest.{Rest}
use Rattle.xinu_base.specs.declared.processes.Rest.TheVariants as rest
use Rattle.xinu_model.specs.Calls.{continued}
use Rattle.xinu_model.specs.Console.Constants.{TY_NEWLINE}
use Rattle.xinu_model.specs.Console.Putting.{put, writes}
use Rattle.xinu_model.specs.Console.Taking.{console_of, reads}
use Rattle.xinu_model.specs.Machine.{Xinu, Returns, CallResult, start, returns, refused, goes_on}
use Rattle.xinu_model.specs.Messages.{held, received}
use Rattle.xinu_model.specs.Pools.Buffers.{pool_at}
use Rattle.xinu_model.specs.Pools.Calls.{take_first}
use Rattle.xinu_model.specs.Ports.Calls.{put_message, finish_send, take_message, take_from, finish_receive}
use Rattle.xinu_model.specs.Ports.Queues.{PortQueue, most_nodes, nodes, port_at, queued, is_stale}
use Rattle.xinu_model.specs.Semaphores.Calls.{answers}
use Rattle.xinu_model.specs.Words.{signed}

-- an answer -1 tells that the call was refused in this state
abbrev IsRefusal : Xinu → CallResult → Type 0
IsRefusal s result = result.answer ≡ Returns SYSERR → result ≡ refused s

-- the same, unless -1 is the value
abbrev TellsRefusal : Option ℕ → Xinu → CallResult → Type 0
TellsRefusal message s result = result.answer ≡ Returns SYSERR → (result ≡ refused s) ⊎ (option_map signed message ≡ Some SYSERR)

-- the answer -1 isn't that of the end of the input
not_end : zero ≢ suc zero
not_end e = absurd (cc)

-- a buffer is taken, or there is none
first_refuses : (free : List ℕ) (i : ℕ) (s : Xinu) → IsRefusal s (take_first free i s)
first_refuses [] i s e = refl
first_refuses (a ∷ free) i s e = absurd (cc)

-- a message is put into a port, or there is no port
put_refuses : (found : Option PortQueue) (q message : ℕ) (s : Xinu) → IsRefusal s (put_message found q message s)
put_refuses None q message s = λ e. refl
put_refuses (Some queue) q message s =
    cond_both (nat_le most_nodes (nodes s.parts.ports)) _ _ (IsRefusal s) (λ _ e. absurd (cc)) (λ _ e. absurd (cc))

-- a sender goes on
send_refuses : (ticket : PortTicket) (message : ℕ) (s : Xinu) → IsRefusal s (finish_send ticket message s)
send_refuses ticket message s =
    cond_both (is_stale ticket s.parts.ports) (refused s) _ (IsRefusal s) (λ _ e. refl)
    (λ _. put_refuses (port_at s.parts.ports ticket.port).queue ticket.port message s)

-- a receiver goes on
message_told : (messages : List ℕ) (queue : PortQueue) (q : ℕ) (s : Xinu) → TellsRefusal (first_of messages) s (take_message messages queue q s)
message_told [] queue q s e = inl refl
message_told (message ∷ messages) queue q s e = inr (cc)

from_told : (found : Option PortQueue) (q : ℕ) (s : Xinu) → TellsRefusal (first_of (queued found)) s (take_from found q s)
from_told None q s e = inl refl
from_told (Some queue) q s e = message_told queue.messages queue q s e

receive_told : (ticket : PortTicket) (s : Xinu)
    → TellsRefusal (first_of (queued (port_at s.parts.ports ticket.port).queue)) s (finish_receive ticket s)
receive_told ticket s =
    cond_both (is_stale ticket s.parts.ports) (refused s) _
    (TellsRefusal (first_of (queued (port_at s.parts.ports ticket.port).queue)) s) (λ _ e. inl refl)
    (λ _. from_told (port_at s.parts.ports ticket.port).queue ticket.port s)

-- a message that came, or the time ran out
received_told : (message : Option ℕ) (s : Xinu) → (received message (returns (start (goes_on None s)) TIMEOUT) s).answer ≡ Returns SYSERR
    → option_map signed message ≡ Some SYSERR
received_told None s e = absurd (cc)
received_told (Some message) s e = cc

-- What is left of a call.
pub continued_refusals : (left : Rest) (s : Xinu) → (continued left s).answer ≡ Returns SYSERR
    → (continued left s ≡ refused (goes_on (held s) s)) ⊎ (value_kept left s ≡ Some SYSERR)
continued_refusals rest.Receive s e = inr (received_told (held s) s e)
continued_refusals rest.Timed s e = inr (received_told (held s) s e)
continued_refusals rest.SelfSuspend s e = inr (cc)
continued_refusals (rest.GetBuf i) s e = inl (first_refuses (pool_at s.parts.pools i).free i (goes_on (held s) s) e)
continued_refusals (rest.PtSend ticket message) s e = inl (send_refuses ticket message (goes_on (held s) s) e)
continued_refusals (rest.PtRecv ticket) s e = receive_told ticket (goes_on (held s) s) e
continued_refusals rest.TtyGet s e = absurd (take_char_never 0 not_end (console_of s).committed (goes_on (held s) s) e)
continued_refusals (rest.TtyRead part) s e =
    absurd (read_item_never 0 not_end (console_of s).committed part.at part.done (reads (part.want - suc part.done) part.at (suc part.done))
    (goes_on (held s) s) (reads_never 0 not_end (part.want - suc part.done) part.at (suc part.done)) e)
continued_refusals (rest.TtyPut b true) s e = absurd (cc)
continued_refusals (rest.TtyPut b false) s e =
    absurd (put_byte_never 0 b (rest.TtyPut b true) (answers OK) (goes_on (held s) s) (λ v f. absurd (cc)) e)
continued_refusals (rest.TtyWrite part true) s e =
    absurd (writes_never 0 (part.want - suc part.done) part.at (suc part.done) (put TY_NEWLINE (goes_on (held s) s)) e)
continued_refusals (rest.TtyWrite part false) s e =
    absurd (put_byte_never 0 (slice_index s.memory (part.at + part.done)) (rest.TtyWrite part true)
    (writes (part.want - suc part.done) part.at (suc part.done)) (goes_on (held s) s)
    (writes_never 0 (part.want - suc part.done) part.at (suc part.done)) e)
continued_refusals (rest.Disk None) s e = absurd (cc)
continued_refusals (rest.Disk (Some reply)) s e = inr (cc)
continued_refusals rest.Nothing s e = absurd (cc)
