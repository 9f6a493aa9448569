-- The calls that answer a priority, a count or a message: an answer -1 is that value, or the call was refused.
use Rattle.std.proofs.Common.{◌≡◌, ◌⊎◌, inl, inr, ℕ, zero, suc, ◌<◌, ◌%◌, ◌==◌, Bool, true, false, cond, List, [], ◌∷◌, length, refl, sym, subst, arith, Option, Some, None, ℤ, pos, negsuc}
use Rattle.std.specs.Prelude.{slice_index, option_map}
use Rattle.std.specs.List.{AllByRecursion}
use Rattle.xinu_base.specs.Constants.{SYSERR}
use Rattle.xinu_base.specs.declared.processes.Rest.{Rest}
use Rattle.xinu_base.specs.declared.processes.Rest.TheVariants.{PtRecv}
use Rattle.xinu_model.specs.Calls.{calls, called}
use Rattle.xinu_model.specs.Machine.{Xinu, Returns, Waits, CallState, CallResult, start, returns, refused}
use Rattle.xinu_model.specs.Messages.{can_get, held, received, recvtime}
use Rattle.xinu_model.specs.Ports.Calls.{finish_receive, take_from, take_message, received_from, ticket_of}
use Rattle.xinu_model.specs.Ports.Queues.{PortQueue, port_at, queued}
use Rattle.xinu_model.specs.Process.Calls.{is_suspended, is_ready, suspend}
use Rattle.xinu_model.specs.Semaphores.Counts.{with_tokens, count_of, is_good}
use Rattle.xinu_model.specs.Semaphores.Waiting.{take_token}
use Rattle.xinu_model.specs.Sound.Pools.{ArePools}
use Rattle.xinu_model.specs.Sound.Ports.{ArePorts}
use Rattle.xinu_model.specs.Tables.{process_at, state_at, semaphore_at, is_free}
use Rattle.xinu_model.specs.Words.{signed, half}
use Rattle.xinu_model.specs.Heap.Cells as heap
use Rattle.xinu_model.specs.Pools.Buffers.{holder}
use Rattle.xinu_model.specs.Rows.{CallRow, found_in, done_by}
use Rattle.event_laws.specs.Replies.{first_of, value_of, row_value, value_told}
use Rattle.xinu_laws.proofs.Refusals.{TellsRefusal, answer_tells, create_tells, kill_tells, granted_tells, given_back_tells, stacked_tells, semcreate_tells, guarded_tells, semreset_tells, wait_tells, signal_tells, signaln_tells, sleep_tells, sleepms_tells, mkbufpool_tells, getbuf_tells, freed_by_tells, ptcreate_tells, deleted_tells, reset_tells, fresh_ticket, sent_to_tells}
use Rattle.event_laws.proofs.Reply.Told.{device_open_tells, device_close_tells, device_read_tells, device_write_tells, device_getc_tells, device_putc_tells, device_seek_tells, device_control_tells}
use Rattle.xinu_laws.proofs.NameSpaces.Calls.{mount_tells}
use Rattle.xinu_laws.proofs.Rows.CallRows.{of_row}
use Rattle.xinu_laws.proofs.Rows.RowByRow.{◌⨾◌}

-- if a call answers -1 it was refused, or this is its value
abbrev pub TellsValue : Xinu → Option ℤ → CallResult → Type 0
TellsValue s value result = result.answer ≡ Returns SYSERR → (result ≡ refused s) ⊎ (value ≡ Some SYSERR)

-- a refused call
refused_tells : (s : Xinu) (value : Option ℤ) → TellsValue s value (refused s)
refused_tells s value e = inl refl

-- a call that answers its value
value_tells : (s : Xinu) (d : CallState) (value : ℤ) → TellsValue s (Some value) (returns d value)
value_tells s d value e = inr (cc)

-- a call that waits
waiting_tells : (s : Xinu) (value : Option ℤ) (d : CallState) → TellsValue s value (record { call = d; answer = Waits })
waiting_tells s value d e = absurd (cc)

-- a call that answers its value if a test holds, and is refused else
tested_tells : (b : Bool) (s : Xinu) (d : CallState) (value : ℤ) → TellsValue s (Some value) (cond b (returns d value) (refused s))
tested_tells true s d value = value_tells s d value
tested_tells false s d value = refused_tells s (Some value)

-- and one that is refused if it holds
refused_if : (b : Bool) (s : Xinu) (d : CallState) (value : ℤ) → TellsValue s (Some value) (cond b (refused s) (returns d value))
refused_if true s d value = refused_tells s (Some value)
refused_if false s d value = value_tells s d value

-- call 4
suspend_tells : (p : ℕ) (s : Xinu) → TellsValue s (Some (process_at s.tables p).priority) (suspend p s)
suspend_tells p s =
    let x = process_at s.tables p in
    by_test (p == 0) (is_ready x.state) (p == s.tables.current) _ _
  where
    by_test : (null ready own : Bool) (d e : CallState)
        → TellsValue s (Some (process_at s.tables p).priority) (cond null (refused s) (cond ready (returns d (process_at s.tables p).priority) (cond own (record { call = e; answer = Waits }) (refused s))))
    by_test true ready own d e = refused_tells s (Some (process_at s.tables p).priority)
    by_test false true own d e = value_tells s d (process_at s.tables p).priority
    by_test false false true d e = waiting_tells s (Some (process_at s.tables p).priority) e
    by_test false false false d e = refused_tells s (Some (process_at s.tables p).priority)

-- a message that is taken, or what else is done
received_tells : (message : Option ℕ) (otherwise : CallResult) (s : Xinu) → TellsValue s None otherwise
    → TellsValue s (option_map signed message) (received message otherwise s)
received_tells None otherwise s other = other
received_tells (Some message) otherwise s other = value_tells s _ (signed message)

-- call 23, if there is no message
none_tells : (s : Xinu) (d : CallState) → TellsValue s None (returns d (pos 0))
none_tells s d e = absurd (cc)

-- call 24
recvtime_tells : (ticks : ℤ) (s : Xinu) → TellsValue s (option_map signed (held s)) (recvtime ticks s)
recvtime_tells (negsuc n) s = refused_tells s (option_map signed (held s))
recvtime_tells (pos n) s = received_tells (held s) _ s (waiting_tells s None _)

-- one of the messages of a port is taken
take_message_tells : (messages : List ℕ) (queue : PortQueue) (q : ℕ) (s x : Xinu) → 0 < length messages
    → TellsValue s (option_map signed (first_of messages)) (take_message messages queue q x)
take_message_tells [] queue q s x some = absurd (omega arith)
take_message_tells (message ∷ messages) queue q s x some = value_tells s _ (signed message)

-- one who waits for a token, or goes on with it
take_token_tells : (tokens sem : ℕ) (left : Rest) (then_ : Xinu → CallResult) (s : Xinu) (value : Option ℤ)
    → ((n : ℕ) → tokens ≡ suc n → TellsValue s value (then_ (record s { tables = with_tokens sem n s.tables })))
    → TellsValue s value (take_token tokens sem left then_ s)
take_token_tells zero sem left then_ s value go = waiting_tells s value _
take_token_tells (suc n) sem left then_ s value go = go n refl

-- a message of a port with this queue
from_tells : (queue : PortQueue) (found : Option PortQueue) (q : ℕ) (s x : Xinu) → found ≡ Some queue → 0 < length queue.messages
    → TellsValue s (option_map signed (first_of queue.messages)) (take_from found q x)
from_tells queue None q s x e some = absurd (cc)
from_tells queue (Some other) q s x e some =
    let same : other ≡ queue = cc in
    subst (λ (o : PortQueue). TellsValue s (option_map signed (first_of queue.messages)) (take_message o.messages o q x)) (sym same)
    (take_message_tells queue.messages queue q s x some)

-- call 35
received_from_tells : (found : Option PortQueue) (q : ℕ) (s : Xinu) → ArePorts s.tables s.parts.ports
    → (port_at s.parts.ports q).queue ≡ found
    → TellsValue s (option_map signed (first_of (queued found))) (received_from found q s)
received_from_tells None q s ports e = refused_tells s None
received_from_tells (Some queue) q s ports e =
    let ticket = ticket_of q queue.receive s in
    take_token_tells (semaphore_at s.tables queue.receive).tokens queue.receive (PtRecv ticket) (finish_receive ticket) s
    (option_map signed (first_of queue.messages))
    (λ n f.
    let x = record s { tables = with_tokens queue.receive n s.tables } in
    let k = (ports.each q queue e).messages in
    subst (λ b. TellsValue s (option_map signed (first_of queue.messages))
    (cond b (refused x) (take_from (port_at s.parts.ports q).queue q x))) (sym (fresh_ticket q queue.receive s queue e))
    (from_tells queue (port_at s.parts.ports q).queue q s x e (omega arith)))

-- a call whose refusals are told by -1
status_tells : {s : Xinu} {result : CallResult} → TellsRefusal s result → TellsValue s None result
status_tells tells e = inl (tells e)

-- Each call of the table that answers -1 was refused, or that is its value.
calls_tell : AllByRecursion (λ (r : CallRow). (a : ℕ → ℕ) (s : Xinu) → ArePools s.tables s.parts.pools → ArePorts s.tables s.parts.ports → TellsValue s (value_of r.reply a s) (r.effect a s)) calls
unfolding calls
calls_tell =
    (λ a s k l. status_tells (answer_tells s (start s) s.tables.current)) ⨾
    (λ a s k l. status_tells (create_tells (a 0) (a 1) (half (a 2)) (a 3) (a 4) (a 5) s)) ⨾
    (λ a s k l. tested_tells (is_suspended (state_at s.tables (a 0))) s _ (process_at s.tables (a 0)).priority) ⨾
    (λ a s k l. suspend_tells (a 0) s) ⨾
    (λ a s k l. status_tells (kill_tells (a 0) s)) ⨾
    (λ a s k l e. cc) ⨾
    (λ a s k l. refused_if (is_free (state_at s.tables (a 0))) s _ (process_at s.tables (a 0)).priority) ⨾
    (λ a s k l. refused_if (is_free (state_at s.tables (a 0))) s _ (process_at s.tables (a 0)).priority) ⨾
    (λ a s k l e. cc) ⨾
    (λ a s k l. status_tells (granted_tells (heap.take_memory (a 0) s.parts.heap) s)) ⨾
    (λ a s k l. status_tells (given_back_tells (heap.free_memory (a 0) (a 1) s.parts.heap) s)) ⨾
    (λ a s k l. status_tells (stacked_tells (heap.take_stack (a 0) s.parts.heap) s)) ⨾
    (λ a s k l. status_tells (given_back_tells (heap.free_stack (a 0) (a 1) s.parts.heap) s)) ⨾
    (λ a s k l. status_tells (semcreate_tells (signed (a 0)) s)) ⨾
    (λ a s k l. status_tells (guarded_tells (is_good (a 0) s.tables) s _ (λ _ e. cc))) ⨾
    (λ a s k l. status_tells (semreset_tells (a 0) (signed (a 1)) s)) ⨾
    (λ a s k l. tested_tells (is_good (a 0) s.tables) s _ (count_of (semaphore_at s.tables (a 0)))) ⨾
    (λ a s k l. status_tells (wait_tells (a 0) s)) ⨾
    (λ a s k l. status_tells (signal_tells (a 0) s)) ⨾
    (λ a s k l. status_tells (signaln_tells (a 0) (signed (a 1)) s)) ⨾
    (λ a s k l. status_tells (guarded_tells (can_get (a 0) s.tables) s _ (λ _ e. cc))) ⨾
    (λ a s k l. received_tells (held s) _ s (waiting_tells s None _)) ⨾
    (λ a s k l. received_tells (held s) _ s (none_tells s _)) ⨾
    (λ a s k l. recvtime_tells (signed (a 0)) s) ⨾
    (λ a s k l. status_tells (sleep_tells (signed (a 0)) s)) ⨾
    (λ a s k l. status_tells (sleepms_tells (signed (a 0)) s)) ⨾
    (λ a s k l e. cc) ⨾
    (λ a s k l. status_tells (mkbufpool_tells (a 0) (a 1) s)) ⨾
    (λ a s k l. status_tells (getbuf_tells (a 0) s k)) ⨾
    (λ a s k l. status_tells (freed_by_tells (holder (a 0) s.parts.pools) (a 0) s)) ⨾
    (λ a s k l. status_tells (ptcreate_tells (signed (a 0)) s)) ⨾
    (λ a s k l. status_tells (deleted_tells (port_at s.parts.ports (a 0)).queue (a 0) (a 1) s)) ⨾
    (λ a s k l. status_tells (reset_tells (port_at s.parts.ports (a 0)).queue (a 0) (a 1) s)) ⨾
    (λ a s k l. status_tells (sent_to_tells (port_at s.parts.ports (a 0)).queue (a 0) (a 1) s refl)) ⨾
    (λ a s k l. received_from_tells (port_at s.parts.ports (a 0)).queue (a 0) s l refl) ⨾
    (λ a s k l. status_tells (device_open_tells (a 0) (a 1) (a 2) s)) ⨾
    (λ a s k l. status_tells (device_close_tells (a 0) s)) ⨾
    (λ a s k l. status_tells (device_read_tells (a 0) (a 1) (a 2) s)) ⨾
    (λ a s k l. status_tells (device_write_tells (a 0) (a 1) (a 2) s)) ⨾
    (λ a s k l. status_tells (device_getc_tells (a 0) s)) ⨾
    (λ a s k l. status_tells (device_putc_tells (a 0) (a 1 % 256) s)) ⨾
    (λ a s k l. status_tells (device_seek_tells (a 0) (signed (a 1)) s)) ⨾
    (λ a s k l. status_tells (device_control_tells (a 0) (a 1) (a 2) s)) ⨾
    (λ a s k l. status_tells (mount_tells (a 0) (a 1) (a 2) s)) ⨾
    tt

-- A call of any number that answers -1 was refused, or that is its value.
pub refused_or_told : (number : ℕ) (args : List ℕ) (s : Xinu) → ArePools s.tables s.parts.pools → ArePorts s.tables s.parts.ports
    → TellsValue s (value_told number (slice_index args) s) (called number args s)
refused_or_told number args s pools ports = by_row (found_in calls number) refl
  where
    by_row : (found : Option CallRow) → found_in calls number ≡ found
        → TellsValue s (row_value found (slice_index args) s) (done_by found args s)
    by_row None e = refused_tells s None
    by_row (Some r) e =
        of_row (λ (x : CallRow). (a : ℕ → ℕ) (u : Xinu) → ArePools u.tables u.parts.pools → ArePorts u.tables u.parts.ports → TellsValue u
        (value_of x.reply a u) (x.effect a u)) calls calls_tell number r e (slice_index args) s pools ports
