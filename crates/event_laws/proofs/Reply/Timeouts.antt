-- Who answers -3 as it goes on waited for a message until its time ran out, or it is the value of its call.
use Rattle.std.proofs.Common.{◌≡◌, ◌≢◌, ◌⊎◌, inl, inr, ℕ, zero, suc, ◌+◌, ◌-◌, ◌==◌, Bool, true, false, not, cond, ◌&&◌, ◌||◌, List, [], ◌∷◌, length, take, Option, Some, None, is_some, refl, sym, ap, ◌∙◌, ℤ, pos, negsuc}
use Rattle.std.specs.Prelude.{slice_index, nat_le, nat_lt, IsSome, option_map}
use Rattle.std.specs.List.{AllByRecursion}
use Rattle.std.proofs.lemmas.Bool.{cond_both}
use Rattle.table_laws.proofs.Lists.Orders.{all_append}
use Rattle.table_laws.proofs.Tables.Scheduling.{holds_at}
use Rattle.xinu_base.specs.Constants.{OK, EOF, TIMEOUT}
use Rattle.xinu_base.specs.declared.files.OpenMode.{OpenMode}
use Rattle.xinu_base.specs.declared.processes.PortTicket.{PortTicket}
use Rattle.xinu_base.specs.declared.processes.Rest.{Rest}
use Rattle.xinu_base.specs.declared.processes.Rest.TheVariants as rest
use Rattle.xinu_base.specs.declared.processes.State.TheVariants.{Current, Receiving}
use Rattle.event_laws.specs.Replies.{first_of, value_kept}
use Rattle.event_laws.proofs.Reply.Continued.{Never, either_never, put_byte_never, read_item_never, reads_never, take_char_never, writes_never}
use Rattle.xinu_model.specs.Calls.{continued}
use Rattle.xinu_model.specs.Clock.{due, wakeup}
use Rattle.xinu_model.specs.Console.Constants.{TY_NEWLINE}
use Rattle.xinu_model.specs.Console.Putting.{put, writes}
use Rattle.xinu_model.specs.Console.Taking.{console_of, reads}
use Rattle.xinu_model.specs.Files.Calls.{FileCall, Open, Delete, Close, Read, Write, Getc, Putc, Seek, Truncate, Size, file_effect}
use Rattle.xinu_model.specs.Files.Constants.{LF_NUM_DIR_ENT, Nlfl}
use Rattle.xinu_model.specs.Files.Opening.{opened, with_created, open_stored, close_file}
use Rattle.xinu_model.specs.Files.Reading.{bytes_ahead, taken, read_file, first_byte, getc_file, seek_file, size_of_file}
use Rattle.xinu_model.specs.Files.Stored.{StoredFile, file_named, with_contents, without_file}
use Rattle.xinu_model.specs.Files.Systems.{OpenFile, FileSystem, FileEffect, open_at, is_open, free_device, open_bytes, moved, replies, refused_effect, on_open}
use Rattle.xinu_model.specs.Files.Writing.{have_room, fitting, put_bytes, write_file, putc_file, truncate_file}
use Rattle.xinu_model.specs.Machine.{Xinu, Returns, CallState, CallResult, start, returns, refused, goes_on, reply_at_unblock, unblock_with, unblock_all_with}
use Rattle.xinu_model.specs.Messages.{held, received}
use Rattle.xinu_model.specs.Pools.Buffers.{pool_at}
use Rattle.xinu_model.specs.Pools.Calls.{take_first}
use Rattle.xinu_model.specs.Ports.Calls.{put_message, finish_send, take_message, take_from, finish_receive}
use Rattle.xinu_model.specs.Ports.Queues.{PortQueue, most_nodes, nodes, port_at, queued, is_stale}
use Rattle.xinu_model.specs.RawDisk.Completions.{served, transferred}
use Rattle.xinu_model.specs.RawDisk.Requests.{Request, RawDisk}
use Rattle.xinu_model.specs.Semaphores.Calls.{answers}
use Rattle.xinu_model.specs.Sound.State.{IsSound}
use Rattle.xinu_model.specs.Sound.Tables.{HoldsFor}
use Rattle.xinu_model.specs.Tables.{process_at, state_at}
use Rattle.xinu_model.specs.Words.{signed}

-- a call that doesn't answer -3
abbrev InTime : CallResult → Type 0
InTime result = Never 2 result

-- a refusal
refused_in_time : (s : Xinu) → InTime (refused s)
refused_in_time s e = absurd (cc)

-- the answer -3 isn't that of the end of the input
not_end : suc (suc zero) ≢ suc zero
not_end e = absurd (cc)

-- a buffer that is taken
take_first_in_time : (free : List ℕ) (i : ℕ) (s : Xinu) → InTime (take_first free i s)
take_first_in_time [] i s e = absurd (cc)
take_first_in_time (a ∷ free) i s e = absurd (cc)

-- a message that is put into a port
put_message_in_time : (found : Option PortQueue) (q message : ℕ) (s : Xinu) → InTime (put_message found q message s)
put_message_in_time None q message s = refused_in_time s
put_message_in_time (Some queue) q message s =
    either_never 2 (nat_le most_nodes (nodes s.parts.ports)) _ _ (λ e. absurd (cc)) (λ e. absurd (cc))

-- a sender goes on
finish_send_in_time : (ticket : PortTicket) (message : ℕ) (s : Xinu) → InTime (finish_send ticket message s)
finish_send_in_time ticket message s =
    either_never 2 (is_stale ticket s.parts.ports) (refused s) _ (refused_in_time s)
    (put_message_in_time (port_at s.parts.ports ticket.port).queue ticket.port message s)

-- a message that is taken from a port answers it
take_message_told : (messages : List ℕ) (queue : PortQueue) (q : ℕ) (s : Xinu) → (take_message messages queue q s).answer ≡ Returns TIMEOUT
    → option_map signed (first_of messages) ≡ Some TIMEOUT
take_message_told [] queue q s e = absurd (cc)
take_message_told (message ∷ messages) queue q s e = cc

-- one of the messages of a queue
take_from_told : (found : Option PortQueue) (q : ℕ) (s : Xinu) → (take_from found q s).answer ≡ Returns TIMEOUT
    → option_map signed (first_of (queued found)) ≡ Some TIMEOUT
take_from_told None q s e = absurd (cc)
take_from_told (Some queue) q s e = take_message_told queue.messages queue q s e

-- a receiver goes on
finish_receive_told : (ticket : PortTicket) (s : Xinu) → (finish_receive ticket s).answer ≡ Returns TIMEOUT
    → option_map signed (first_of (queued (port_at s.parts.ports ticket.port).queue)) ≡ Some TIMEOUT
finish_receive_told ticket s =
    cond_both (is_stale ticket s.parts.ports) (refused s) _
    (λ (h : CallResult). h.answer ≡ Returns TIMEOUT → option_map signed
    (first_of (queued (port_at s.parts.ports ticket.port).queue)) ≡ Some TIMEOUT)
    (λ _ e. absurd (cc)) (λ _. take_from_told (port_at s.parts.ports ticket.port).queue ticket.port s)

-- a message that came answers it; if none came the time ran out
received_told : (message : Option ℕ) (s : Xinu) → (received message (returns (start (goes_on None s)) TIMEOUT) s).answer ≡ Returns TIMEOUT
    → (option_map signed message ≡ Some TIMEOUT) ⊎ (message ≡ None)
received_told None s e = inr refl
received_told (Some message) s e = inl (cc)

-- who waited without end has its message
message_told : (message : Option ℕ) (s : Xinu) → IsSome message
    → (received message (returns (start (goes_on None s)) TIMEOUT) s).answer ≡ Returns TIMEOUT → option_map signed message ≡ Some TIMEOUT
message_told None s some e = cc
message_told (Some message) s some e = cc

-- What is left of a call, with a message if it waited for one without end.
continued_told : (left : Rest) (s : Xinu) → HoldsFor left (held s) → (continued left s).answer ≡ Returns TIMEOUT
    → (value_kept left s ≡ Some TIMEOUT) ⊎ ((left ≡ rest.Timed) × (held s ≡ None))
continued_told rest.Receive s holds e = inl (message_told (held s) s holds e)
continued_told rest.Timed s holds e = by_message (received_told (held s) s e)
  where
    by_message : (option_map signed (held s) ≡ Some TIMEOUT) ⊎ (held s ≡ None)
        → (option_map signed (held s) ≡ Some TIMEOUT) ⊎ ((rest.Timed ≡ rest.Timed) × (held s ≡ None))
    by_message (inl f) = inl f
    by_message (inr f) = inr (refl, f)
continued_told rest.SelfSuspend s holds e = inl (cc)
continued_told (rest.GetBuf i) s holds e = absurd (take_first_in_time (pool_at s.parts.pools i).free i (goes_on (held s) s) e)
continued_told (rest.PtSend ticket message) s holds e = absurd (finish_send_in_time ticket message (goes_on (held s) s) e)
continued_told (rest.PtRecv ticket) s holds e = inl (finish_receive_told ticket (goes_on (held s) s) e)
continued_told rest.TtyGet s holds e = absurd (take_char_never 2 not_end (console_of s).committed (goes_on (held s) s) e)
continued_told (rest.TtyRead part) s holds e =
    absurd (read_item_never 2 not_end (console_of s).committed part.at part.done (reads (part.want - suc part.done) part.at (suc part.done))
    (goes_on (held s) s) (reads_never 2 not_end (part.want - suc part.done) part.at (suc part.done)) e)
continued_told (rest.TtyPut b true) s holds e = absurd (cc)
continued_told (rest.TtyPut b false) s holds e =
    absurd (put_byte_never 2 b (rest.TtyPut b true) (answers OK) (goes_on (held s) s) (λ v f. absurd (cc)) e)
continued_told (rest.TtyWrite part true) s holds e =
    absurd (writes_never 2 (part.want - suc part.done) part.at (suc part.done) (put TY_NEWLINE (goes_on (held s) s)) e)
continued_told (rest.TtyWrite part false) s holds e =
    absurd (put_byte_never 2 (slice_index s.memory (part.at + part.done)) (rest.TtyWrite part true)
    (writes (part.want - suc part.done) part.at (suc part.done)) (goes_on (held s) s)
    (writes_never 2 (part.want - suc part.done) part.at (suc part.done)) e)
continued_told (rest.Disk None) s holds e = absurd (cc)
continued_told (rest.Disk (Some reply)) s holds e = inl (cc)
continued_told rest.Nothing s holds e = absurd (cc)

-- From a sound state.
pub timeouts_told : (s : Xinu) → IsSound s → (continued (process_at s.tables s.tables.current).rest s).answer ≡ Returns TIMEOUT
    → (value_kept (process_at s.tables s.tables.current).rest s ≡ Some TIMEOUT) ⊎ (((process_at s.tables s.tables.current).rest ≡ rest.Timed) × (held s ≡ None))
timeouts_told s k =
    let t = s.tables in
    let runs : state_at t t.current ≡ Current = k.tables.runs in
    continued_told (process_at t t.current).rest s
    (holds_at t t.current k.tables.inside (λ (f : state_at t t.current ≡ Receiving). let g = sym runs ∙ f in absurd (cc)))

-- the time ran out
pub time_ran_out : (s : Xinu) → held s ≡ None → (continued rest.Timed s).answer ≡ Returns TIMEOUT
time_ran_out s none = ap (λ m. (received m (returns (start (goes_on None s)) TIMEOUT) s).answer) none

-- No completion of the raw disk replies so,
pub served_in_time : (good : Bool) (r : Request) (d : RawDisk) → (served good r d).reply ≢ TIMEOUT
served_in_time false r d = λ e. absurd (cc)
served_in_time true r d = by_bytes r.written
  where
    by_bytes : (bytes : Option (List ℕ)) → (transferred bytes r d).reply ≢ TIMEOUT
    by_bytes None e = absurd (cc)
    by_bytes (Some bytes) e = absurd (cc)

-- and no call on files.
abbrev Timely : FileEffect → Type 0
Timely e = e.reply ≢ TIMEOUT

-- a refusal replies -1
refused_timely : (s : FileSystem) → Timely (refused_effect s)
refused_timely s e = absurd (cc)

-- other replies aren't negative
replies_timely : (n : ℕ) (s : FileSystem) → Timely (replies (pos n) s)
replies_timely n s e = absurd (cc)

-- either of two effects
either_timely : (b : Bool) (x y : FileEffect) → Timely x → Timely y → Timely (cond b x y)
either_timely b x y k l = cond_both b x y Timely (λ _. k) (λ _. l)

-- an open, by whether there is the file
open_stored_timely : (found : Option StoredFile) (name : List ℕ) (mode : OpenMode) (s : FileSystem) → Timely (open_stored found name mode s)
open_stored_timely (Some f) name mode s =
    either_timely mode.only_new (refused_effect s) (opened name mode s) (refused_timely s) (λ e. absurd (cc))
open_stored_timely None name mode s =
    either_timely (mode.only_old || nat_le LF_NUM_DIR_ENT (length s.files)) (refused_effect s) (opened name mode (with_created name s))
    (refused_timely s) (λ e. absurd (cc))

-- a call on a device
on_device_timely : (found : Option OpenFile) (effect : OpenFile → FileEffect) (s : FileSystem) → ((f : OpenFile) → Timely (effect f))
    → Timely (on_open found effect s)
on_device_timely None effect s each = refused_timely s
on_device_timely (Some f) effect s each = each f

-- a byte is read, or there is none
first_byte_timely : (bytes : List ℕ) (d : ℕ) (f : OpenFile) (s : FileSystem) → Timely (first_byte bytes d f s)
first_byte_timely [] d f s e = absurd (cc)
first_byte_timely (b ∷ bytes) d f s e = absurd (cc)

-- a seek
seek_timely : (d : ℕ) (n : ℤ) (f : OpenFile) (s : FileSystem) → Timely (seek_file d n f s)
seek_timely d (negsuc n) f s = refused_timely s
seek_timely d (pos n) f s =
    either_timely (nat_lt (length (open_bytes f s)) n) (refused_effect s) (replies OK (moved d f n s)) (refused_timely s) (λ e. absurd (cc))

-- a read
read_timely : (d n : ℕ) (f : OpenFile) (s : FileSystem) → Timely (read_file d n f s)
read_timely d n f s =
    either_timely (not f.may_read) (refused_effect s) _ (refused_timely s)
    (either_timely (n == 0) (replies OK s) _ (replies_timely 0 s)
    (either_timely (nat_le (length (open_bytes f s)) f.position) (replies EOF s) (taken (bytes_ahead n f s) d f s)
    (λ e. absurd (cc)) (λ e. absurd (cc))))

-- Each call on files.
pub effects_timely : (call : FileCall) (bytes : List ℕ) (s : FileSystem) → Timely (file_effect call bytes s)
effects_timely (Open name mode) bytes s =
    either_timely (is_open name s || nat_le Nlfl (free_device s.devices)) (refused_effect s) _ (refused_timely s)
    (open_stored_timely (file_named name s.files) name mode s)
effects_timely (Delete name) bytes s =
    either_timely (is_open name s || not (is_some (file_named name s.files))) (refused_effect s) _ (refused_timely s)
    (replies_timely 0 (record s { files = without_file name s.files }))
effects_timely (Close d) bytes s = on_device_timely (open_at s d) (λ f. close_file d f s) s (λ f e. absurd (cc))
effects_timely (Read d n) bytes s = on_device_timely (open_at s d) (λ f. read_file d n f s) s (λ f. read_timely d n f s)
effects_timely (Write d n) bytes s =
    on_device_timely (open_at s d) (λ f. write_file d bytes f s) s
    (λ f. either_timely (not f.may_write || (nat_lt 0 (length bytes) && (fitting f bytes s == 0))) (refused_effect s)
    (replies (pos (fitting f bytes s)) (put_bytes (take (fitting f bytes s) bytes) d f s)) (refused_timely s) (λ e. absurd (cc)))
effects_timely (Getc d) bytes s =
    on_device_timely (open_at s d) (λ f. getc_file d f s) s
    (λ f. either_timely (not f.may_read) (refused_effect s) _ (refused_timely s) (first_byte_timely (bytes_ahead 1 f s) d f s))
effects_timely (Putc d b) bytes s =
    on_device_timely (open_at s d) (λ f. putc_file d b f s) s
    (λ f. either_timely (not f.may_write || not (have_room f (b ∷ []) s)) (refused_effect s) (replies OK (put_bytes (b ∷ []) d f s))
    (refused_timely s) (λ e. absurd (cc)))
effects_timely (Seek d n) bytes s = on_device_timely (open_at s d) (λ f. seek_file d n f s) s (λ f. seek_timely d n f s)
effects_timely (Truncate d) bytes s =
    on_device_timely (open_at s d) (λ f. truncate_file d f s) s
    (λ f. either_timely (not f.may_write) (refused_effect s)
    (replies OK (record (moved d f 0 s) { files = with_contents f.name [] s.files })) (refused_timely s) (λ e. absurd (cc)))
effects_timely (Size d) bytes s = on_device_timely (open_at s d) (λ f. size_of_file f s) s (λ f e. absurd (cc))

-- Who is released by a tick and answered at once is answered 0.
abbrev Answered : ℤ → List (ℕ × ℤ) → Type 0
Answered value replies = AllByRecursion (λ (r : ℕ × ℤ). r.1 ≡ value) replies

-- what a released process is answered at once
answered_at_unblock : (value : ℤ) (p : ℕ) (left : Rest) → Answered value (reply_at_unblock value p left)
answered_at_unblock value p rest.Nothing = (refl, tt)
answered_at_unblock value p _ = tt

-- what several are answered
all_answered : (value : ℤ) (ps : List ℕ) (d : CallState) → Answered value d.released → Answered value (unblock_all_with value ps d).released
all_answered value [] d k = k
all_answered value (p ∷ ps) d k =
    all_answered value ps (unblock_with value p d)
    (all_append (λ (r : ℕ × ℤ). r.1 ≡ value) d.released (reply_at_unblock value p (process_at d.state.tables p).rest) k
    (answered_at_unblock value p (process_at d.state.tables p).rest))

-- At a tick.
pub ticks_answer : (s : Xinu) → Answered OK (wakeup s).released
ticks_answer s = all_answered OK (due (s.tables.ticks + 1) s.tables.sleepers) (start s) tt
