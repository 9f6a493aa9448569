-- All calls but a send are calm: the kernel doesn't panic in them. A send panics only if all ports together are full.
use Rattle.std.proofs.Common.{◌≡◌, ℕ, zero, suc, ◌+◌, ◌*◌, ◌≤◌, ◌==◌, Bool, true, false, not, cond, ◌&&◌, ◌||◌, List, [], ◌∷◌, length, Option, Some, None, ℤ, pos, negsuc}
use Rattle.std.specs.Prelude.{slice_index, nat_le, nat_lt, int_lt}
use Rattle.std.proofs.lemmas.Bool.{cond_both, leb-true}
use Rattle.xinu_base.specs.Constants.{OK}
use Rattle.xinu_base.specs.declared.console.Item.{Item}
use Rattle.xinu_base.specs.declared.processes.PortTicket.{PortTicket}
use Rattle.xinu_base.specs.declared.processes.Rest.{Rest}
use Rattle.xinu_base.specs.declared.processes.Rest.TheVariants as rest
use Rattle.xinu_base.specs.declared.semaphores.Owner.TheVariants as owner
use Rattle.xinu_laws.proofs.Devices.Kept.{OfFiles}
use Rattle.xinu_laws.proofs.NameSpaces.Calls.{mount_holds}
use Rattle.xinu_model.specs.Clock.{sleepms, sleep}
use Rattle.xinu_model.specs.Console.Controls.{controlled}
use Rattle.xinu_model.specs.Console.Putting.{TY_OSEM, put, needs_return, put_byte, console_putc, writes, console_write}
use Rattle.xinu_model.specs.Console.Constants.{TY_NEWLINE, TY_RETURN}
use Rattle.xinu_model.specs.Console.Rows.{Committed}
use Rattle.xinu_model.specs.Console.Signals.{TC_ICHARS, control_with, console_control}
use Rattle.xinu_model.specs.Console.Taking.{TY_ISEM, console_of, is_cooked, with_committed, take_char, take_next, console_getc, span, stored, ends_line, count_at_end, read_item, read_next, reads, read_range, console_read}
use Rattle.xinu_model.specs.Heap.Calls.{granted, stacked, given_back}
use Rattle.xinu_model.specs.Heap.Cells as heap
use Rattle.xinu_model.specs.Heap.Cells.{Heap, Grant, Stack, take_stack}
use Rattle.xinu_model.specs.Machine.{Xinu, Panics, CallState, CallResult, start, returns, refused}
use Rattle.xinu_model.specs.Memory.{in_ram}
use Rattle.xinu_model.specs.Messages.{held, received, recvtime}
use Rattle.xinu_model.specs.Names.Calls.{mount, mount_rows}
use Rattle.xinu_model.specs.Names.Mounting.{NameRow}
use Rattle.xinu_model.specs.Pools.Buffers.{most_pools, pool_at, pool_bytes, whole_words, meets_pool}
use Rattle.xinu_model.specs.Pools.Calls.{made_pool, with_pool, is_pool_size, mkbufpool, take_first, take_buffer, getbuf, freed_by}
use Rattle.xinu_model.specs.Ports.Calls.{free_port, made_port, started_port, ptcreate, deleted_where, reset_where, put_message, finish_send, take_message, take_from, finish_receive, ticket_of, sent_to, received_from}
use Rattle.xinu_model.specs.Ports.Queues.{PortQueue, most_nodes, port_at, nodes, is_stale}
use Rattle.xinu_model.specs.Process.Calls.{created, create, is_ready, suspend, kill}
use Rattle.xinu_model.specs.Process.Creation.{free_process, stack_size}
use Rattle.xinu_model.specs.Process.Death.{exit}
use Rattle.xinu_model.specs.RawDisk.Calls.{may_request, disk_read, disk_write, disk_control}
use Rattle.xinu_model.specs.RawDisk.Constants.{RD_CTL_SIZE}
use Rattle.xinu_model.specs.Semaphores.Calls.{answers, made_semaphore, semcreate, semreset, wait, signaln}
use Rattle.xinu_model.specs.Semaphores.Counts.{with_tokens, is_good, free_semaphore, make_semaphore}
use Rattle.xinu_model.specs.Semaphores.Waiting.{take_token, await, signalled_times}
use Rattle.xinu_model.specs.Tables.{process_at, state_at, semaphore_at, is_free}

-- a call in which the kernel doesn't panic
abbrev pub Calm : CallResult → Type 0
Calm result = result.answer ≡ Panics → ⊥

-- a refused call is calm
pub refused_calm : (s : Xinu) → Calm (refused s)
refused_calm s e = absurd (cc)

-- so is a call that answers
pub returns_calm : (d : CallState) (value : ℤ) → Calm (returns d value)
returns_calm d value e = absurd (cc)

-- either of two ways to go on
pub either_calm : (b : Bool) (x y : CallResult) → Calm x → Calm y → Calm (cond b x y)
either_calm b x y k l = cond_both b x y Calm (λ _. k) (λ _. l)

-- one who waits for a token, or goes on with it
pub await_calm : (sem : ℕ) (left : Rest) (then_ : Xinu → CallResult) (s : Xinu) → ((u : Xinu) → Calm (then_ u))
    → Calm (await sem left then_ s)
await_calm sem left then_ s go = by_tokens (semaphore_at s.tables sem).tokens
  where
    by_tokens : (tokens : ℕ) → Calm (take_token tokens sem left then_ s)
    by_tokens zero = λ e. absurd (cc)
    by_tokens (suc n) = go _

-- a process is made, if a number and a stack were found
pub created_calm : (number : Option ℕ) (found : Option Stack) (entry size : ℕ) (priority : ℤ) (name : List ℕ) (x y : ℕ) (s : Xinu)
    → Calm (created number found entry size priority name x y s)
created_calm (Some p) (Some stack) entry size priority name x y s e = absurd (cc)
created_calm (Some p) None entry size priority name x y s e = absurd (cc)
created_calm None stack entry size priority name x y s e = absurd (cc)

-- call 2
pub create_calm : (entry size : ℕ) (priority : ℤ) (name x y : ℕ) (s : Xinu) → Calm (create entry size priority name x y s)
create_calm entry size priority name x y s =
    either_calm (int_lt priority (pos 1) || not (in_ram name 16)) (refused s) _ (refused_calm s)
    (created_calm (free_process s.tables) (take_stack (stack_size size) s.parts.heap) entry (stack_size size) priority _ x y s)

-- call 4
pub suspend_calm : (p : ℕ) (s : Xinu) → Calm (suspend p s)
suspend_calm p s =
    either_calm (p == 0) (refused s) _ (refused_calm s)
    (either_calm (is_ready (process_at s.tables p).state) _ _ (λ e. absurd (cc))
    (either_calm (p == s.tables.current) _ (refused s) (λ e. absurd (cc)) (refused_calm s)))

-- call 5
pub kill_calm : (p : ℕ) (s : Xinu) → Calm (kill p s)
kill_calm p s =
    either_calm ((p == 0) || is_free (state_at s.tables p)) (refused s) _ (refused_calm s)
    (either_calm (p == s.tables.current) (exit s) _ (λ e. absurd (cc)) (λ e. absurd (cc)))

-- memory is granted
pub granted_calm : (found : Option Grant) (s : Xinu) → Calm (granted found s)
granted_calm None s e = absurd (cc)
granted_calm (Some grant) s e = absurd (cc)

-- a stack that is granted
pub stacked_calm : (found : Option Stack) (s : Xinu) → Calm (stacked found s)
stacked_calm None s e = absurd (cc)
stacked_calm (Some stack) s e = absurd (cc)

-- memory that is given back
pub given_back_calm : (found : Option Heap) (s : Xinu) → Calm (given_back found s)
given_back_calm None s e = absurd (cc)
given_back_calm (Some free) s e = absurd (cc)

-- call 14
pub semcreate_calm : (count : ℤ) (s : Xinu) → Calm (semcreate count s)
semcreate_calm (negsuc n) s = refused_calm s
semcreate_calm (pos n) s = made (free_semaphore s.tables)
  where
    made : (found : Option ℕ) → Calm (made_semaphore n found s)
    made None e = absurd (cc)
    made (Some k) e = absurd (cc)

-- call 16
pub semreset_calm : (k : ℕ) (count : ℤ) (s : Xinu) → Calm (semreset k count s)
semreset_calm k (negsuc n) s = refused_calm s
semreset_calm k (pos n) s = either_calm (is_good k s.tables) _ (refused s) (λ e. absurd (cc)) (refused_calm s)

-- call 18
pub wait_calm : (k : ℕ) (s : Xinu) → Calm (wait k s)
wait_calm k s =
    either_calm (is_good k s.tables) _ (refused s) (await_calm k rest.Nothing (answers OK) s (λ u e. absurd (cc))) (refused_calm s)

-- call 20
pub signaln_calm : (k : ℕ) (n : ℤ) (s : Xinu) → Calm (signaln k n s)
signaln_calm k (negsuc n) s = refused_calm s
signaln_calm k (pos n) s = either_calm _ _ (refused s) (returns_calm (signalled_times k n (start s)) OK) (refused_calm s)

-- a message is taken, or another way gone
pub received_calm : (message : Option ℕ) (otherwise : CallResult) (s : Xinu) → Calm otherwise → Calm (received message otherwise s)
received_calm None otherwise s k = k
received_calm (Some message) otherwise s k = λ e. absurd (cc)

-- call 24
pub recvtime_calm : (ticks : ℤ) (s : Xinu) → Calm (recvtime ticks s)
recvtime_calm (negsuc n) s = refused_calm s
recvtime_calm (pos n) s = received_calm (held s) _ s (λ e. absurd (cc))

-- call 26
pub sleepms_calm : (ticks : ℤ) (s : Xinu) → Calm (sleepms ticks s)
sleepms_calm (negsuc n) s e = absurd (cc)
sleepms_calm (pos zero) s e = absurd (cc)
sleepms_calm (pos (suc n)) s e = absurd (cc)

-- call 25
pub sleep_calm : (seconds : ℤ) (s : Xinu) → Calm (sleep seconds s)
sleep_calm (negsuc n) s = refused_calm s
sleep_calm (pos n) s = either_calm (nat_lt 2147483 n) (refused s) _ (refused_calm s) (sleepms_calm (pos (1000 * n)) s)

-- a pool is made, if memory and a semaphore were found
pub made_pool_calm : (found : Option Grant) (sem : Option ℕ) (size n : ℕ) (s : Xinu) → Calm (made_pool found sem size n s)
made_pool_calm (Some grant) (Some sem) size n s =
    either_calm (meets_pool grant.address (pool_bytes size n) s.parts.pools) (refused s) (with_pool grant sem size n s) (refused_calm s)
    (λ e. absurd (cc))
made_pool_calm (Some grant) None size n s = refused_calm s
made_pool_calm None sem size n s = refused_calm s

-- call 28
pub mkbufpool_calm : (size n : ℕ) (s : Xinu) → Calm (mkbufpool size n s)
mkbufpool_calm size n s =
    either_calm (is_pool_size size n && nat_lt (length s.parts.pools) most_pools) _ (refused s)
    (made_pool_calm (heap.take_memory (pool_bytes (whole_words size) n) s.parts.heap) (free_semaphore s.tables) (whole_words size) n s)
    (refused_calm s)

-- the first free buffer is taken
pub take_first_calm : (free : List ℕ) (i : ℕ) (s : Xinu) → Calm (take_first free i s)
take_first_calm [] i s e = absurd (cc)
take_first_calm (a ∷ free) i s e = absurd (cc)

-- call 29
pub getbuf_calm : (i : ℕ) (s : Xinu) → Calm (getbuf i s)
getbuf_calm i s =
    either_calm (nat_lt i (length s.parts.pools)) _ (refused s)
    (await_calm (pool_at s.parts.pools i).semaphore (rest.GetBuf i) (take_buffer i) s
    (λ u. take_first_calm (pool_at u.parts.pools i).free i u)) (refused_calm s)

-- call 30
pub freed_by_calm : (found : Option ℕ) (a : ℕ) (s : Xinu) → Calm (freed_by found a s)
freed_by_calm None a s e = absurd (cc)
freed_by_calm (Some i) a s e = absurd (cc)

-- a port is made, if its second semaphore is found
pub made_port_calm : (found : Option ℕ) (q n send : ℕ) (s : Xinu) → Calm (made_port found q n send s)
made_port_calm None q n send s e = absurd (cc)
made_port_calm (Some receive) q n send s e = absurd (cc)

-- and if its first semaphore is found
pub started_port_calm : (q send : Option ℕ) (n : ℕ) (s : Xinu) → Calm (started_port q send n s)
started_port_calm (Some q) (Some send) n s = made_port_calm (free_semaphore (make_semaphore send (owner.Port q) n s.tables)) q n send s
started_port_calm (Some q) None n s = refused_calm s
started_port_calm None send n s = refused_calm s

-- call 31
pub ptcreate_calm : (n : ℤ) (s : Xinu) → Calm (ptcreate n s)
ptcreate_calm (negsuc n) s = refused_calm s
ptcreate_calm (pos n) s = started_port_calm (free_port s) (free_semaphore s.tables) n s

-- call 32
pub deleted_calm : (found : Option PortQueue) (q how : ℕ) (s : Xinu) → Calm (deleted_where found q how s)
deleted_calm None q how s = refused_calm s
deleted_calm (Some queue) q how s = either_calm (nat_le how 1) _ (refused s) (λ e. absurd (cc)) (refused_calm s)

-- call 33
pub reset_calm : (found : Option PortQueue) (q how : ℕ) (s : Xinu) → Calm (reset_where found q how s)
reset_calm None q how s = refused_calm s
reset_calm (Some queue) q how s = either_calm (nat_le how 1) _ (refused s) (λ e. absurd (cc)) (refused_calm s)

-- one of these messages is taken
pub take_message_calm : (messages : List ℕ) (queue : PortQueue) (q : ℕ) (s : Xinu) → Calm (take_message messages queue q s)
take_message_calm [] queue q s e = absurd (cc)
take_message_calm (message ∷ messages) queue q s e = absurd (cc)

-- one of the messages of a queue
pub take_from_calm : (found : Option PortQueue) (q : ℕ) (s : Xinu) → Calm (take_from found q s)
take_from_calm None q s = refused_calm s
take_from_calm (Some queue) q s = take_message_calm queue.messages queue q s

-- a receiver goes on
pub finish_receive_calm : (ticket : PortTicket) (s : Xinu) → Calm (finish_receive ticket s)
finish_receive_calm ticket s =
    either_calm (is_stale ticket s.parts.ports) (refused s) _ (refused_calm s)
    (take_from_calm (port_at s.parts.ports ticket.port).queue ticket.port s)

-- call 35
pub received_from_calm : (found : Option PortQueue) (q : ℕ) (s : Xinu) → Calm (received_from found q s)
received_from_calm None q s = refused_calm s
received_from_calm (Some queue) q s =
    await_calm queue.receive (rest.PtRecv (ticket_of q queue.receive s)) (finish_receive (ticket_of q queue.receive s)) s
    (finish_receive_calm (ticket_of q queue.receive s))

-- A send panics only if all ports together are full,
pub put_message_full : (found : Option PortQueue) (q message : ℕ) (s : Xinu) → (put_message found q message s).answer ≡ Panics
    → most_nodes ≤ nodes s.parts.ports
put_message_full None q message s = λ e. absurd (cc)
put_message_full (Some queue) q message s =
    cond_both (nat_le most_nodes (nodes s.parts.ports)) (record { call = start s; answer = Panics }) _ (λ (h : CallResult). h.answer ≡ Panics → most_nodes ≤ nodes s.parts.ports)
    (λ b _. leb-true most_nodes (nodes s.parts.ports) b) (λ _ e. absurd (cc))

-- and its ticket isn't stale.
pub finish_send_full : (ticket : PortTicket) (message : ℕ) (s : Xinu) → (finish_send ticket message s).answer ≡ Panics
    → (is_stale ticket s.parts.ports ≡ false) × (most_nodes ≤ nodes s.parts.ports)
finish_send_full ticket message s =
    cond_both (is_stale ticket s.parts.ports) (refused s) _
    (λ (h : CallResult). h.answer ≡ Panics → (is_stale ticket s.parts.ports ≡ false) × (most_nodes ≤ nodes s.parts.ports))
    (λ _ e. absurd (cc)) (λ b e. (b, put_message_full (port_at s.parts.ports ticket.port).queue ticket.port message s e))

-- call 34
pub sent_to_full : (found : Option PortQueue) (q message : ℕ) (s : Xinu) → (sent_to found q message s).answer ≡ Panics
    → most_nodes ≤ nodes s.parts.ports
sent_to_full None q message s = λ e. absurd (cc)
sent_to_full (Some queue) q message s = by_tokens (semaphore_at s.tables queue.send).tokens
  where
    by_tokens : (tokens : ℕ)
        → (take_token tokens queue.send (rest.PtSend (ticket_of q queue.send s) message) (finish_send (ticket_of q queue.send s) message) s).answer ≡ Panics
        → most_nodes ≤ nodes s.parts.ports
    by_tokens zero = λ e. absurd (cc)
    by_tokens (suc n) =
        λ e. (finish_send_full (ticket_of q queue.send s) message (record s { tables = with_tokens queue.send n s.tables }) e).1

-- a character is taken
pub take_char_calm : (items : List Item) (s : Xinu) → Calm (take_char items s)
take_char_calm [] s e = absurd (cc)
take_char_calm (x ∷ items) s e = absurd (cc)

-- `getc` of the console
pub getc_calm : (s : Xinu) → Calm (console_getc s)
getc_calm s = await_calm TY_ISEM rest.TtyGet take_next s (λ u. take_char_calm (console_of u).committed u)

-- an item is read, and then the rest
pub read_item_calm : (items : List Item) (at done : ℕ) (then_ : Xinu → CallResult) (s : Xinu) → ((u : Xinu) → Calm (then_ u))
    → Calm (read_item items at done then_ s)
read_item_calm [] at done then_ s go = λ e. absurd (cc)
read_item_calm (x ∷ items) at done then_ s go =
    either_calm _ _ _ (returns_calm (start (with_committed items s)) (count_at_end done))
    (either_calm (ends_line (console_of s).mode x) _ _ (returns_calm (start (stored x at done (with_committed items s))) (pos (suc done)))
    (go (stored x at done (with_committed items s))))

-- a read goes on to its end
pub reads_calm : (left at done : ℕ) (s : Xinu) → Calm (reads left at done s)
reads_calm zero at done s = λ e. absurd (cc)
reads_calm (suc left) at done s =
    await_calm TY_ISEM (rest.TtyRead (span at done (done + suc left))) (read_next at done (reads left at (suc done))) s
    (λ u. read_item_calm (console_of u).committed at done (reads left at (suc done)) u (reads_calm left at (suc done)))

-- a read to bytes of RAM
pub read_range_calm : (at n : ℕ) (s : Xinu) → Calm (read_range at n s)
read_range_calm at n s = either_calm (in_ram at n) (reads n at 0 s) (refused s) (reads_calm n at 0 s) (refused_calm s)

-- `read` of the console
pub read_calm : (at : ℕ) (n : ℤ) (s : Xinu) → Calm (console_read at n s)
read_calm at (negsuc n) s = refused_calm s
read_calm at (pos zero) s =
    either_calm (is_cooked (console_of s).mode) (answers OK s) _
    (λ e. absurd (cc)) (read_range_calm at (semaphore_at s.tables TY_ISEM).tokens s)
read_calm at (pos (suc n)) s = read_range_calm at (suc n) s

-- a byte is put, and then the rest
pub put_byte_calm : (b : ℕ) (left : Rest) (then_ : Xinu → CallResult) (s : Xinu) → ((u : Xinu) → Calm (then_ u))
    → Calm (put_byte b left then_ s)
put_byte_calm b left then_ s go =
    either_calm (needs_return b (console_of s).mode) (await TY_OSEM left (λ x. then_ (put TY_NEWLINE x)) (put TY_RETURN s))
    (then_ (put b s))
    (await_calm TY_OSEM left (λ x. then_ (put TY_NEWLINE x)) (put TY_RETURN s) (λ u. go (put TY_NEWLINE u))) (go (put b s))

-- `putc` of the console
pub putc_calm : (b : ℕ) (s : Xinu) → Calm (console_putc b s)
putc_calm b s =
    await_calm TY_OSEM (rest.TtyPut b false) (put_byte b (rest.TtyPut b true) (answers OK)) s
    (λ u. put_byte_calm b (rest.TtyPut b true) (answers OK) u (λ v e. absurd (cc)))

-- a write goes on to its end
pub writes_calm : (left at done : ℕ) (s : Xinu) → Calm (writes left at done s)
writes_calm zero at done s = λ e. absurd (cc)
writes_calm (suc left) at done s =
    let part = span at done (done + suc left) in
    await_calm TY_OSEM (rest.TtyWrite part false)
    (λ x. put_byte (slice_index x.memory (at + done)) (rest.TtyWrite part true) (writes left at (suc done)) x) s
    (λ u. put_byte_calm (slice_index u.memory (at + done)) (rest.TtyWrite part true) (writes left at (suc done)) u
    (writes_calm left at (suc done)))

-- `write` of the console
pub write_calm : (at : ℕ) (n : ℤ) (s : Xinu) → Calm (console_write at n s)
write_calm at (negsuc n) s = refused_calm s
write_calm at (pos n) s = either_calm (in_ram at n) (writes n at 0 s) (refused s) (writes_calm n at 0 s) (refused_calm s)

-- a control function of the console
pub control_calm : (found : Option Committed) (s : Xinu) → Calm (control_with found s)
control_calm None s = refused_calm s
control_calm (Some m) s = λ e. absurd (cc)

-- `control` of the console
pub console_control_calm : (f : ℕ) (s : Xinu) → Calm (console_control f s)
console_control_calm f s = either_calm (f == TC_ICHARS) _ _ (λ e. absurd (cc)) (control_calm (controlled f (console_of s)) s)

-- `read` of the raw disk
pub disk_read_calm : (at block : ℕ) (s : Xinu) → Calm (disk_read at block s)
disk_read_calm at block s = either_calm (may_request at block s) _ (refused s) (λ e. absurd (cc)) (refused_calm s)

-- `write` of the raw disk
pub disk_write_calm : (at block : ℕ) (s : Xinu) → Calm (disk_write at block s)
disk_write_calm at block s = either_calm (may_request at block s) _ (refused s) (λ e. absurd (cc)) (refused_calm s)

-- `control` of the raw disk
pub disk_control_calm : (f : ℕ) (s : Xinu) → Calm (disk_control f s)
disk_control_calm f s = either_calm (f == RD_CTL_SIZE) _ (refused s) (λ e. absurd (cc)) (refused_calm s)

-- a call on files
pub files_calm : (s : Xinu) → OfFiles Calm s
files_calm s None at asked = refused_calm s
files_calm s (Some call) at asked = λ e. absurd (cc)

-- call 44
pub mount_calm : (prefix replacement dev : ℕ) (s : Xinu) → Calm (mount prefix replacement dev s)
mount_calm prefix replacement dev s = mount_holds Calm prefix replacement dev s (refused_calm s) (λ row found w e. by_found found)
  where
    by_found : (found : Option (List NameRow)) → Calm (mount_rows found s)
    by_found None = refused_calm s
    by_found (Some rows) = λ e. absurd (cc)
