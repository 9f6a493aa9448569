-- Each call that isn't on a device answers -1 if and only if one of its causes holds.
use Rattle.std.proofs.Common.{◌≡◌, ◌∙◌, ℕ, zero, suc, ◌+◌, ◌*◌, ◌%◌, ◌<◌, ◌==◌, Bool, true, false, not, cond, ◌&&◌, ◌||◌, List, [], ◌∷◌, length, take, drop, refl, sym, ap, subst, arith, Option, Some, None, ℤ, pos, negsuc}
use Rattle.std.specs.Prelude.{is_some, max, nat_le, nat_lt, int_lt, ◌+ℤ◌}
use Rattle.std.specs.List.{list_any}
use Rattle.std.proofs.lemmas.Bool.{eqb-true, lt-ltb, ltb-true}
use Rattle.event_laws.specs.Replies.{first_of}
use Rattle.refusal_reasons.specs.Causes.{cause, first_reason, is_minus_one, is_minus_one_message, is_negative, answers_minus_one}
use Rattle.refusal_reasons.specs.declared.reasons.Cause.{Cause}
use Rattle.refusal_reasons.specs.Clock.{sleep_causes, sleepms_causes}
use Rattle.refusal_reasons.specs.Memory.{are_free, bottom_of, cells_from, freemem_causes, freestk_causes, has_free, taking_causes}
use Rattle.refusal_reasons.specs.Messages.{send_causes, message_told, recvtime_causes}
use Rattle.refusal_reasons.specs.Pools.{bytes_for, grant_meets, is_anywhere_free, is_anywhere_held, mkbufpool_causes, getbuf_causes, freebuf_causes}
use Rattle.refusal_reasons.specs.Ports.{free_ports, ptcreate_causes, disposal_causes, can_take, no_port, ptrecv_causes}
use Rattle.refusal_reasons.specs.Processes.{create_causes, resume_causes, suspend_causes, kill_causes, priority_causes}
use Rattle.refusal_reasons.specs.Semaphores.{free_semaphores, semcreate_causes, semaphore_named, semreset_causes, semcount_causes, signal_causes, signaln_causes, kernel_semaphore, no_free_semaphore, no_semaphore}
use Rattle.refusal_reasons.specs.declared.reasons.Reason.{Reason}
use Rattle.refusal_reasons.specs.declared.reasons.Reason.TheVariants as reason
use Rattle.refusal_reasons.proofs.Blocks.{memory_found, stack_found, some_stack, some_pool}
use Rattle.refusal_reasons.proofs.Combined.{Tells, tells, by_cause, refused_if, refused_unless, refused_if_either, status_if, status_unless, value_told, neither, semaphore_told, semaphore_tested, semaphore_refused}
use Rattle.refusal_reasons.proofs.Counted.{process_counts, semaphore_counts, port_counts, second_counts}
use Rattle.xinu_base.specs.declared.processes.Rest.{Rest}
use Rattle.xinu_base.specs.declared.processes.Rest.TheVariants as rest
use Rattle.xinu_base.specs.declared.processes.State.{State}
use Rattle.xinu_base.specs.declared.processes.State.TheVariants.{Free, Current, Ready, Receiving, Sleeping, Suspended, Waiting, Timed}
use Rattle.xinu_base.specs.declared.semaphores.Owner.{Owner}
use Rattle.xinu_base.specs.declared.semaphores.Owner.TheVariants as owner
use Rattle.xinu_laws.proofs.Refusals.{fresh_ticket}
use Rattle.xinu_model.specs.Clock.{sleepms, sleep}
use Rattle.xinu_model.specs.Heap.Calls.{getmem, freemem, getstk, freestk, granted, stacked, given_back}
use Rattle.xinu_model.specs.Heap.Cells as heap
use Rattle.xinu_model.specs.Heap.Cells.{Heap, Grant, Stack, begins_with, cells_for, freed, free_memory, take_stack}
use Rattle.xinu_model.specs.Machine.{Xinu, Waits, Panics, CallState, CallResult, start, blocked, ready_later, returns, refused}
use Rattle.xinu_model.specs.Memory.{in_ram}
use Rattle.xinu_model.specs.Messages.{held, received, recvtime, receive, recvclr, send}
use Rattle.xinu_model.specs.Pools.Buffers.{BufferPool, most_pools, holder, holder_from, is_held, pool_at, whole_words, meets_pool}
use Rattle.xinu_model.specs.Pools.Calls.{made_pool, with_pool, mkbufpool, take_first, take_buffer, getbuf, freed_by, freebuf}
use Rattle.xinu_model.specs.Ports.Calls.{cleared, deleted, emptied_port, free_port, started_port, made_port, ptcreate, ptdelete, ptreset, ptsend, ptrecv, deleted_where, reset_where, put_message, finish_send, take_message, take_from, finish_receive, ticket_of, sent_to, received_from}
use Rattle.xinu_model.specs.Ports.Queues.{PortQueue, most_nodes, nodes, port_at, queued}
use Rattle.xinu_model.specs.Process.Calls.{created, create, resume, suspend, kill, chprio, getprio, is_ready, is_suspended}
use Rattle.xinu_model.specs.Process.Creation.{free_process, process_name, stack_size}
use Rattle.xinu_model.specs.Process.Death.{exit}
use Rattle.xinu_model.specs.Semaphores.Calls.{answers, made_semaphore, semcreate, semdelete, semreset, semcount, wait, signal, signaln}
use Rattle.xinu_model.specs.Semaphores.Counts.{most_tokens, with_tokens, count_of, free_semaphore, is_images, make_semaphore}
use Rattle.xinu_model.specs.Semaphores.Waiting.{take_token}
use Rattle.xinu_model.specs.Sound.Pools.{ArePools}
use Rattle.xinu_model.specs.Sound.Ports.{ArePorts}
use Rattle.xinu_model.specs.Sound.Tables.{IsSoundTables}
use Rattle.xinu_model.specs.Tables.{process_at, state_at, message_at, semaphore_at, is_free, InSleepers}
use Rattle.xinu_model.specs.Words.{signed, half}

-- a test that is the opposite of another, in the place of one cause, or of two
tells_not : (r : Reason) (a b : Bool) (causes : List Cause) (x : CallResult) → a ≡ not b → Tells (cause r (not b) ∷ causes) x
    → Tells (cause r a ∷ causes) x
tells_not r a b causes x e k = subst (λ t. Tells (cause r t ∷ causes) x) (sym e) k

tells_nots : (r q : Reason) (a b c d : Bool) (causes : List Cause) (x : CallResult) → a ≡ not b → c ≡ not d
    → Tells (cause r (not b) ∷ cause q (not d) ∷ causes) x → Tells (cause r a ∷ cause q c ∷ causes) x
tells_nots r q a b c d causes x e f k =
    subst (λ t. Tells (cause r a ∷ cause q t ∷ causes) x) (sym f) (subst (λ t. Tells (cause r t ∷ cause q (not d) ∷ causes) x) (sym e) k)

-- a process is created, if a number and a stack are found
created_told : (number : Option ℕ) (found : Option Stack) (entry size : ℕ) (priority : ℤ) (name : List ℕ) (x y : ℕ) (s : Xinu)
    → Tells (cause reason.NoFreeProcess (not (is_some number)) ∷ cause reason.NoBlock (not (is_some found)) ∷ [])
    (created number found entry size priority name x y s)
created_told (Some p) (Some stack) entry size priority name x y s = tells refl
created_told (Some p) None entry size priority name x y s = tells refl
created_told None stack entry size priority name x y s = tells refl

-- call 2
pub create_told : (entry size priority name x y : ℕ) (s : Xinu) → IsSoundTables s.tables
    → Tells (create_causes size priority name s) (create entry size (half priority) name x y s)
create_told entry size priority name x y s sound =
    let found = take_stack (stack_size size) s.parts.heap in
    let text = process_name (take 16 (drop name s.memory)) in
    let x_ = created (free_process s.tables) found entry (stack_size size) (half priority) text x y s in
    let some : is_some found ≡ has_free (cells_for (stack_size size)) s.parts.heap.cells =
    stack_found (stack_size size) s.parts.heap ∙ ap (λ b. not b && has_free (cells_for (stack_size size)) s.parts.heap.cells) (some_stack size) in
    refused_if_either reason.PriorityBelowOne reason.NameOutsideRam (int_lt (half priority) (pos 1)) (not (in_ram name 16)) _ s x_
    (λ _ _. tells_nots reason.NoFreeProcess reason.NoBlock _ (is_some (free_process s.tables)) _ (is_some found) [] x_
    (process_counts s.tables sound.inside.processes) (ap not (sym some))
    (created_told (free_process s.tables) found entry (stack_size size) (half priority) text x y s))

-- the one state without a process
only_free : (x : State) → is_free x ≡ true → x ≡ Free
only_free Free e = refl
only_free Current e = absurd (cc)
only_free Ready e = absurd (cc)
only_free Receiving e = absurd (cc)
only_free Sleeping e = absurd (cc)
only_free Suspended e = absurd (cc)
only_free Waiting e = absurd (cc)
only_free Timed e = absurd (cc)

-- call 3
pub resume_told : (p : ℕ) (s : Xinu) → Tells (resume_causes p s) (resume p s)
resume_told p s =
    let x = state_at s.tables p in
    let priority = (process_at s.tables p).priority in
    by_cause reason.NoProcess (is_free x) _ _
    (λ e. ap (λ (y : State). answers_minus_one (cond (is_suspended y) (returns (ready_later p (start s)) priority) (refused s)).answer) (only_free x e))
    (λ _. refused_unless reason.NotSuspended (is_suspended x) _ s _ (λ _. value_told reason.PriorityIsMinusOne priority _))

-- call 4
suspended_told : (ready own : Bool) (priority : ℤ) (d e : CallState) (s : Xinu)
    → Tells (cause reason.NotReady (not ready && not own) ∷ cause reason.PriorityIsMinusOne (ready && is_minus_one priority) ∷ [])
    (cond ready (returns d priority) (cond own (record { call = e; answer = Waits }) (refused s)))
suspended_told true own priority d e s = tells (value_told reason.PriorityIsMinusOne priority d).told
suspended_told false true priority d e s = tells refl
suspended_told false false priority d e s = tells refl

-- a number without a process is refused: it isn't the caller's
free_refused : (x : State) (own : Bool) (d : CallState) (priority : ℤ) (e : CallState) (s : Xinu) → x ≡ Free → (own ≡ true → x ≡ Current)
    → answers_minus_one (cond (is_ready x) (returns d priority) (cond own (record { call = e; answer = Waits }) (refused s))).answer ≡ true
free_refused x true d priority e s f g = let h : Free ≡ Current = sym f ∙ g refl in absurd (cc)
free_refused x false d priority e s f g = ap (λ (y : State). answers_minus_one (cond (is_ready y) (returns d priority) (refused s)).answer) f

pub suspend_told : (p : ℕ) (s : Xinu) → IsSoundTables s.tables → Tells (suspend_causes p s) (suspend p s)
suspend_told p s sound =
    let x = state_at s.tables p in
    let own = p == s.tables.current in
    refused_if reason.NullProcess (p == 0) _ s _
    (λ _. by_cause reason.NoProcess (is_free x) _ _
    (λ e. free_refused x own _ (process_at s.tables p).priority _ s (only_free x e) (λ f. ap (state_at s.tables) (eqb-true p s.tables.current f) ∙ sound.runs))
    (λ _. suspended_told (is_ready x) own (process_at s.tables p).priority _ _ s))

-- call 5
pub kill_told : (p : ℕ) (s : Xinu) → Tells (kill_causes p s) (kill p s)
kill_told p s =
    refused_if_either reason.NullProcess reason.NoProcess (p == 0) (is_free (state_at s.tables p)) [] s _
    (λ _ _. neither (p == s.tables.current) (exit s) _ (tells refl) (tells refl))

-- calls 7 and 8
pub chprio_told : (p : ℕ) (priority : ℤ) (s : Xinu) → Tells (priority_causes p s) (chprio p priority s)
chprio_told p priority s =
    refused_if reason.NoProcess (is_free (state_at s.tables p)) _ s _ (λ _. value_told reason.PriorityIsMinusOne (process_at s.tables p).priority _)

pub getprio_told : (p : ℕ) (s : Xinu) → Tells (priority_causes p s) (getprio p s)
getprio_told p s =
    refused_if reason.NoProcess (is_free (state_at s.tables p)) _ s _ (λ _. value_told reason.PriorityIsMinusOne (process_at s.tables p).priority _)

-- what is granted or not
granted_some : (found : Option Grant) (s : Xinu) → answers_minus_one (granted found s).answer ≡ not (is_some found)
granted_some None s = refl
granted_some (Some grant) s = refl

stacked_some : (found : Option Stack) (s : Xinu) → answers_minus_one (stacked found s).answer ≡ not (is_some found)
stacked_some None s = refl
stacked_some (Some stack) s = refl

given_some : (found : Option Heap) (s : Xinu) → answers_minus_one (given_back found s).answer ≡ not (is_some found)
given_some None s = refl
given_some (Some free) s = refl

-- one cause, or another
two_causes : (r q : Reason) (a b : Bool) → not (not a && b) ≡ is_some (first_reason (cause r a ∷ cause q (not b) ∷ []))
two_causes r q true b = refl
two_causes r q false true = refl
two_causes r q false false = refl

-- calls 10 and 12
pub getmem_told : (n : ℕ) (s : Xinu) → Tells (taking_causes n s) (getmem n s)
getmem_told n s =
    tells (granted_some (heap.take_memory n s.parts.heap) s ∙ ap not (memory_found n s.parts.heap)
    ∙ two_causes reason.NoBytes reason.NoBlock (n == 0) (has_free (cells_for n) s.parts.heap.cells))

pub getstk_told : (n : ℕ) (s : Xinu) → Tells (taking_causes n s) (getstk n s)
getstk_told n s =
    tells (stacked_some (take_stack n s.parts.heap) s ∙ ap not (stack_found n s.parts.heap)
    ∙ two_causes reason.NoBytes reason.NoBlock (n == 0) (has_free (cells_for n) s.parts.heap.cells))

-- bytes that are given back: they have to be taken
freed_some : (low begins : Bool) (free : Heap) → is_some (cond low None (cond begins (Some free) None)) ≡ (not low && begins)
freed_some true begins free = refl
freed_some false true free = refl
freed_some false false free = refl

giving_told : (taken free : Bool) → not taken ≡ is_some (first_reason (cause reason.FreeAlready (not taken && free) ∷ cause reason.NotTaken (not taken) ∷ []))
giving_told true free = refl
giving_told false true = refl
giving_told false false = refl

-- call 11
memory_told : (r : Reason) (none aligned low begins meets : Bool) (free : Heap) (s : Xinu)
    → Tells (cause reason.NoBytes none ∷ cause r (not aligned) ∷ cause reason.FreeAlready (not (not low && begins) && meets) ∷ cause reason.NotTaken (not (not low && begins)) ∷ [])
    (given_back (cond (none || (not aligned || low)) None (cond begins (Some free) None)) s)
memory_told r true aligned low begins meets free s = tells refl
memory_told r false false low begins meets free s = tells refl
memory_told r false true low begins meets free s =
    let found = cond low None (cond begins (Some free) None) in
    tells (given_some found s ∙ ap not (freed_some low begins free) ∙ giving_told (not low && begins) meets)

pub freemem_told : (a n : ℕ) (s : Xinu) → Tells (freemem_causes a n s.parts.heap) (freemem a n s)
freemem_told a n s =
    let h = s.parts.heap in
    memory_told reason.NotAligned (n == 0) (a % 8 == 0) (nat_lt a h.low) (begins_with false (cells_for n) (cells_from a h)) (are_free a n h) _ s

-- call 13
bottom_told : (none below aligned low begins meets : Bool) (free : Heap) (s : Xinu)
    → Tells (cause reason.NoBytes none ∷ cause reason.NotTop (below || not aligned) ∷ cause reason.FreeAlready (not (not low && begins) && meets) ∷ cause reason.NotTaken (not (not low && begins)) ∷ [])
    (given_back (cond below None (cond (none || (not aligned || low)) None (cond begins (Some free) None))) s)
bottom_told true true aligned low begins meets free s = tells refl
bottom_told true false aligned low begins meets free s = tells refl
bottom_told false true aligned low begins meets free s = tells refl
bottom_told false false aligned low begins meets free s = tells (memory_told reason.NotTop false aligned low begins meets free s).told

pub freestk_told : (a n : ℕ) (s : Xinu) → Tells (freestk_causes a n s.parts.heap) (freestk a n s)
freestk_told a n s =
    let h = s.parts.heap in
    let b = bottom_of a n in
    bottom_told (n == 0) (nat_lt (a + 4) (8 * cells_for n)) (b % 8 == 0) (nat_lt b h.low) (begins_with false (cells_for n) (cells_from b h)) (are_free b n h) _ s

-- call 14
created_semaphore_told : (count : ℤ) (s : Xinu) → IsSoundTables s.tables
    → Tells (cause reason.NegativeCount (is_negative count) ∷ no_free_semaphore s ∷ []) (semcreate count s)
created_semaphore_told (negsuc n) s sound = tells refl
created_semaphore_told (pos n) s sound =
    tells (tells_not reason.NoFreeSemaphore _ (is_some (free_semaphore s.tables)) [] (semcreate (pos n) s)
    (semaphore_counts s.tables sound.inside.semaphores) (made (free_semaphore s.tables))).told
  where
    made : (found : Option ℕ) → Tells (cause reason.NoFreeSemaphore (not (is_some found)) ∷ []) (made_semaphore n found s)
    made None = tells refl
    made (Some sem) = tells refl

pub semcreate_told : (count : ℕ) (s : Xinu) → IsSoundTables s.tables → Tells (semcreate_causes count s) (semcreate (signed count) s)
semcreate_told count s sound = created_semaphore_told (signed count) s sound

-- call 15
pub semdelete_told : (sem : ℕ) (s : Xinu) → Tells (semaphore_named sem s) (semdelete sem s)
semdelete_told sem s = semaphore_told reason.NoSemaphore reason.KernelSemaphore (semaphore_at s.tables sem).owner [] s _ (tells refl)

-- call 16
reset_semaphore_told : (sem : ℕ) (count : ℤ) (s : Xinu)
    → Tells (no_semaphore sem s ∷ kernel_semaphore sem s ∷ cause reason.NegativeCount (is_negative count) ∷ []) (semreset sem count s)
reset_semaphore_told sem (negsuc n) s =
    semaphore_refused reason.NoSemaphore reason.KernelSemaphore reason.NegativeCount (not (is_some (semaphore_at s.tables sem).owner))
    (not (is_images (semaphore_at s.tables sem).owner)) [] s
reset_semaphore_told sem (pos n) s = semaphore_told reason.NoSemaphore reason.KernelSemaphore (semaphore_at s.tables sem).owner _ s _ (tells refl)

pub semreset_told : (sem count : ℕ) (s : Xinu) → Tells (semreset_causes sem count s) (semreset sem (signed count) s)
semreset_told sem count s = reset_semaphore_told sem (signed count) s

-- call 17
pub semcount_told : (sem : ℕ) (s : Xinu) → Tells (semcount_causes sem s) (semcount sem s)
semcount_told sem s =
    semaphore_told reason.NoSemaphore reason.KernelSemaphore (semaphore_at s.tables sem).owner _ s _
    (value_told reason.CountIsMinusOne (count_of (semaphore_at s.tables sem)) (start s))

-- call 18
pub wait_told : (sem : ℕ) (s : Xinu) → Tells (semaphore_named sem s) (wait sem s)
wait_told sem s =
    semaphore_told reason.NoSemaphore reason.KernelSemaphore (semaphore_at s.tables sem).owner [] s _ (by_tokens (semaphore_at s.tables sem).tokens)
  where
    by_tokens : (tokens : ℕ) → Tells [] (take_token tokens sem rest.Nothing (answers (pos 0)) s)
    by_tokens zero = tells refl
    by_tokens (suc n) = tells refl

-- call 19
pub signal_told : (sem : ℕ) (s : Xinu) → Tells (signal_causes sem s) (signal sem s)
signal_told sem s =
    semaphore_tested reason.NoSemaphore reason.KernelSemaphore reason.CountTooGreat (semaphore_at s.tables sem).owner
    (int_lt (count_of (semaphore_at s.tables sem)) most_tokens) s _ (tells refl)

-- call 20
n_signals_told : (sem : ℕ) (n : ℤ) (s : Xinu)
    → Tells (no_semaphore sem s ∷ kernel_semaphore sem s ∷ cause reason.NegativeSignals (is_negative n) ∷ cause reason.CountTooGreat (int_lt most_tokens (count_of (semaphore_at s.tables sem) +ℤ n)) ∷ []) (signaln sem n s)
n_signals_told sem (negsuc n) s =
    semaphore_refused reason.NoSemaphore reason.KernelSemaphore reason.NegativeSignals (not (is_some (semaphore_at s.tables sem).owner))
    (not (is_images (semaphore_at s.tables sem).owner)) _ s
n_signals_told sem (pos n) s =
    signals_told (semaphore_at s.tables sem).owner (int_lt most_tokens (count_of (semaphore_at s.tables sem) +ℤ pos n)) _ s
  where
    signals_told : (owner : Option Owner) (b : Bool) (d : CallState) (s : Xinu)
        → Tells (cause reason.NoSemaphore (not (is_some owner)) ∷ cause reason.KernelSemaphore (not (is_images owner)) ∷ cause reason.NegativeSignals false ∷ cause reason.CountTooGreat b ∷ [])
        (cond (is_images owner && not b) (returns d (pos 0)) (refused s))
    signals_told None b d s = tells refl
    signals_told (Some o) b d s = tells (by_owner (is_images (Some o)) b).told
      where
        by_owner : (own b : Bool)
            → Tells (cause reason.KernelSemaphore (not own) ∷ cause reason.NegativeSignals false ∷ cause reason.CountTooGreat b ∷ []) (cond (own && not b) (returns d (pos 0)) (refused s))
        by_owner false b = tells refl
        by_owner true true = tells refl
        by_owner true false = tells refl

pub signaln_told : (sem n : ℕ) (s : Xinu) → Tells (signaln_causes sem n s) (signaln sem (signed n) s)
signaln_told sem n s = n_signals_told sem (signed n) s

-- call 21
sent_told : (free some : Bool) (d : CallState) (s : Xinu)
    → Tells (cause reason.NoProcess free ∷ cause reason.HoldsMessage some ∷ []) (cond (not free && not some) (returns d (pos 0)) (refused s))
sent_told true some d s = tells refl
sent_told false true d s = tells refl
sent_told false false d s = tells refl

pub send_told : (p message : ℕ) (s : Xinu) → Tells (send_causes p s) (send p message s)
send_told p message s = sent_told (is_free (state_at s.tables p)) (is_some (message_at s.tables p)) _ s

-- calls 22 and 23
pub received_told : (message : Option ℕ) (otherwise : CallResult) (s : Xinu) → Tells [] otherwise
    → Tells (cause reason.MessageIsMinusOne (is_minus_one_message message) ∷ []) (received message otherwise s)
received_told None otherwise s k = tells k.told
received_told (Some message) otherwise s k = value_told reason.MessageIsMinusOne (signed message) _

pub receive_told : (s : Xinu) → Tells (message_told s ∷ []) (receive s)
receive_told s = received_told (held s) _ s (tells refl)

pub recvclr_told : (s : Xinu) → Tells (message_told s ∷ []) (recvclr s)
recvclr_told s = received_told (held s) _ s (tells refl)

-- call 24
timed_told : (ticks : ℤ) (s : Xinu) → Tells (cause reason.NegativeTime (is_negative ticks) ∷ message_told s ∷ []) (recvtime ticks s)
timed_told (negsuc n) s = tells refl
timed_told (pos n) s = tells (received_told (held s) (blocked Timed rest.Timed (InSleepers (s.tables.ticks + max 1 n)) s) s (tells refl)).told

pub recvtime_told : (ticks : ℕ) (s : Xinu) → Tells (recvtime_causes ticks s) (recvtime (signed ticks) s)
recvtime_told ticks s = timed_told (signed ticks) s

-- calls 25 and 26
slept : (n : ℕ) (s : Xinu) → Tells [] (sleepms (pos n) s)
slept zero s = tells refl
slept (suc n) s = tells refl

seconds_told : (seconds : ℤ) (s : Xinu)
    → Tells (cause reason.NegativeTime (is_negative seconds) ∷ cause reason.TimeTooLong (int_lt (pos 2147483) seconds) ∷ []) (sleep seconds s)
seconds_told (negsuc n) s = tells refl
seconds_told (pos n) s = tells (refused_if reason.TimeTooLong (nat_lt 2147483 n) [] s _ (λ _. slept (1000 * n) s)).told

pub sleep_told : (seconds : ℕ) (s : Xinu) → Tells (sleep_causes seconds) (sleep (signed seconds) s)
sleep_told seconds s = seconds_told (signed seconds) s

ticks_told : (ticks : ℤ) (s : Xinu) → Tells (cause reason.NegativeTime (is_negative ticks) ∷ []) (sleepms ticks s)
ticks_told (negsuc n) s = tells refl
ticks_told (pos n) s = tells (slept n s).told

pub sleepms_told : (ticks : ℕ) (s : Xinu) → Tells (sleepms_causes ticks) (sleepms (signed ticks) s)
sleepms_told ticks s = ticks_told (signed ticks) s

-- call 28
pool_told : (found : Option Grant) (sem : Option ℕ) (size n : ℕ) (s : Xinu)
    → Tells (cause reason.NoBlock (not (is_some found)) ∷ cause reason.NoFreeSemaphore (not (is_some sem)) ∷ cause reason.MeetsPool (grant_meets found (n * (size + 4)) s.parts.pools) ∷ [])
    (made_pool found sem size n s)
pool_told (Some grant) (Some sem) size n s =
    tells (status_unless reason.MeetsPool (meets_pool grant.address (n * (size + 4)) s.parts.pools) (length s.parts.pools) (with_pool grant sem size n s).call s).told
pool_told (Some grant) None size n s = tells refl
pool_told None sem size n s = tells refl

-- a pool's five bounds
five_bounds : (a b c d e : Bool) (causes : List Cause) (s : Xinu) (x : CallResult) → (c ≡ true → Tells causes x)
    → Tells (cause reason.BufferTooSmall (not a) ∷ cause reason.BufferTooLarge (not b) ∷ cause reason.NoBuffers (not c) ∷ cause reason.TooManyBuffers (not d) ∷ cause reason.NoFreePool (not e) ∷ causes)
    (cond (((a && b) && (c && d)) && e) x (refused s))
five_bounds false b c d e causes s x k = tells refl
five_bounds true false c d e causes s x k = tells refl
five_bounds true true false d e causes s x k = tells refl
five_bounds true true true false e causes s x k = tells refl
five_bounds true true true true false causes s x k = tells refl
five_bounds true true true true true causes s x k = tells (k refl).told

pub mkbufpool_told : (size n : ℕ) (s : Xinu) → IsSoundTables s.tables → Tells (mkbufpool_causes size n s) (mkbufpool size n s)
mkbufpool_told size n s sound =
    let found = heap.take_memory (bytes_for size n) s.parts.heap in
    let x = made_pool found (free_semaphore s.tables) (whole_words size) n s in
    five_bounds (nat_le 8 size) (nat_le size 8192) (nat_le 1 n) (nat_le n 2048) (nat_lt (length s.parts.pools) most_pools) _ s x
    (λ b. tells_nots reason.NoBlock reason.NoFreeSemaphore _ (is_some found) _ (is_some (free_semaphore s.tables)) _ x
    (ap not (sym (memory_found (bytes_for size n) s.parts.heap
    ∙ ap (λ t. not t && has_free (cells_for (bytes_for size n)) s.parts.heap.cells) (some_pool size n b))))
    (semaphore_counts s.tables sound.inside.semaphores) (pool_told found (free_semaphore s.tables) (whole_words size) n s))

-- call 29: the pool has a free buffer for each token
first_told : (free : List ℕ) (i : ℕ) (x : Xinu) → 0 < length free → Tells [] (take_first free i x)
first_told [] i x h = absurd (omega arith)
first_told (a ∷ free) i x h = tells refl

-- one who waits for a token, or goes on with it
token_told : (tokens sem : ℕ) (left : Rest) (then_ : Xinu → CallResult) (s : Xinu)
    → ((n : ℕ) → tokens ≡ suc n → Tells [] (then_ (record s { tables = with_tokens sem n s.tables })))
    → Tells [] (take_token tokens sem left then_ s)
token_told zero sem left then_ s go = tells refl
token_told (suc n) sem left then_ s go = go n refl

pub getbuf_told : (i : ℕ) (s : Xinu) → ArePools s.tables s.parts.pools → Tells (getbuf_causes i s) (getbuf i s)
getbuf_told i s pools =
    let pool = pool_at s.parts.pools i in
    refused_unless reason.NoPool (nat_lt i (length s.parts.pools)) [] s _
    (λ b. token_told (semaphore_at s.tables pool.semaphore).tokens pool.semaphore (rest.GetBuf i) (take_buffer i) s
    (λ n e. first_told pool.free i (record s { tables = with_tokens pool.semaphore n s.tables })
    (let k = (pools.each i (ltb-true i (length s.parts.pools) b)).enough in omega arith)))

-- call 30
pub holder_some : (a i : ℕ) (pools : List BufferPool) → is_some (holder_from a i pools) ≡ list_any (is_held a) pools
holder_some a i [] = refl
holder_some a i (pool ∷ pools) = by_first (is_held a pool) (holder_some a (i + 1) pools)
  where
    by_first : (b : Bool) → is_some (holder_from a (i + 1) pools) ≡ list_any (is_held a) pools
        → is_some (cond b (Some i) (holder_from a (i + 1) pools)) ≡ (b || list_any (is_held a) pools)
    by_first true e = refl
    by_first false e = e

held_some : (found : Option ℕ) (a : ℕ) (s : Xinu) → answers_minus_one (freed_by found a s).answer ≡ not (is_some found)
held_some None a s = refl
held_some (Some i) a s = refl

pub freebuf_told : (a : ℕ) (s : Xinu) → Tells (freebuf_causes a s) (freebuf a s)
freebuf_told a s =
    let pools = s.parts.pools in
    tells (held_some (holder a pools) a s ∙ ap not (holder_some a 0 pools) ∙ either (is_anywhere_held a pools) (is_anywhere_free a pools))
  where
    either : (held free : Bool) → not held ≡ is_some (first_reason (cause reason.BufferIsFree (not held && free) ∷ cause reason.NotHeld (not held) ∷ []))
    either true free = refl
    either false true = refl
    either false false = refl

-- call 31
two_ports : (q first : Option ℕ) (n : ℕ) (s : Xinu) (two : Bool)
    → ((k : ℕ) (p : ℕ) → first ≡ Some k → two ≡ not (is_some (free_semaphore (make_semaphore k (owner.Port p) n s.tables))))
    → (first ≡ None → two ≡ true)
    → Tells (cause reason.NoFreePort (not (is_some q)) ∷ cause reason.NoTwoSemaphores two ∷ []) (started_port q first n s)
two_ports None first n s two f g = tells refl
two_ports (Some p) None n s two f g =
    tells (ap (λ b. is_some (first_reason (cause reason.NoTwoSemaphores b ∷ []))) (sym (g refl)))
two_ports (Some p) (Some k) n s two f g =
    let found = free_semaphore (make_semaphore k (owner.Port p) n s.tables) in
    tells (tells_not reason.NoTwoSemaphores two (is_some found) [] (made_port found p n k s) (f k p refl) (made found)).told
  where
    made : (found : Option ℕ) → Tells (cause reason.NoTwoSemaphores (not (is_some found)) ∷ []) (made_port found p n k s)
    made None = tells refl
    made (Some second) = tells refl

made_port_told : (room : ℤ) (s : Xinu) → IsSoundTables s.tables → ArePorts s.tables s.parts.ports
    → Tells (cause reason.NegativeCount (is_negative room) ∷ cause reason.NoFreePort (nat_lt (free_ports s.parts.ports) 1) ∷ cause reason.NoTwoSemaphores (nat_lt (free_semaphores s.tables) 2) ∷ [])
    (ptcreate room s)
made_port_told (negsuc n) s sound ports = tells refl
made_port_told (pos n) s sound ports =
    let two = cause reason.NoTwoSemaphores (nat_lt (free_semaphores s.tables) 2) in
    tells (tells_not reason.NoFreePort (nat_lt (free_ports s.parts.ports) 1) (is_some (free_port s)) (two ∷ []) (ptcreate (pos n) s) (port_counts s ports.many)
    (two_ports (free_port s) (free_semaphore s.tables) n s (nat_lt (free_semaphores s.tables) 2)
    (λ k p e. second_counts s.tables k (owner.Port p) n sound.inside.semaphores e)
    (λ e. none_counts (free_semaphores s.tables) (semaphore_counts s.tables sound.inside.semaphores ∙ ap (λ o. not (is_some o)) e)))).told
  where
    none_counts : (n : ℕ) → nat_lt n 1 ≡ true → nat_lt n 2 ≡ true
    none_counts n e = let lt = ltb-true n 1 e in lt-ltb n 2 (omega arith)

pub ptcreate_told : (room : ℕ) (s : Xinu) → IsSoundTables s.tables → ArePorts s.tables s.parts.ports
    → Tells (ptcreate_causes room s) (ptcreate (signed room) s)
ptcreate_told room s sound ports = made_port_told (signed room) s sound ports

-- calls 32 and 33
pub ptdelete_told : (q how : ℕ) (s : Xinu) → Tells (disposal_causes q how s) (ptdelete q how s)
ptdelete_told q how s = deleted_told (port_at s.parts.ports q).queue
  where
    deleted_told : (found : Option PortQueue)
        → Tells (cause reason.NoPort (not (is_some found)) ∷ cause reason.NoSuchDisposal (not (nat_le how 1)) ∷ []) (deleted_where found q how s)
    deleted_told None = tells refl
    deleted_told (Some queue) = tells (status_if reason.NoSuchDisposal (nat_le how 1) 0 (deleted q queue (cleared how queue (start s))) s).told

pub ptreset_told : (q how : ℕ) (s : Xinu) → Tells (disposal_causes q how s) (ptreset q how s)
ptreset_told q how s = reset_told (port_at s.parts.ports q).queue
  where
    reset_told : (found : Option PortQueue)
        → Tells (cause reason.NoPort (not (is_some found)) ∷ cause reason.NoSuchDisposal (not (nat_le how 1)) ∷ []) (reset_where found q how s)
    reset_told None = tells refl
    reset_told (Some queue) = tells (status_if reason.NoSuchDisposal (nat_le how 1) 0 (emptied_port q queue (cleared how queue (start s))) s).told

-- a message is put if the port is in use: the caller answers 0, unless the kernel panics
put_told : (queue : PortQueue) (found : Option PortQueue) (q message : ℕ) (x : Xinu) → found ≡ Some queue → Tells [] (put_message found q message x)
put_told queue None q message x e = absurd (cc)
put_told queue (Some other) q message x e =
    neither (nat_le most_nodes (nodes x.parts.ports)) (record { call = start x; answer = Panics }) _ (tells refl) (tells refl)

-- call 34
sent_port_told : (found : Option PortQueue) (q message : ℕ) (s : Xinu) → (port_at s.parts.ports q).queue ≡ found
    → Tells (cause reason.NoPort (not (is_some found)) ∷ []) (sent_to found q message s)
sent_port_told None q message s e = tells refl
sent_port_told (Some queue) q message s e =
    let ticket = ticket_of q queue.send s in
    tells (token_told (semaphore_at s.tables queue.send).tokens queue.send (rest.PtSend ticket message) (finish_send ticket message) s
    (λ n f. let x = record s { tables = with_tokens queue.send n s.tables } in
    subst (λ b. Tells [] (cond b (refused x) (put_message (port_at s.parts.ports q).queue q message x)))
    (sym (fresh_ticket q queue.send s queue e))
    (put_told queue (port_at s.parts.ports q).queue q message x e))).told

pub ptsend_told : (q message : ℕ) (s : Xinu) → Tells (no_port q s ∷ []) (ptsend q message s)
ptsend_told q message s = sent_port_told (port_at s.parts.ports q).queue q message s refl

-- call 35
first_message_told : (messages : List ℕ) (queue : PortQueue) (q : ℕ) (x : Xinu) → 0 < length messages
    → Tells (cause reason.MessageIsMinusOne (is_minus_one_message (first_of messages)) ∷ []) (take_message messages queue q x)
first_message_told [] queue q x some = absurd (omega arith)
first_message_told (message ∷ messages) queue q x some = value_told reason.MessageIsMinusOne (signed message) _

taken_told : (queue : PortQueue) (found : Option PortQueue) (q : ℕ) (x : Xinu) → found ≡ Some queue → 0 < length queue.messages
    → Tells (cause reason.MessageIsMinusOne (is_minus_one_message (first_of queue.messages)) ∷ []) (take_from found q x)
taken_told queue None q x e some = absurd (cc)
taken_told queue (Some other) q x e some =
    let same : other ≡ queue = cc in
    subst (λ (o : PortQueue). Tells (cause reason.MessageIsMinusOne (is_minus_one_message (first_of queue.messages)) ∷ []) (take_message o.messages o q x))
    (sym same) (first_message_told queue.messages queue q x some)

by_token_told : (tokens sem : ℕ) (left : Rest) (then_ : Xinu → CallResult) (s : Xinu) (b : Bool)
    → ((n : ℕ) → tokens ≡ suc n → Tells (cause reason.MessageIsMinusOne b ∷ []) (then_ (record s { tables = with_tokens sem n s.tables })))
    → Tells (cause reason.MessageIsMinusOne (nat_lt 0 tokens && b) ∷ []) (take_token tokens sem left then_ s)
by_token_told zero sem left then_ s b go = tells refl
by_token_told (suc n) sem left then_ s b go =
    subst (λ t. Tells (cause reason.MessageIsMinusOne (t && b) ∷ []) (then_ (record s { tables = with_tokens sem n s.tables })))
    (sym (lt-ltb 0 (suc n) (omega arith))) (go n refl)

received_port_told : (found : Option PortQueue) (q : ℕ) (s : Xinu) → ArePorts s.tables s.parts.ports → (port_at s.parts.ports q).queue ≡ found
    → Tells (cause reason.NoPort (not (is_some found)) ∷ cause reason.MessageIsMinusOne (can_take found s.tables && is_minus_one_message (first_of (queued found))) ∷ [])
    (received_from found q s)
received_port_told None q s ports e = tells refl
received_port_told (Some queue) q s ports e =
    let ticket = ticket_of q queue.receive s in
    tells (by_token_told (semaphore_at s.tables queue.receive).tokens queue.receive (rest.PtRecv ticket) (finish_receive ticket) s
    (is_minus_one_message (first_of queue.messages))
    (λ n f.
    let x = record s { tables = with_tokens queue.receive n s.tables } in
    let k = (ports.each q queue e).messages in
    subst (λ b. Tells (cause reason.MessageIsMinusOne (is_minus_one_message (first_of queue.messages)) ∷ [])
    (cond b (refused x) (take_from (port_at s.parts.ports q).queue q x))) (sym (fresh_ticket q queue.receive s queue e))
    (taken_told queue (port_at s.parts.ports q).queue q x e (omega arith)))).told

pub ptrecv_told : (q : ℕ) (s : Xinu) → ArePorts s.tables s.parts.ports → Tells (ptrecv_causes q s) (ptrecv q s)
ptrecv_told q s ports = received_port_told (port_at s.parts.ports q).queue q s ports refl
