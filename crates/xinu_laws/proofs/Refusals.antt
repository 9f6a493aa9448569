-- Most calls answer -1 only if they are refused.
use Rattle.std.proofs.Common.{◌≡◌, ℕ, zero, suc, ◌*◌, ◌<◌, ◌==◌, Bool, true, false, not, cond, ◌&&◌, ◌||◌, List, [], ◌∷◌, length, take, drop, refl, sym, ap, subst, ◌∙◌, arith, Option, Some, None, ℤ, pos, negsuc}
use Rattle.std.specs.Prelude.{int_lt, ◌+ℤ◌, nat_lt, nat_le, is_some}
use Rattle.std.proofs.lemmas.Bool.{cond_both, eq-eqb, ltb-true}
use Rattle.xinu_base.specs.declared.processes.Rest.{Rest}
use Rattle.xinu_base.specs.declared.processes.Rest.TheVariants.{Nothing, GetBuf, PtSend}
use Rattle.xinu_base.specs.declared.semaphores.Owner.TheVariants as owner
use Rattle.xinu_model.specs.Clock.{sleepms, sleep}
use Rattle.xinu_model.specs.Heap.Cells as heap
use Rattle.xinu_model.specs.Heap.Cells.{Heap, Grant, Stack, take_stack}
use Rattle.xinu_model.specs.Machine.{Xinu, Returns, Panics, CallState, CallResult, start, returns, refused}
use Rattle.xinu_model.specs.Memory.{in_ram}
use Rattle.xinu_model.specs.Heap.Calls.{granted, stacked, given_back}
use Rattle.xinu_model.specs.Pools.Calls.{made_pool, is_pool_size, mkbufpool, take_first, take_buffer, getbuf, freed_by}
use Rattle.xinu_model.specs.Pools.Buffers.{most_pools, pool_at, pool_bytes, whole_words, meets_pool}
use Rattle.xinu_model.specs.Ports.Calls.{free_port, made_port, started_port, ptcreate, deleted_where, reset_where, put_message, finish_send, ticket_of, sent_to}
use Rattle.xinu_model.specs.Ports.Queues.{PortQueue, most_nodes, port_at, nodes, is_stale}
use Rattle.xinu_model.specs.Process.Creation.{stack_size, process_name, free_process}
use Rattle.xinu_model.specs.Process.Calls.{created, create, kill}
use Rattle.xinu_model.specs.Process.Death.{killed}
use Rattle.xinu_model.specs.Semaphores.Counts.{most_tokens, with_tokens, count_of, is_good, free_semaphore, make_semaphore}
use Rattle.xinu_model.specs.Semaphores.Waiting.{take_token}
use Rattle.xinu_model.specs.Semaphores.Calls.{answers, made_semaphore, semcreate, semreset, wait, signal, signaln}
use Rattle.xinu_model.specs.Sound.Pools.{ArePools}
use Rattle.xinu_model.specs.Tables.{state_at, semaphore_at, is_free}

-- if a call answers -1 it was refused
abbrev pub TellsRefusal : Xinu → CallResult → Type 0
TellsRefusal s result = result.answer ≡ Returns (negsuc 0) → result ≡ refused s

-- a call with an answer that isn't negative
pub answer_tells : (s : Xinu) (d : CallState) (n : ℕ) → TellsRefusal s (returns d (pos n))
answer_tells s d n e = cc

-- a refused call
pub refusal_tells : (s : Xinu) → TellsRefusal s (refused s)
refusal_tells s e = refl

-- either of two ways to go on
either_tells : (b : Bool) (s : Xinu) (x y : CallResult) → (b ≡ true → TellsRefusal s x) → (b ≡ false → TellsRefusal s y)
    → TellsRefusal s (cond b x y)
either_tells b s x y f g = cond_both b x y (TellsRefusal s) f g

-- a test before a call that is refused else
pub guarded_tells : (b : Bool) (s : Xinu) (x : CallResult) → (b ≡ true → TellsRefusal s x) → TellsRefusal s (cond b x (refused s))
guarded_tells b s x f = cond_both b x (refused s) (TellsRefusal s) f (λ _. refusal_tells s)

-- one who waits for a token, or goes on with it
take_token_tells : (tokens sem : ℕ) (left : Rest) (then_ : Xinu → CallResult) (s : Xinu)
    → ((n : ℕ) → tokens ≡ suc n → TellsRefusal s (then_ (record s { tables = with_tokens sem n s.tables })))
    → TellsRefusal s (take_token tokens sem left then_ s)
take_token_tells zero sem left then_ s go = λ e. cc
take_token_tells (suc n) sem left then_ s go = go n refl

-- a process that is created, if a number and a stack are found
created_tells : (number : Option ℕ) (stack : Option Stack) (entry size : ℕ) (priority : ℤ) (name : List ℕ) (x y : ℕ) (s : Xinu)
    → TellsRefusal s (created number stack entry size priority name x y s)
created_tells (Some p) (Some stack) entry size priority name x y s e = cc
created_tells (Some p) None entry size priority name x y s e = refl
created_tells None stack entry size priority name x y s e = refl

-- call 2
pub create_tells : (entry size : ℕ) (priority : ℤ) (name x y : ℕ) (s : Xinu) → TellsRefusal s (create entry size priority name x y s)
create_tells entry size priority name x y s =
    either_tells (int_lt priority (pos 1) || not (in_ram name 16)) s _ _ (λ _. refusal_tells s)
    (λ _. created_tells (free_process s.tables) (take_stack (stack_size size) s.parts.heap) entry (stack_size size) priority
    (process_name (take 16 (drop name s.memory))) x y s)

-- call 5
pub kill_tells : (p : ℕ) (s : Xinu) → TellsRefusal s (kill p s)
kill_tells p s =
    either_tells ((p == 0) || is_free (state_at s.tables p)) s _ _ (λ _. refusal_tells s)
    (λ _. either_tells (p == s.tables.current) s _ _ (λ _ e. cc) (λ _. answer_tells s (killed p (start s)) 0))

-- memory that is granted
pub granted_tells : (found : Option Grant) (s : Xinu) → TellsRefusal s (granted found s)
granted_tells None s e = refl
granted_tells (Some grant) s e = cc

-- a stack that is granted
pub stacked_tells : (found : Option Stack) (s : Xinu) → TellsRefusal s (stacked found s)
stacked_tells None s e = refl
stacked_tells (Some stack) s e = cc

-- memory that is given back
pub given_back_tells : (found : Option Heap) (s : Xinu) → TellsRefusal s (given_back found s)
given_back_tells None s e = refl
given_back_tells (Some free) s e = cc

-- call 14
pub semcreate_tells : (count : ℤ) (s : Xinu) → TellsRefusal s (semcreate count s)
semcreate_tells (negsuc n) s = refusal_tells s
semcreate_tells (pos n) s = made (free_semaphore s.tables)
  where
    made : (found : Option ℕ) → TellsRefusal s (made_semaphore n found s)
    made None e = refl
    made (Some k) e = cc

-- call 16
pub semreset_tells : (k : ℕ) (count : ℤ) (s : Xinu) → TellsRefusal s (semreset k count s)
semreset_tells k (negsuc n) s = refusal_tells s
semreset_tells k (pos n) s = guarded_tells (is_good k s.tables) s _ (λ _ e. cc)

-- call 18
pub wait_tells : (k : ℕ) (s : Xinu) → TellsRefusal s (wait k s)
wait_tells k s =
    guarded_tells (is_good k s.tables) s _
    (λ _. take_token_tells (semaphore_at s.tables k).tokens k Nothing (answers (pos 0)) s (λ n e f. cc))

-- call 19
pub signal_tells : (k : ℕ) (s : Xinu) → TellsRefusal s (signal k s)
signal_tells k s = guarded_tells (is_good k s.tables && int_lt (count_of (semaphore_at s.tables k)) most_tokens) s _ (λ _ e. cc)

-- call 20
pub signaln_tells : (k : ℕ) (n : ℤ) (s : Xinu) → TellsRefusal s (signaln k n s)
signaln_tells k (negsuc n) s = refusal_tells s
signaln_tells k (pos n) s =
    guarded_tells (is_good k s.tables && not (int_lt most_tokens (count_of (semaphore_at s.tables k) +ℤ pos n))) s _ (λ _ e. cc)

-- call 26
pub sleepms_tells : (ticks : ℤ) (s : Xinu) → TellsRefusal s (sleepms ticks s)
sleepms_tells (negsuc n) s e = refl
sleepms_tells (pos zero) s e = cc
sleepms_tells (pos (suc n)) s e = cc

-- call 25
pub sleep_tells : (seconds : ℤ) (s : Xinu) → TellsRefusal s (sleep seconds s)
sleep_tells (negsuc n) s = refusal_tells s
sleep_tells (pos n) s = either_tells (nat_lt 2147483 n) s _ _ (λ _. refusal_tells s) (λ _. sleepms_tells (pos (1000 * n)) s)

-- a pool, if memory and a semaphore are found
made_pool_tells : (found : Option Grant) (sem : Option ℕ) (size n : ℕ) (s : Xinu) → TellsRefusal s (made_pool found sem size n s)
made_pool_tells (Some grant) (Some sem) size n s =
    either_tells (meets_pool grant.address (pool_bytes size n) s.parts.pools) s _ _ (λ _. refusal_tells s) (λ _ e. cc)
made_pool_tells (Some grant) None size n s = refusal_tells s
made_pool_tells None sem size n s = refusal_tells s

-- call 28
pub mkbufpool_tells : (size n : ℕ) (s : Xinu) → TellsRefusal s (mkbufpool size n s)
mkbufpool_tells size n s =
    guarded_tells (is_pool_size size n && nat_lt (length s.parts.pools) most_pools) s _
    (λ _. made_pool_tells (heap.take_memory (pool_bytes (whole_words size) n) s.parts.heap) (free_semaphore s.tables)
    (whole_words size) n s)

-- a buffer is taken if there is one
take_first_tells : (free : List ℕ) (i : ℕ) (s x : Xinu) → 0 < length free → TellsRefusal s (take_first free i x)
take_first_tells [] i s x h = absurd (omega arith)
take_first_tells (a ∷ free) i s x h = λ e. cc

-- call 29: the pool has a free buffer for each token
pub getbuf_tells : (i : ℕ) (s : Xinu) → ArePools s.tables s.parts.pools → TellsRefusal s (getbuf i s)
getbuf_tells i s pools =
    let pool = pool_at s.parts.pools i in
    guarded_tells (nat_lt i (length s.parts.pools)) s _
    (λ b. take_token_tells (semaphore_at s.tables pool.semaphore).tokens pool.semaphore (GetBuf i) (take_buffer i) s
    (λ n e. take_first_tells pool.free i s (record s { tables = with_tokens pool.semaphore n s.tables })
    (let k = (pools.each i (ltb-true i (length s.parts.pools) b)).enough in omega arith)))

-- call 30
pub freed_by_tells : (found : Option ℕ) (a : ℕ) (s : Xinu) → TellsRefusal s (freed_by found a s)
freed_by_tells None a s e = refl
freed_by_tells (Some i) a s e = cc

-- a port, if its second semaphore is found
made_port_tells : (found : Option ℕ) (q n send : ℕ) (s : Xinu) → TellsRefusal s (made_port found q n send s)
made_port_tells None q n send s e = refl
made_port_tells (Some receive) q n send s e = cc

-- and if its first semaphore is found
started_port_tells : (q send : Option ℕ) (n : ℕ) (s : Xinu) → TellsRefusal s (started_port q send n s)
started_port_tells (Some q) (Some send) n s = made_port_tells (free_semaphore (make_semaphore send (owner.Port q) n s.tables)) q n send s
started_port_tells (Some q) None n s = refusal_tells s
started_port_tells None send n s = refusal_tells s

-- call 31
pub ptcreate_tells : (n : ℤ) (s : Xinu) → TellsRefusal s (ptcreate n s)
ptcreate_tells (negsuc n) s = refusal_tells s
ptcreate_tells (pos n) s = started_port_tells (free_port s) (free_semaphore s.tables) n s

-- call 32
pub deleted_tells : (found : Option PortQueue) (q how : ℕ) (s : Xinu) → TellsRefusal s (deleted_where found q how s)
deleted_tells None q how s = refusal_tells s
deleted_tells (Some queue) q how s = guarded_tells (nat_le how 1) s _ (λ _ e. cc)

-- call 33
pub reset_tells : (found : Option PortQueue) (q how : ℕ) (s : Xinu) → TellsRefusal s (reset_where found q how s)
reset_tells None q how s = refusal_tells s
reset_tells (Some queue) q how s = guarded_tells (nat_le how 1) s _ (λ _ e. cc)

-- a message is put if the port is in use
put_message_tells : (queue : PortQueue) (found : Option PortQueue) (q message : ℕ) (s x : Xinu) → found ≡ Some queue
    → TellsRefusal s (put_message found q message x)
put_message_tells queue None q message s x e = cc
put_message_tells queue (Some other) q message s x e =
    cond_both (nat_le most_nodes (nodes x.parts.ports)) (record { call = start x; answer = Panics }) _ (TellsRefusal s) (λ _ f. cc) (λ _ f. cc)

-- a call that just began isn't after its port
pub fresh_ticket : (q sem : ℕ) (s : Xinu) (queue : PortQueue) → (port_at s.parts.ports q).queue ≡ Some queue
    → is_stale (ticket_of q sem s) s.parts.ports ≡ false
fresh_ticket q sem s queue e =
    ap (λ o. not (is_some o) || not ((port_at s.parts.ports q).seq == (port_at s.parts.ports q).seq)) e
    ∙ ap (λ b. not b) (eq-eqb (port_at s.parts.ports q).seq (port_at s.parts.ports q).seq refl)

-- call 34
pub sent_to_tells : (found : Option PortQueue) (q message : ℕ) (s : Xinu) → (port_at s.parts.ports q).queue ≡ found
    → TellsRefusal s (sent_to found q message s)
sent_to_tells None q message s e = refusal_tells s
sent_to_tells (Some queue) q message s e =
    let ticket = ticket_of q queue.send s in
    take_token_tells (semaphore_at s.tables queue.send).tokens queue.send (PtSend ticket message) (finish_send ticket message) s
    (λ n f. let x = record s { tables = with_tokens queue.send n s.tables } in
    subst (λ b. TellsRefusal s (cond b (refused x) (put_message (port_at s.parts.ports q).queue q message x)))
    (sym (fresh_ticket q queue.send s queue e))
    (put_message_tells queue (port_at s.parts.ports q).queue q message s x e))
