-- What the moves inside an event touch: the tables alone, and no semaphore and no call that is left alone.
use Rattle.std.proofs.Common.{◌≡◌, ℕ, zero, suc, ◌+◌, ◌-◌, ◌<◌, ◌==◌, Bool, true, false, ◌&&◌, List, [], ◌∷◌, length, take, drop, set, Option, Some, refl, sym, ap, subst, ◌∙◌, arith, get_or-set_other}
use Rattle.std.proofs.lemmas.Bool.{both_ways, cond_both, and_left, and_right}
use Rattle.std.proofs.lemmas.List.{take-append-drop}
use Rattle.xinu_base.specs.declared.processes.Process.{Process}
use Rattle.xinu_base.specs.declared.processes.Rest.{Rest}
use Rattle.xinu_base.specs.declared.processes.Rest.TheVariants.{Nothing}
use Rattle.xinu_base.specs.declared.processes.State.{State}
use Rattle.xinu_base.specs.declared.processes.State.TheVariants.{Free, Current, Ready, Receiving, Sleeping, Suspended, Waiting, Timed}
use Rattle.xinu_base.specs.declared.semaphores.Owner.{Owner}
use Rattle.table_laws.specs.Frame.{waits_in, waits_at, Frame, StillWait}
use Rattle.xinu_model.specs.Machine.{Xinu, CallState, CallResult, with_tables, unblock, unblock_all, blocked, goes_on}
use Rattle.xinu_model.specs.Messages.{listens, can_get, delivered, sent}
use Rattle.xinu_model.specs.Process.Scheduling.{in_state}
use Rattle.xinu_model.specs.Semaphores.Counts.{with_semaphore, with_tokens, make_semaphore}
use Rattle.xinu_model.specs.Semaphores.Waiting.{signal_first, signalled, signalled_times, emptied, take_token}
use Rattle.xinu_model.specs.Sound.Tables.{count_in, FitsOwner, IsInside}
use Rattle.xinu_model.specs.Sound.Pools.{is_waiting}
use Rattle.xinu_model.specs.Tables.{Semaphore, Tables, process_at, state_at, message_at, semaphore_at, is_free, Place, Nowhere, InReady, InSemaphore, move_to, no_process}
use Rattle.xinu_laws.specs.Touches.{Reach, stack_of, Touches}
use Rattle.table_laws.proofs.Lists.Maps.{map_set_same}
use Rattle.table_laws.proofs.Lists.Counts.{times-append, first_is_counted, count_behind}
use Rattle.table_laws.proofs.Frame.{frame_same}
use Rattle.table_laws.proofs.Frame.MoveTo.{IsFramePlace, IsFrameChange, frame_move}
use Rattle.table_laws.proofs.Frame.Semaphores.{others_framed, frame_semaphore, frame_make_semaphore}
use Rattle.table_laws.proofs.Tables.Alive.{was_free}
use Rattle.table_laws.proofs.Tables.MoveTo.{by_number}
use Rattle.xinu_laws.proofs.Touches.{touches_tables, touches_refl, touches_trans}

-- Process p can become ready: if it is in a call that is left alone, it doesn't wait.
pub record MayReady (asks : Rest → Bool) (t : Tables) (p : ℕ) : Type 0 where
  pub idle : asks (process_at t p).rest ≡ true → is_waiting (state_at t p) ≡ false

-- who doesn't wait can become ready
pub may_ready_idle : (asks : Rest → Bool) (t : Tables) (p : ℕ) → is_waiting (state_at t p) ≡ false → MayReady asks t p
may_ready_idle asks t p e = record { idle = λ _. e }

may_ready_waits : (asks : Rest → Bool) (t : Tables) (p : ℕ) → MayReady asks t p → waits_in asks (process_at t p) ≡ false
may_ready_waits asks t p w = by_call (asks (process_at t p).rest) refl
  where
    by_call : (b : Bool) → asks (process_at t p).rest ≡ b → waits_in asks (process_at t p) ≡ false
    by_call true e = and_left (is_waiting (state_at t p)) (asks (process_at t p).rest) (w.idle e)
    by_call false e = and_right (is_waiting (state_at t p)) (asks (process_at t p).rest) e

-- who can become ready still can after a move
pub may_ready_framed : {f : Reach} (s u : Xinu) (p : ℕ) → Touches f s u → MayReady f.asks s.tables p → MayReady f.asks u.tables p
may_ready_framed {f} s u p c w = record { idle = λ h. (let e = c.frame.rests p h in e.1 ∙ w.idle (ap f.asks (sym e.0) ∙ h)) }

-- who waits for a message waits on no semaphore
listens_idle : (s : State) → listens s ≡ true → is_waiting s ≡ false
listens_idle Waiting h = cc
listens_idle Free h = refl
listens_idle Current h = refl
listens_idle Ready h = refl
listens_idle Receiving h = refl
listens_idle Sleeping h = refl
listens_idle Suspended h = refl
listens_idle Timed h = refl

-- whoever isn't in such a call doesn't wait in one
unasked : (a b : Bool) → b ≡ false → a && b ≡ false
unasked true b e = e
unasked false b e = refl

-- who is among the first of a list is in it
pub counted_take : (p n : ℕ) (l : List ℕ) → 0 < count_in p (take n l) → 0 < count_in p l
counted_take p n l h = let e = times-append (λ x. x == p) (take n l) (drop n l) in let f = ap (count_in p) (take-append-drop n l) in omega arith

-- A semaphore that a call may touch, and on which nobody waits in a call that it leaves alone.
pub record MayTouch (f : Reach) (t : Tables) (sem : ℕ) : Type 0 where
  pub owner : f.mine sem (semaphore_at t sem).owner ≡ false
  pub rests : (left : Rest) → FitsOwner sem (semaphore_at t sem).owner left → f.asks left ≡ false

-- whoever waits on it can become ready
may_ready_waiter : {f : Reach} (t : Tables) (sem : ℕ) → IsInside t → MayTouch f t sem → (p : ℕ)
    → 0 < count_in p (semaphore_at t sem).waiters → MayReady f.asks t p
may_ready_waiter {f} t sem o may p h = let e = may.rests (process_at t p).rest (o.rests sem p h) in record { idle = λ g. absurd (both_ways (f.asks (process_at t p).rest) e g) }

-- who waits still does after another process moved, which didn't wait
pub still_move : (asks : Rest → Bool) (t : Tables) (q : ℕ) (x : Process) (m : Option ℕ) (place : Place)
    → waits_in asks (process_at t q) ≡ false → StillWait asks t (move_to q x m place t)
still_move asks t q x m place idle = record {
  stay = λ p. by_number p q (λ r. waits_at asks t r ≡ true → waits_at asks (move_to q x m place t) r ≡ true)
      (λ h. absurd (both_ways (waits_in asks (process_at t q)) idle h))
      (λ n h. subst (λ (y : Process). waits_in asks y ≡ true) (sym (get_or-set_other t.processes q p x no_process n)) h);
}

-- the current process waits in no call
pub runs_idle : (asks : Rest → Bool) (t : Tables) → state_at t t.current ≡ Current → waits_in asks (process_at t t.current) ≡ false
runs_idle asks t e = ap (λ y. is_waiting y && asks (process_at t t.current).rest) e

module _ {mine : ℕ → Option Owner → Bool} {asks : Rest → Bool} where
  -- What a caller leaves alone that waits in a call that isn't left alone, or goes on.
  pub frame_blocked : (state : State) (rest : Rest) (place : Place) (s : Xinu) → IsFramePlace mine s.tables place → asks rest ≡ false
      → Frame mine asks s.tables (blocked state rest place s).call.state.tables
  frame_blocked state rest place s p e =
      let t = s.tables in
      frame_move t t.current (record (process_at t t.current) { state = state; rest = rest }) (message_at t t.current) place p
      (λ h. absurd (both_ways (asks rest) e h)) (unasked (is_waiting state) (asks rest) e)

  pub frame_goes_on : asks Nothing ≡ false → (message : Option ℕ) (s : Xinu) → Frame mine asks s.tables (goes_on message s).tables
  frame_goes_on e message s =
      let t = s.tables in
      frame_move t t.current (record (process_at t t.current) { rest = Nothing }) message Nowhere tt
      (λ h. absurd (both_ways (asks Nothing) e h)) (unasked (is_waiting (state_at t t.current)) (asks Nothing) e)

module _ {f : Reach} where
  -- A process moves with its stack.
  pub touches_move : (s : Xinu) (q : ℕ) (x : Process) (m : Option ℕ) (place : Place) → IsFramePlace f.mine s.tables place
      → IsFrameChange f.asks (process_at s.tables q) x
      → waits_in f.asks x ≡ false → stack_of x ≡ stack_of (process_at s.tables q)
      → (is_free x.state ≡ true → is_free (state_at s.tables q) ≡ true) → waits_in f.asks (process_at s.tables q) ≡ false
      → Touches f s (record s { tables = move_to q x m place s.tables })
  touches_move s q x m place p c idle stack old was_idle =
      let t = s.tables in
      touches_tables s (move_to q x m place t) (frame_move t q x m place p c idle) (map_set_same stack_of t.processes q x no_process stack)
      (was_free t.processes q x old) (λ _. refl)
      (still_move f.asks t q x m place was_idle)

  -- A process goes to another state, in which it doesn't wait.
  pub touches_moved : (s : Xinu) (q : ℕ) (state : State) (m : Option ℕ) (place : Place) → IsFramePlace f.mine s.tables place
      → is_waiting state ≡ false → is_free state ≡ false → MayReady f.asks s.tables q
      → Touches f s (record s { tables = move_to q (in_state state (process_at s.tables q)) m place s.tables })
  touches_moved s q state m place p e alive w =
      let x = process_at s.tables q in touches_move s q (in_state state x) m place p (λ h. (refl, e ∙ sym (w.idle h)))
      (ap (λ b. b && f.asks x.rest) e) refl (λ h. absurd (both_ways (is_free state) alive h)) (may_ready_waits f.asks s.tables q w)

  -- A process goes anywhere, in a call that isn't left alone.
  pub touches_unasked : (s : Xinu) (q : ℕ) (x : Process) (m : Option ℕ) (place : Place) → IsFramePlace f.mine s.tables place
      → f.asks x.rest ≡ false
      → stack_of x ≡ stack_of (process_at s.tables q) → (is_free x.state ≡ true → is_free (state_at s.tables q) ≡ true)
      → waits_in f.asks (process_at s.tables q) ≡ false → Touches f s (record s { tables = move_to q x m place s.tables })
  touches_unasked s q x m place p e =
      touches_move s q x m place p (λ h. absurd (both_ways (f.asks x.rest) e h)) (unasked (is_waiting x.state) (f.asks x.rest) e)

  -- A process is unblocked.
  pub touches_unblock : (p : ℕ) (d : CallState) → MayReady f.asks d.state.tables p → Touches f d.state (unblock p d).state
  touches_unblock p d w = touches_moved d.state p Ready (message_at d.state.tables p) InReady tt refl refl w

  -- Processes are unblocked, one after another.
  pub touches_unblock_all : (ps : List ℕ) (d : CallState) → ((p : ℕ) → 0 < count_in p ps → MayReady f.asks d.state.tables p)
      → Touches f d.state (unblock_all ps d).state
  touches_unblock_all [] d w = touches_refl d.state
  touches_unblock_all (p ∷ ps) d w =
      let first = touches_unblock p d (w p (first_is_counted p ps)) in
      touches_trans first (touches_unblock_all ps (unblock p d)
      (λ q h. may_ready_framed d.state (unblock p d).state q first (w q (count_behind q p ps h))))

  -- The caller waits, in a call that isn't left alone.
  pub touches_blocked : (state : State) (rest : Rest) (place : Place) (s : Xinu) → state_at s.tables s.tables.current ≡ Current
      → IsFramePlace f.mine s.tables place → f.asks rest ≡ false → is_free state ≡ false
      → Touches f s (blocked state rest place s).call.state
  touches_blocked state rest place s runs p e alive =
      let t = s.tables in
      touches_unasked s t.current (record (process_at t t.current) { state = state; rest = rest }) (message_at t t.current) place p e refl
      (λ h. absurd (both_ways (is_free state) alive h))
      (runs_idle f.asks t runs)

  -- The caller goes on.
  pub touches_goes_on : f.asks Nothing ≡ false → (message : Option ℕ) (s : Xinu) → state_at s.tables s.tables.current ≡ Current
      → Touches f s (goes_on message s)
  touches_goes_on e message s runs =
      let t = s.tables in touches_unasked s t.current (record (process_at t t.current) { rest = Nothing }) message Nowhere tt e refl
      (λ h. h) (runs_idle f.asks t runs)

  -- A message is delivered.
  pub touches_delivered : (p message : ℕ) (d : CallState) → Touches f d.state (delivered p message d).state
  touches_delivered p message d =
      let t = d.state.tables in
      let u = record t { messages = set t.messages p (Some message) } in
      cond_both (listens (state_at t p))
      (record (with_tables (move_to p (in_state Ready (process_at t p)) (Some message) InReady t) d) { owes_resched = true })
      (with_tables u d)
      (λ e. Touches f d.state e.state)
      (λ b. touches_moved d.state p Ready (Some message) InReady tt refl refl (may_ready_idle f.asks t p (listens_idle (state_at t p) b)))
      (λ _. touches_tables d.state u (frame_same t u refl refl) refl (λ q h. h) (λ _. refl) (record { stay = λ q h. h }))

  -- A message is sent, or refused.
  pub touches_sent : (p message : ℕ) (d : CallState) → Touches f d.state (sent p message d).state
  touches_sent p message d =
      cond_both (can_get p d.state.tables) (delivered p message d) d (λ e. Touches f d.state e.state) (λ _. touches_delivered p message d)
      (λ _. touches_refl d.state)

  -- A semaphore changes.
  pub touches_semaphore : (s : Xinu) (r : ℕ) (x : Semaphore) → f.mine r (semaphore_at s.tables r).owner ≡ false → f.mine r x.owner ≡ false
      → Touches f s (record s { tables = with_semaphore r x s.tables })
  touches_semaphore s r x old new =
      touches_tables s (with_semaphore r x s.tables) (frame_semaphore s.tables r x old new) refl (λ p h. h) (λ _. refl)
      (record { stay = λ p h. h })

  -- Its tokens change.
  pub touches_tokens : (s : Xinu) (r n : ℕ) → f.mine r (semaphore_at s.tables r).owner ≡ false
      → Touches f s (record s { tables = with_tokens r n s.tables })
  touches_tokens s r n e = touches_semaphore s r (record (semaphore_at s.tables r) { tokens = n }) e e

  -- It is made.
  pub touches_make_semaphore : (s : Xinu) (r : ℕ) (by : Owner) (n : ℕ) → f.mine r (semaphore_at s.tables r).owner ≡ false
      → f.mine r (Some by) ≡ false
      → Touches f s (record s { tables = make_semaphore r by n s.tables })
  touches_make_semaphore s r by n old new =
      touches_tables s (make_semaphore r by n s.tables) (frame_make_semaphore s.tables r by n old new) refl (λ p h. h) (λ _. refl)
      (record { stay = λ p h. h })

  -- One signal, by who waits.
  touches_signal_first : (sem : ℕ) (l : List ℕ) (d : CallState) → f.mine sem (semaphore_at d.state.tables sem).owner ≡ false
      → ((p : ℕ) → 0 < count_in p l → MayReady f.asks d.state.tables p)
      → Touches f d.state (signal_first sem l d).state
  touches_signal_first sem [] d e w = touches_tokens d.state sem ((semaphore_at d.state.tables sem).tokens + 1) e
  touches_signal_first sem (p ∷ ps) d e w = touches_unblock p d (w p (first_is_counted p ps))

  pub touches_signalled : (sem : ℕ) (d : CallState) → IsInside d.state.tables → MayTouch f d.state.tables sem
      → Touches f d.state (signalled sem d).state
  touches_signalled sem d o may =
      touches_signal_first sem (semaphore_at d.state.tables sem).waiters d may.owner (may_ready_waiter d.state.tables sem o may)

  -- All who wait are unblocked.
  pub touches_emptied : (sem : ℕ) (d : CallState) → IsInside d.state.tables → MayTouch f d.state.tables sem
      → Touches f d.state (emptied sem d).state
  touches_emptied sem d o may = touches_unblock_all (semaphore_at d.state.tables sem).waiters d (may_ready_waiter d.state.tables sem o may)

  -- a semaphore that may be touched still may after a step
  pub still_touched : {s u : Xinu} (r : ℕ) → Touches f s u → MayTouch f s.tables r → f.mine r (semaphore_at u.tables r).owner ≡ false
  still_touched {s} {u} r c may = others_framed s.tables u.tables r c.frame may.owner

  -- n signals.
  pub touches_signalled_times : (sem n : ℕ) (d : CallState) → IsInside d.state.tables → MayTouch f d.state.tables sem
      → Touches f d.state (signalled_times sem n d).state
  touches_signalled_times sem n d o may =
      let x = semaphore_at d.state.tables sem in
      let after = unblock_all (take n x.waiters) d in
      let first : Touches f d.state after.state = touches_unblock_all (take n x.waiters) d
      (λ p h. may_ready_waiter d.state.tables sem o may p (counted_take p n x.waiters h)) in
      touches_trans first (touches_tokens after.state sem (x.tokens + (n - length x.waiters)) (still_touched sem first may))

  -- A token is taken, or awaited.
  pub touches_take_token : (tokens sem : ℕ) (rest : Rest) (then_ : Xinu → CallResult) (s : Xinu)
      → state_at s.tables s.tables.current ≡ Current → f.mine sem (semaphore_at s.tables sem).owner ≡ false → f.asks rest ≡ false
      → ((n : ℕ) → tokens ≡ suc n → Touches f s (then_ (record s { tables = with_tokens sem n s.tables })).call.state)
      → Touches f s (take_token tokens sem rest then_ s).call.state
  touches_take_token zero sem rest then_ s runs e left go = touches_blocked Waiting rest (InSemaphore sem) s runs e left refl
  touches_take_token (suc n) sem rest then_ s runs e left go = go n refl

-- a signal changes the tables alone
parts_signal_first : (sem : ℕ) (l : List ℕ) (d : CallState) → (signal_first sem l d).state.parts ≡ d.state.parts
parts_signal_first sem [] d = refl
parts_signal_first sem (p ∷ ps) d = refl

pub parts_signalled : (sem : ℕ) (d : CallState) → (signalled sem d).state.parts ≡ d.state.parts
parts_signalled sem d = parts_signal_first sem (semaphore_at d.state.tables sem).waiters d

-- and so do those who become ready, one after another
parts_unblock_all : (ps : List ℕ) (d : CallState) → (unblock_all ps d).state.parts ≡ d.state.parts
parts_unblock_all [] d = refl
parts_unblock_all (p ∷ ps) d = parts_unblock_all ps (unblock p d)

pub parts_emptied : (sem : ℕ) (d : CallState) → (emptied sem d).state.parts ≡ d.state.parts
parts_emptied sem d = parts_unblock_all (semaphore_at d.state.tables sem).waiters d
