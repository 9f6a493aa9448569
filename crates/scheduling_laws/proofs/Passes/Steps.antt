-- What calls have in common keeps a predicate that is closed under their moves.
use Rattle.std.proofs.Common.{◌≡◌, inl, inr, ℕ, zero, suc, ◌+◌, ◌-◌, ◌==◌, Bool, true, false, cond, List, [], ◌∷◌, length, take, Option, Some, None, refl, subst, arith, ℤ}
use Rattle.std.specs.Prelude.{slice_set}
use Rattle.std.proofs.lemmas.Bool.{cond_both}
use Rattle.std.proofs.lemmas.List.{take_all}
use Rattle.xinu_base.specs.Constants.{OK}
use Rattle.xinu_base.specs.declared.processes.Rest.{Rest}
use Rattle.xinu_base.specs.declared.processes.State.{State}
use Rattle.xinu_base.specs.declared.processes.State.TheVariants.{Ready, Waiting}
use Rattle.xinu_base.specs.declared.semaphores.Owner.{Owner}
use Rattle.xinu_model.specs.Machine.{Xinu, CallState, CallResult, with_tables, returns, refused, blocked, unblock_all_with}
use Rattle.xinu_model.specs.Messages.{listens, can_get, delivered, sent}
use Rattle.xinu_model.specs.Pools.Buffers.{pool_at, holder}
use Rattle.xinu_model.specs.Pools.Calls.{put_back, given_to, freed_buffer}
use Rattle.xinu_model.specs.Ports.Calls.{freed_buffers, disposed, cleared}
use Rattle.xinu_model.specs.Ports.Queues.{PortQueue}
use Rattle.xinu_model.specs.Process.Scheduling.{in_state}
use Rattle.xinu_model.specs.Semaphores.Counts.{with_semaphore, with_tokens, make_semaphore}
use Rattle.xinu_model.specs.Semaphores.Waiting.{signal_first, signalled, signalled_times, emptied_with, take_token, await}
use Rattle.xinu_model.specs.Tables.{Semaphore, Tables, process_at, state_at, semaphore_at, Place, InReady, InSemaphore, move_to}
use Rattle.scheduling_laws.proofs.Kernels.{HavePools, HasQueue, pools_given}
use Rattle.scheduling_laws.proofs.Moves.{Goes, Inside, Settled, IsClosed, MayStop}

module _ {May Touch : ℕ → Type 0} {Begins : Tables → Type 0} {Holds : Tables → Bool → Type 0} (k : IsClosed May Touch Begins Holds) where
  -- a refused call
  pub refused_settles : (s : Xinu) → Goes Holds s → Settled Holds (refused s)
  refused_settles s h = h

  -- a call that answers
  pub returns_settles : (d : CallState) (value : ℤ) → Inside Holds d → Settled Holds (returns d value)
  returns_settles d value h = h

  -- either of two ways to go on
  pub either_settles : (b : Bool) (x y : CallResult) → (b ≡ true → Settled Holds x) → (b ≡ false → Settled Holds y)
      → Settled Holds (cond b x y)
  either_settles b x y f g = cond_both b x y (Settled Holds) f g

  -- the caller stops
  pub blocked_settles : (state : State) (left : Rest) (place : Place) (s : Xinu) → MayStop Touch place → Goes Holds s
      → Settled Holds (blocked state left place s)
  blocked_settles state left place s may h = k.stops s.tables state left place may h

  -- one who waits for a token, or goes on with it
  pub await_with : (sem : ℕ) (left : Rest) (then_ : Xinu → CallResult) (s : Xinu) → Touch sem → Goes Holds s
      → ((t : Tables) → Holds t false → Settled Holds (then_ (record s { tables = t }))) → Settled Holds (await sem left then_ s)
  await_with sem left then_ s may h go = by_tokens (semaphore_at s.tables sem).tokens
    where
      by_tokens : (tokens : ℕ) → Settled Holds (take_token tokens sem left then_ s)
      by_tokens zero = blocked_settles Waiting left (InSemaphore sem) s may h
      by_tokens (suc n) = go _ (k.counts s.tables false sem (record (semaphore_at s.tables sem) { tokens = n }) (inl may) (inr refl) h)

  pub await_settles : (sem : ℕ) (left : Rest) (then_ : Xinu → CallResult) (s : Xinu) → Touch sem → Goes Holds s
      → ((u : Xinu) → Goes Holds u → Settled Holds (then_ u)) → Settled Holds (await sem left then_ s)
  await_settles sem left then_ s may h go = await_with sem left then_ s may h (λ t g. go (record s { tables = t }) g)

  -- a semaphore gets other tokens
  pub inside_tokens : (sem n : ℕ) (d : CallState) → Touch sem → Inside Holds d → Inside Holds (with_tables (with_tokens sem n d.state.tables) d)
  inside_tokens sem n d may h =
      k.counts d.state.tables d.owes_resched sem (record (semaphore_at d.state.tables sem) { tokens = n }) (inl may) (inr refl) h

  -- a signal
  inside_signal_first : (sem : ℕ) (l : List ℕ) (d : CallState) → (semaphore_at d.state.tables sem).waiters ≡ l → Touch sem → Inside Holds d
      → Inside Holds (signal_first sem l d)
  inside_signal_first sem [] d e may h = inside_tokens sem ((semaphore_at d.state.tables sem).tokens + 1) d may h
  inside_signal_first sem (p ∷ ps) d e may h = subst (λ l. Inside Holds (unblock_all_with OK (take 1 l) d)) e (k.releases OK sem 1 d may h)

  pub inside_signalled : (sem : ℕ) (d : CallState) → Touch sem → Inside Holds d → Inside Holds (signalled sem d)
  inside_signalled sem d may h = inside_signal_first sem (semaphore_at d.state.tables sem).waiters d refl may h

  -- n signals
  pub inside_signalled_times : (sem n : ℕ) (d : CallState) → Touch sem → Inside Holds d → Inside Holds (signalled_times sem n d)
  inside_signalled_times sem n d may h =
      let x = semaphore_at d.state.tables sem in
      inside_tokens sem (x.tokens + (n - length x.waiters)) (unblock_all_with OK (take n x.waiters) d) may (k.releases OK sem n d may h)

  -- all who wait are released
  pub inside_emptied : (value : ℤ) (sem : ℕ) (d : CallState) → Touch sem → Inside Holds d → Inside Holds (emptied_with value sem d)
  inside_emptied value sem d may h =
      let l = (semaphore_at d.state.tables sem).waiters in
      subst (λ ps. Inside Holds (unblock_all_with value ps d)) (take_all (length l) l (omega arith)) (k.releases value sem (length l) d may h)

  -- a message is delivered
  pub inside_delivered : (p message : ℕ) (d : CallState) → Inside Holds d → Inside Holds (delivered p message d)
  inside_delivered p message d h =
      let t = d.state.tables in
      cond_both (listens (state_at t p))
      (record (with_tables (move_to p (in_state Ready (process_at t p)) (Some message) InReady t) d) { owes_resched = true })
      (with_tables (record t { messages = slice_set t.messages p (Some message) }) d) (Inside Holds)
      (λ e. k.hears t d.owes_resched p message e h) (λ _. k.messages t d.owes_resched p message h)

  pub inside_sent : (p message : ℕ) (d : CallState) → Inside Holds d → Inside Holds (sent p message d)
  inside_sent p message d h =
      cond_both (can_get p d.state.tables) (delivered p message d) d (Inside Holds) (λ _. inside_delivered p message d h) (λ _. h)

  -- a buffer is freed
  pub inside_put_back : (a i : ℕ) (d : CallState) → HavePools Touch d.state.parts.pools → Inside Holds d → Inside Holds (put_back a i d)
  inside_put_back a i d may h = inside_signalled (pool_at d.state.parts.pools i).semaphore _ (may.pools i) h

  inside_given : (found : Option ℕ) (a : ℕ) (d : CallState) → HavePools Touch d.state.parts.pools → Inside Holds d → Inside Holds (given_to found a d)
  inside_given None a d may h = h
  inside_given (Some i) a d may h = inside_put_back a i d may h

  inside_freed : (messages : List ℕ) (d : CallState) → HavePools Touch d.state.parts.pools → Inside Holds d → Inside Holds (freed_buffers messages d)
  inside_freed [] d may h = h
  inside_freed (a ∷ messages) d may h =
      inside_freed messages (freed_buffer a d) (pools_given (holder a d.state.parts.pools) a d may) (inside_given (holder a d.state.parts.pools) a d may h)

  inside_disposed : (how : ℕ) (messages : List ℕ) (d : CallState) → HavePools Touch d.state.parts.pools → Inside Holds d → Inside Holds (disposed how messages d)
  inside_disposed how messages d may h =
      cond_both (how == 1) (freed_buffers messages d) d (Inside Holds) (λ _. inside_freed messages d may h) (λ _. h)

  -- a port is cleared
  pub inside_cleared : (how : ℕ) (queue : PortQueue) (d : CallState) → HavePools Touch d.state.parts.pools → HasQueue Touch queue → Inside Holds d → Inside Holds (cleared how queue d)
  inside_cleared how queue d pools may h =
      let a = disposed how queue.messages d in
      inside_emptied OK queue.receive (emptied_with OK queue.send a) may.receive
      (inside_emptied OK queue.send a may.send (inside_disposed how queue.messages d pools h))

  -- a semaphore is made
  pub holds_made : (sem n : ℕ) (by : Owner) (t : Tables) → (semaphore_at t sem).owner ≡ None → Holds t false → Holds (make_semaphore sem by n t) false
  holds_made sem n by t free h =
      let x : Semaphore = record { owner = Some by; tokens = n; waiters = [] } in
      k.numbers (with_semaphore sem x t) false sem (k.counts t false sem x (inr free) (inl refl) h)
