-- Calls 1 to 27, on processes, memory, semaphores, messages and the clock, keep a predicate that is closed under their moves.
use Rattle.std.proofs.Common.{◌≡◌, inl, ℕ, zero, suc, ◌+◌, ◌*◌, ◌==◌, Bool, not, ◌||◌, List, Option, Some, None, refl, ◌∙◌, ℤ, pos, negsuc}
use Rattle.std.specs.Prelude.{nat_lt, int_lt}
use Rattle.std.proofs.lemmas.Bool.{eqb-false}
use Rattle.xinu_base.specs.Constants.{OK, SYSERR}
use Rattle.xinu_base.specs.declared.processes.Rest.TheVariants as rest
use Rattle.xinu_base.specs.declared.processes.State.TheVariants.{Suspended, Sleeping, Timed}
use Rattle.xinu_base.specs.declared.semaphores.Owner.TheVariants as owner
use Rattle.xinu_model.specs.Clock.{sleepms, sleep}
use Rattle.xinu_model.specs.Heap.Calls.{granted, stacked, given_back}
use Rattle.xinu_model.specs.Heap.Cells.{Heap, Grant, Stack, take_stack}
use Rattle.xinu_model.specs.Machine.{Xinu, CallResult, start, refused}
use Rattle.xinu_model.specs.Memory.{in_ram}
use Rattle.xinu_model.specs.Messages.{can_get, sent, held, received, recvtime}
use Rattle.xinu_model.specs.Process.Calls.{created, create, is_ready, is_suspended, suspend, kill, chprio}
use Rattle.xinu_model.specs.Process.Creation.{free_process, stack_size}
use Rattle.xinu_model.specs.Process.Death.{exit}
use Rattle.xinu_model.specs.Semaphores.Calls.{answers, made_semaphore, semcreate, semreset, wait, signaln}
use Rattle.xinu_model.specs.Semaphores.Counts.{is_good, free_semaphore}
use Rattle.xinu_model.specs.Semaphores.Waiting.{emptied_with}
use Rattle.xinu_model.specs.Sound.Tables.{IsSoundTables}
use Rattle.xinu_model.specs.Tables.{no_semaphore, Tables, process_at, state_at, is_free, Nowhere, InSleepers}
use Rattle.table_laws.proofs.Tables.Deaths.{sent_changes}
use Rattle.table_laws.proofs.Tables.Found.{free_process_free, free_semaphore_free}
use Rattle.table_laws.proofs.Tables.States.{suspended_of}
use Rattle.scheduling_laws.proofs.Moves.{Goes, Settled, IsClosed}
use Rattle.std.specs.Prelude.{max}
use Rattle.xinu_model.specs.Process.Calls.{resume}
use Rattle.xinu_model.specs.Semaphores.Calls.{semdelete, signal}
use Rattle.xinu_model.specs.Messages.{send}
use Rattle.scheduling_laws.proofs.Passes.Steps.{refused_settles, either_settles, blocked_settles, await_settles, inside_tokens, inside_signalled, inside_signalled_times, inside_emptied, inside_delivered, inside_sent, holds_made}
use Rattle.xinu_model.proofs.States.{is_ready_of}

module _ {May Touch : ℕ → Type 0} {Begins : Tables → Type 0} {Holds : Tables → Bool → Type 0} (k : IsClosed May Touch Begins Holds) where
  -- what begins a call lets its caller go on
  pub begun : (s : Xinu) → Begins s.tables → Goes Holds s
  begun s b = k.begins s.tables b

  -- call 2
  created_settles : (number : Option ℕ) (found : Option Stack) (entry size : ℕ) (priority : ℤ) (name : List ℕ) (x y : ℕ) (s : Xinu)
      → free_process s.tables ≡ number → IsSoundTables s.tables → Begins s.tables
      → Settled Holds (created number found entry size priority name x y s)
  created_settles (Some p) (Some stack) entry size priority name x y s e sound b =
      k.makes s.tables p _ sound (free_process_free s.tables p e) b
  created_settles (Some p) None entry size priority name x y s e sound b = begun s b
  created_settles None stack entry size priority name x y s e sound b = begun s b

  pub create_settles : (entry size : ℕ) (priority : ℤ) (name x y : ℕ) (s : Xinu) → IsSoundTables s.tables → Begins s.tables
      → Settled Holds (create entry size priority name x y s)
  create_settles entry size priority name x y s sound b =
      either_settles k (int_lt priority (pos 1) || not (in_ram name 16)) (refused s) _ (λ _. refused_settles k s (begun s b))
      (λ _. created_settles (free_process s.tables) (take_stack (stack_size size) s.parts.heap) entry (stack_size size) priority _ x y s refl sound b)

  -- call 3
  pub resume_settles : (p : ℕ) (s : Xinu) → IsSoundTables s.tables → Begins s.tables → Settled Holds (resume p s)
  resume_settles p s sound b =
      either_settles k (is_suspended (state_at s.tables p)) _ (refused s)
      (λ e. k.resumes s.tables p sound (suspended_of (state_at s.tables p) e) b) (λ _. refused_settles k s (begun s b))

  -- call 4
  pub suspend_settles : (p : ℕ) (s : Xinu) → IsSoundTables s.tables → Begins s.tables → Settled Holds (suspend p s)
  suspend_settles p s sound b =
      let t = s.tables in
      let no = refused_settles k s (begun s b) in
      either_settles k (p == 0) (refused s) _ (λ _. no)
      (λ _. either_settles k (is_ready (process_at t p).state) _ _
      (λ e. k.suspends t p sound (is_ready_of (state_at t p) e) b)
      (λ _. either_settles k (p == t.current) _ (refused s)
      (λ _. blocked_settles k Suspended rest.SelfSuspend Nowhere s tt (begun s b)) (λ _. no)))

  -- call 9
  pub exit_settles : (s : Xinu) → Goes Holds s → Settled Holds (exit s)
  exit_settles s h =
      let p = s.tables.current in
      let d = sent (process_at s.tables p).parent p (start s) in
      k.exits d.state.tables d.owes_resched p (inside_sent k (process_at s.tables p).parent p (start s) h)

  -- call 5
  pub kill_settles : (p : ℕ) (s : Xinu) → Goes Holds s → Settled Holds (kill p s)
  kill_settles p s h =
      let parent = (process_at s.tables p).parent in
      let d = sent parent p (start s) in
      either_settles k ((p == 0) || is_free (state_at s.tables p)) (refused s) _ (λ _. refused_settles k s h)
      (λ _. either_settles k (p == s.tables.current) (exit s) _ (λ _. exit_settles s h)
      (λ e. k.dies d.state.tables d.owes_resched p (λ f. eqb-false p s.tables.current e (f ∙ (sent_changes parent p (start s)).current))
      (inside_sent k parent p (start s) h)))

  -- call 7
  pub chprio_settles : (p : ℕ) (priority : ℤ) (s : Xinu) → May p → IsSoundTables s.tables → Begins s.tables
      → Settled Holds (chprio p priority s)
  chprio_settles p priority s may sound b =
      either_settles k (is_free (state_at s.tables p)) (refused s) _ (λ _. refused_settles k s (begun s b))
      (λ _. k.places s.tables p priority may sound b)

  -- memory is granted
  pub granted_settles : (found : Option Grant) (s : Xinu) → Goes Holds s → Settled Holds (granted found s)
  granted_settles None s h = h
  granted_settles (Some grant) s h = h

  pub stacked_settles : (found : Option Stack) (s : Xinu) → Goes Holds s → Settled Holds (stacked found s)
  stacked_settles None s h = h
  stacked_settles (Some stack) s h = h

  pub given_back_settles : (found : Option Heap) (s : Xinu) → Goes Holds s → Settled Holds (given_back found s)
  given_back_settles None s h = h
  given_back_settles (Some free) s h = h

  -- call 14
  pub semcreate_settles : (count : ℤ) (s : Xinu) → Goes Holds s → Settled Holds (semcreate count s)
  semcreate_settles (negsuc n) s h = refused_settles k s h
  semcreate_settles (pos n) s h = made (free_semaphore s.tables) refl
    where
      made : (found : Option ℕ) → free_semaphore s.tables ≡ found → Settled Holds (made_semaphore n found s)
      made None e = h
      made (Some sem) e = holds_made k sem n owner.Image s.tables (free_semaphore_free s.tables sem e) h

  -- call 15
  pub semdelete_settles : (sem : ℕ) (s : Xinu) → Touch sem → Goes Holds s → Settled Holds (semdelete sem s)
  semdelete_settles sem s may h =
      let d = emptied_with SYSERR sem (start s) in
      either_settles k (is_good sem s.tables) _ (refused s)
      (λ _. k.counts d.state.tables d.owes_resched sem no_semaphore (inl may) (inl refl) (inside_emptied k SYSERR sem (start s) may h))
      (λ _. refused_settles k s h)

  -- call 16
  pub semreset_settles : (sem : ℕ) (count : ℤ) (s : Xinu) → Touch sem → Goes Holds s → Settled Holds (semreset sem count s)
  semreset_settles sem (negsuc n) s may h = refused_settles k s h
  semreset_settles sem (pos n) s may h =
      either_settles k (is_good sem s.tables) _ (refused s)
      (λ _. inside_tokens k sem n (emptied_with OK sem (start s)) may (inside_emptied k OK sem (start s) may h)) (λ _. refused_settles k s h)

  -- call 18
  pub wait_settles : (sem : ℕ) (s : Xinu) → Touch sem → Goes Holds s → Settled Holds (wait sem s)
  wait_settles sem s may h =
      either_settles k (is_good sem s.tables) _ (refused s) (λ _. await_settles k sem rest.Nothing (answers OK) s may h (λ u g. g))
      (λ _. refused_settles k s h)

  -- call 19
  pub signal_settles : (sem : ℕ) (s : Xinu) → Touch sem → Goes Holds s → Settled Holds (signal sem s)
  signal_settles sem s may h = either_settles k _ _ (refused s) (λ _. inside_signalled k sem (start s) may h) (λ _. refused_settles k s h)

  -- call 20
  pub signaln_settles : (sem : ℕ) (n : ℤ) (s : Xinu) → Touch sem → Goes Holds s → Settled Holds (signaln sem n s)
  signaln_settles sem (negsuc n) s may h = refused_settles k s h
  signaln_settles sem (pos n) s may h =
      either_settles k _ _ (refused s) (λ _. inside_signalled_times k sem n (start s) may h) (λ _. refused_settles k s h)

  -- call 21
  pub send_settles : (p message : ℕ) (s : Xinu) → Goes Holds s → Settled Holds (send p message s)
  send_settles p message s h =
      either_settles k (can_get p s.tables) _ (refused s) (λ _. inside_delivered k p message (start s) h) (λ _. refused_settles k s h)

  -- a message is taken, or another way gone
  pub received_settles : (message : Option ℕ) (otherwise : CallResult) (s : Xinu) → IsSoundTables s.tables → Begins s.tables
      → Settled Holds otherwise → Settled Holds (received message otherwise s)
  received_settles None otherwise s sound b h = h
  received_settles (Some message) otherwise s sound b h = k.goes_on s.tables None sound b

  -- call 24
  pub recvtime_settles : (ticks : ℤ) (s : Xinu) → IsSoundTables s.tables → Begins s.tables → Settled Holds (recvtime ticks s)
  recvtime_settles (negsuc n) s sound b = refused_settles k s (begun s b)
  recvtime_settles (pos n) s sound b =
      received_settles (held s) _ s sound b (blocked_settles k Timed rest.Timed (InSleepers (s.tables.ticks + max 1 n)) s tt (begun s b))

  -- call 26
  pub sleepms_settles : (ticks : ℤ) (s : Xinu) → Goes Holds s → Settled Holds (sleepms ticks s)
  sleepms_settles (negsuc n) s h = h
  sleepms_settles (pos zero) s h = k.owes s.tables h
  sleepms_settles (pos (suc n)) s h = blocked_settles k Sleeping rest.Nothing (InSleepers (s.tables.ticks + suc n)) s tt h

  -- call 25
  pub sleep_settles : (seconds : ℤ) (s : Xinu) → Goes Holds s → Settled Holds (sleep seconds s)
  sleep_settles (negsuc n) s h = refused_settles k s h
  sleep_settles (pos n) s h =
      either_settles k (nat_lt 2147483 n) (refused s) _ (λ _. refused_settles k s h) (λ _. sleepms_settles (pos (1000 * n)) s h)
