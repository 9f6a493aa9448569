-- The calls on processes keep what holds of the tables.
use Rattle.std.proofs.Common.{◌≡◌, ◌≢◌, ℕ, ◌<◌, ◌==◌, not, ◌||◌, List, refl, sym, subst, ◌∙◌, ⊎_elim, inr, Option, Some, None, ℤ, pos}
use Rattle.std.specs.Prelude.{int_lt, drop, slice_set, take}
use Rattle.std.proofs.lemmas.Bool.{cond_both, or_parts, eqb-false}
use Rattle.xinu_base.specs.declared.processes.Process.{Process}
use Rattle.xinu_base.specs.declared.processes.Rest.TheVariants.{Nothing, SelfSuspend}
use Rattle.xinu_base.specs.declared.processes.State.TheVariants.{Free, Current, Ready, Suspended}
use Rattle.table_laws.proofs.Tables.Found.{free_process_free, free_process_within}
use Rattle.table_laws.proofs.Tables.States.{suspended_of}
use Rattle.table_laws.specs.Moves.{CanMove, IsPlaceOf}
use Rattle.xinu_model.specs.Heap.Cells.{Stack, take_stack}
use Rattle.xinu_model.specs.Machine.{Xinu, start, goes_on}
use Rattle.xinu_model.specs.Memory.{in_ram}
use Rattle.xinu_model.specs.Messages.{held}
use Rattle.xinu_model.specs.Process.Scheduling.{in_state}
use Rattle.xinu_model.specs.Process.Creation.{stack_size, new_hart, process_name, new_process, free_process}
use Rattle.xinu_model.specs.Process.Calls.{is_suspended, is_ready, getpid, created, create, resume, suspend, kill, with_priority, chprio, getprio, go_on_suspend}
use Rattle.xinu_model.specs.Process.Death.{exit}
use Rattle.xinu_model.specs.Sound.Tables.{CanRun, HoldsFor, FitsMessage, IsInside, IsSoundTables}
use Rattle.xinu_model.specs.Tables.{Tables, process_at, state_at, message_at, is_free, move_to, Nowhere, InReady}
use Rattle.table_laws.proofs.Tables.Changes.{sound_process}
use Rattle.table_laws.proofs.Tables.Deaths.{not_free, inside_killed, sound_killed, harts_killed, nobody_answered}
use Rattle.table_laws.specs.Preserve.{IsPreserved, MayCall}
use Rattle.table_laws.proofs.Preserve.{Preserves, current_within, refused_preserves, answers_preserves, either_preserves, blocked_preserves, goes_on_may_call}
use Rattle.table_laws.proofs.Tables.Scheduling.{holds_at, null_rest_at, inside_last_process, sound_move, sound_ready, idle_differs}
use Rattle.table_laws.proofs.Tables.MoveTo.{within_table}
use Rattle.table_laws.proofs.Tables.Harts.{harts_set}
use Rattle.xinu_model.proofs.States.{is_ready_of, is_not_ready}

-- a free number isn't that of the null process
free_is_not_null : (t : Tables) (p : ℕ) → IsInside t → state_at t p ≡ Free → p ≢ 0
free_is_not_null t p o free e =
    let can = subst (λ k. CanRun (state_at t k)) (sym e) o.null in
    ⊎_elim (λ (f : state_at t p ≡ Current). let g = sym free ∙ f in absurd cc)
    (λ (f : state_at t p ≡ Ready). let g = sym free ∙ f in absurd cc) can

-- A process is made at a free number.
pub sound_made_process : (t : Tables) (p : ℕ) (x : Process) → IsSoundTables t → p < 64 → state_at t p ≡ Free → x.state ≡ Suspended
    → x.rest ≡ Nothing → IsSoundTables (record (move_to p x None Nowhere t) { last_process = p })
sound_made_process t p x k within free state rest =
    let c : CanMove t p x None Nowhere = record {
      within = within;
      place_of = subst (λ y. IsPlaceOf y Nowhere) (sym state) (refl, refl, refl);
      if_current = λ e. cc;
      if_null = λ e. absurd (free_is_not_null t p k.inside free e);
      fits = tt;
      slot = subst (λ y. FitsMessage y x.rest None) (sym state) (subst (λ r. HoldsFor r None) (sym rest) tt);
      if_free = λ e. let f = sym state ∙ e in absurd (cc);
    } in
    let made = sound_move t p x None Nowhere k (λ e. let f = subst (λ r. state_at t r ≡ Current) (sym e) k.runs in cc) c in
    record { inside = inside_last_process (move_to p x None Nowhere t) p made.inside; runs = made.runs }

-- Call 1.
pub getpid_preserves : Preserves getpid
getpid_preserves s c = answers_preserves (pos s.tables.current) s c

-- a process that is created if a number and a stack are found
created_preserves : (number : Option ℕ) (stack : Option Stack) (entry size : ℕ) (priority : ℤ) (name : List ℕ) (x y : ℕ) (s : Xinu)
    → free_process s.tables ≡ number → MayCall s → IsPreserved (created number stack entry size priority name x y s)
created_preserves (Some p) (Some stack) entry size priority name x y s e c = record {
  tables = sound_made_process s.tables p (new_process name priority s.tables.current stack.top size) c.tables (free_process_within s.tables p e) (free_process_free s.tables p e) refl refl;
  harts = harts_set s.harts p (new_hart entry stack.top x y) refl c.harts;
  released = tt;
}
created_preserves (Some p) None entry size priority name x y s e c = refused_preserves s c
created_preserves None stack entry size priority name x y s e c = refused_preserves s c

-- Call 2.
pub create_preserves : (entry size : ℕ) (priority : ℤ) (name x y : ℕ) → Preserves (create entry size priority name x y)
create_preserves entry size priority name x y s c =
    either_preserves (int_lt priority (pos 1) || not (in_ram name 16)) _ _ (λ _. refused_preserves s c)
    (λ _. created_preserves (free_process s.tables) (take_stack (stack_size size) s.parts.heap) entry (stack_size size) priority
    (process_name (take 16 (drop name s.memory))) x y s refl c)

-- Call 3.
pub resume_preserves : (p : ℕ) → Preserves (resume p)
resume_preserves p s c = either_preserves (is_suspended (state_at s.tables p)) _ _
    (λ b. let e = suspended_of (state_at s.tables p) b in
    record {
      tables = sound_ready s.tables p c.tables (record { alive = λ f. cc; idle = λ f. cc; holds = holds_at s.tables p c.tables.inside (λ f. cc) });
      harts = c.harts;
      released = tt;
    })
    (λ _. refused_preserves s c)

-- A ready process is suspended.
sound_suspended : (t : Tables) (p : ℕ) → IsSoundTables t → p ≢ 0 → state_at t p ≡ Ready
    → IsSoundTables (move_to p (in_state Suspended (process_at t p)) (message_at t p) Nowhere t)
sound_suspended t p k n e =
    sound_move t p (in_state Suspended (process_at t p)) (message_at t p) Nowhere k (idle_differs t p t.current (λ f. cc) k.runs)
    (record {
      within = within_table t p k.inside.processes (λ f. cc);
      place_of = (refl, refl, refl);
      if_current = λ f. cc;
      if_null = λ f. absurd (n f);
      fits = tt;
      slot = holds_at t p k.inside (λ f. cc);
      if_free = λ f. absurd (cc);
    })

-- Call 4.
pub suspend_preserves : (p : ℕ) → Preserves (suspend p)
suspend_preserves p s c = either_preserves (p == 0) _ _ (λ _. refused_preserves s c)
    (λ n. either_preserves (is_ready (state_at s.tables p)) _ _
    (λ b. record { tables = sound_suspended s.tables p c.tables (eqb-false p 0 n) (is_ready_of (state_at s.tables p) b); harts = c.harts; released = tt })
    (λ _. either_preserves (p == s.tables.current) _ _
    (λ _. blocked_preserves Suspended SelfSuspend Nowhere s c (λ e. cc) (refl, refl, refl) tt tt)
    (λ _. refused_preserves s c)))

-- Call 9: the caller dies.
pub exit_preserves : Preserves exit
exit_preserves s c = record {
  tables = inside_killed s.tables.current (start s) c.tables.inside (current_within s.tables c.tables) c.not_null;
  harts = harts_killed s.tables.current (start s) c.harts;
  released = nobody_answered s.tables.current s;
}

-- Call 5.
pub kill_preserves : (p : ℕ) → Preserves (kill p)
kill_preserves p s c = either_preserves ((p == 0) || is_free (state_at s.tables p)) _ _ (λ _. refused_preserves s c)
    (λ b. let parts = or_parts (p == 0) (is_free (state_at s.tables p)) b in
    either_preserves (p == s.tables.current) _ _ (λ _. exit_preserves s c)
    (λ other. record {
      tables = sound_killed p (start s) c.tables (within_table s.tables p c.tables.inside.processes (not_free (state_at s.tables p) parts.1)) (eqb-false p 0 parts.0) (eqb-false p s.tables.current other);
      harts = harts_killed p (start s) c.harts;
      released = nobody_answered p s;
    }))

-- A ready process enters the ready list again by another priority.
sound_entered : (t : Tables) (p : ℕ) (priority : ℤ) → IsSoundTables t → state_at t p ≡ Ready
    → IsSoundTables (move_to p (record (process_at t p) { priority = priority }) (message_at t p) InReady t)
sound_entered t p priority k e =
    sound_move t p (record (process_at t p) { priority = priority }) (message_at t p) InReady k
    (idle_differs t p t.current (λ f. cc) k.runs)
    (record {
      within = within_table t p k.inside.processes (λ f. cc);
      place_of = subst (λ y. IsPlaceOf y InReady) (sym e) (refl, refl, refl);
      if_current = λ f. cc;
      if_null = λ f. (inr e, null_rest_at t p k.inside f);
      fits = tt;
      slot = k.inside.slots p;
      if_free = λ f. absurd (cc);
    })

-- A process gets another priority.
sound_with_priority : (t : Tables) (p : ℕ) (priority : ℤ) → IsSoundTables t → state_at t p ≢ Free
    → IsSoundTables (with_priority p priority t)
sound_with_priority t p priority k alive =
    let x = record (process_at t p) { priority = priority } in
    cond_both (is_ready (state_at t p)) (move_to p x (message_at t p) InReady t)
    (record t { processes = slice_set t.processes p x }) IsSoundTables
    (λ b. sound_entered t p priority k (is_ready_of (state_at t p) b))
    (λ b. sound_process t p x k (within_table t p k.inside.processes alive) alive (is_not_ready (state_at t p) b) refl refl)

-- Call 7.
pub chprio_preserves : (p : ℕ) (priority : ℤ) → Preserves (chprio p priority)
chprio_preserves p priority s c = either_preserves (is_free (state_at s.tables p)) _ _ (λ _. refused_preserves s c)
    (λ b. record { tables = sound_with_priority s.tables p priority c.tables (not_free (state_at s.tables p) b); harts = c.harts; released = tt })

-- Call 8.
pub getprio_preserves : (p : ℕ) → Preserves (getprio p)
getprio_preserves p s c =
    either_preserves (is_free (state_at s.tables p)) _ _ (λ _. refused_preserves s c)
    (λ _. answers_preserves (process_at s.tables p).priority s c)

-- What is left of a call by which a process suspended itself.
pub go_on_suspend_preserves : Preserves go_on_suspend
go_on_suspend_preserves s c =
    answers_preserves (process_at s.tables s.tables.current).priority (goes_on (held s) s) (goes_on_may_call (held s) s c)
