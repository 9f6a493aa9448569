-- The moves of the kernel's tables keep what holds of them at each moment of an event.
use Rattle.std.proofs.Common.{◌≡◌, ◌≢◌, ◌<◌, ◌∙◌, ℕ, ℤ, set, refl, sym, ap, subst, Option, None, Some, inl, inr}
use Rattle.std.proofs.lemmas.Bool.{cond_both}
use Rattle.xinu_base.specs.declared.processes.Process.{Process}
use Rattle.xinu_base.specs.declared.processes.Rest.{Rest}
use Rattle.xinu_base.specs.declared.processes.Rest.TheVariants.{Disk, Nothing, SelfSuspend}
use Rattle.xinu_base.specs.declared.processes.State.{State}
use Rattle.xinu_base.specs.declared.processes.State.TheVariants.{Free, Current, Ready, Suspended, Waiting}
use Rattle.xinu_model.specs.Process.Calls.{is_ready, with_priority}
use Rattle.xinu_model.specs.Process.Scheduling.{in_state, ready}
use Rattle.xinu_model.specs.Sound.Tables.{CanRun, FitsMessage, HoldsFor, IsInside, IsSoundTables}
use Rattle.xinu_model.specs.Tables.{InReady, message_at, move_to, Nowhere, Place, process_at, state_at, Tables}
use Rattle.table_laws.specs.Moves.{FitsPlace, IsPlaceOf}
use Rattle.table_laws.proofs.Preserve.{current_within}
use Rattle.table_laws.proofs.Tables.Changes.{inside_process}
use Rattle.table_laws.proofs.Tables.MoveTo.{inside_move, within_table}
use Rattle.table_laws.proofs.Tables.Scheduling.{holds_at, inside_last_process, inside_ready, null_rest_at}
use Rattle.xinu_model.proofs.States.{is_ready_of, is_not_ready}

-- who can run doesn't wait
null_waits : (s : State) → CanRun s → s ≡ Waiting → ⊥
null_waits s r e = elim r [
  | inl h ↦ cc
  | inr h ↦ cc
]

-- a suspended process becomes ready
pub inside_resumed : (t : Tables) (p : ℕ) → IsInside t → state_at t p ≡ Suspended → IsInside (ready p t)
inside_resumed t p o e = inside_ready t p o (record { alive = λ f. cc; idle = λ f. cc; holds = holds_at t p o (λ f. cc) })

-- a ready process is suspended
pub inside_suspended : (t : Tables) (p : ℕ) → IsInside t → p ≢ 0 → state_at t p ≡ Ready
    → IsInside (move_to p (in_state Suspended (process_at t p)) (message_at t p) Nowhere t)
inside_suspended t p o n e =
    inside_move t p (in_state Suspended (process_at t p)) (message_at t p) Nowhere o
    (record {
      within = within_table t p o.processes (λ f. cc);
      place_of = (refl, refl, refl);
      if_current = λ f. cc;
      if_null = λ f. absurd (n f);
      fits = tt;
      slot = holds_at t p o (λ f. cc);
      if_free = λ f. absurd (cc);
    })

-- who waits becomes ready, with the reply of a disk
abbrev pub answered : ℕ → ℤ → Tables → Tables
answered p reply t = move_to p (record (process_at t p) { state = Ready; rest = Disk (Some reply) }) (message_at t p) InReady t

pub inside_replied : (t : Tables) (p : ℕ) (reply : ℤ) → IsInside t → p < 64 → state_at t p ≡ Waiting → IsInside (answered p reply t)
inside_replied t p reply o within e =
    inside_move t p (record (process_at t p) { state = Ready; rest = Disk (Some reply) }) (message_at t p) InReady o
    (record {
      within = within;
      place_of = (refl, refl, refl);
      if_current = λ f. cc;
      if_null = λ f. absurd (null_waits (state_at t 0) o.null (sym (ap (state_at t) f) ∙ e));
      fits = tt;
      slot = tt;
      if_free = λ f. absurd (cc);
    })

-- a ready process enters the ready list again by another priority
inside_entered : (t : Tables) (p : ℕ) (priority : ℤ) → IsInside t → state_at t p ≡ Ready
    → IsInside (move_to p (record (process_at t p) { priority = priority }) (message_at t p) InReady t)
inside_entered t p priority o e =
    inside_move t p (record (process_at t p) { priority = priority }) (message_at t p) InReady o
    (record {
      within = within_table t p o.processes (λ f. cc);
      place_of = subst (λ y. IsPlaceOf y InReady) (sym e) (refl, refl, refl);
      if_current = λ f. cc;
      if_null = λ f. (inr e, null_rest_at t p o f);
      fits = tt;
      slot = o.slots p;
      if_free = λ f. absurd (cc);
    })

-- a process gets another priority
pub inside_with_priority : (t : Tables) (p : ℕ) (priority : ℤ) → IsInside t → state_at t p ≢ Free → IsInside (with_priority p priority t)
inside_with_priority t p priority o alive =
    let x = record (process_at t p) { priority = priority } in
    cond_both (is_ready (state_at t p)) (move_to p x (message_at t p) InReady t) (record t { processes = set t.processes p x }) IsInside
    (λ b. inside_entered t p priority o (is_ready_of (state_at t p) b))
    (λ b. inside_process t p x o (within_table t p o.processes alive) alive (is_not_ready (state_at t p) b) refl refl)

-- a free process can't run
free_not_null : (s : State) → CanRun s → s ≡ Free → ⊥
free_not_null s r e = elim r [
  | inl h ↦ cc
  | inr h ↦ cc
]

-- a process is made at a free number
pub inside_made : (t : Tables) (p : ℕ) (x : Process) → IsInside t → p < 64 → state_at t p ≡ Free → x.state ≡ Suspended → x.rest ≡ Nothing
    → IsInside (record (move_to p x None Nowhere t) { last_process = p })
inside_made t p x o within free state rest =
    inside_last_process (move_to p x None Nowhere t) p
    (inside_move t p x None Nowhere o (record {
      within = within;
      place_of = subst (λ y. IsPlaceOf y Nowhere) (sym state) (refl, refl, refl);
      if_current = λ e. cc;
      if_null = λ e. absurd (free_not_null (state_at t 0) o.null (subst (λ q. state_at t q ≡ Free) e free));
      fits = tt;
      slot = subst (λ y. FitsMessage y x.rest None) (sym state) (subst (λ r. HoldsFor r None) (sym rest) tt);
      if_free = λ e. let f = sym state ∙ e in absurd (cc);
    }))

-- the caller is suspended by itself
pub inside_self_suspended : (t : Tables) → IsInside t → state_at t t.current ≡ Current → t.current ≢ 0
    → IsInside (move_to t.current (record (process_at t t.current) { state = Suspended; rest = SelfSuspend })
    (message_at t t.current) Nowhere t)
inside_self_suspended t o e n =
    inside_move t t.current (record (process_at t t.current) { state = Suspended; rest = SelfSuspend }) (message_at t t.current) Nowhere o
    (record {
      within = within_table t t.current o.processes (λ f. cc);
      place_of = (refl, refl, refl);
      if_current = λ f. cc;
      if_null = λ f. absurd (n f);
      fits = tt;
      slot = tt;
      if_free = λ f. absurd (cc);
    })

-- the caller goes on, with any message
pub inside_goes_on : (t : Tables) (m : Option ℕ) → IsInside t → state_at t t.current ≡ Current
    → IsInside (move_to t.current (record (process_at t t.current) { rest = Nothing }) m Nowhere t)
inside_goes_on t m o e =
    inside_move t t.current (record (process_at t t.current) { rest = Nothing }) m Nowhere o
    (record {
      within = within_table t t.current o.processes (λ f. cc);
      place_of = subst (λ y. IsPlaceOf y Nowhere) (sym e) (refl, refl, refl);
      if_current = λ f. refl;
      if_null = λ f. (inl e, refl);
      fits = tt;
      slot = subst (λ y. FitsMessage y Nothing m) (sym e) tt;
      if_free = λ f. absurd (cc);
    })

-- the caller goes to a place that fits its new state and what is left of its call
pub inside_blocked : (t : Tables) (state : State) (rest : Rest) (place : Place) → IsSoundTables t → t.current ≢ 0 → state ≢ Free
    → IsPlaceOf state place
    → FitsPlace t (record (process_at t t.current) { state = state; rest = rest }) place → FitsMessage state rest (message_at t t.current)
    → IsInside (move_to t.current (record (process_at t t.current) { state = state; rest = rest }) (message_at t t.current) place t)
inside_blocked t state rest place k n alive place_of fits slot =
    inside_move t t.current (record (process_at t t.current) { state = state; rest = rest }) (message_at t t.current) place k.inside
    (record {
      within = current_within t k;
      place_of = place_of;
      if_current = λ _. refl;
      if_null = λ e. absurd (n e);
      fits = fits;
      slot = slot;
      if_free = λ e. absurd (alive e);
    })
