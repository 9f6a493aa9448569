-- Between two events a process of the highest priority runs: each event keeps it so, and the machine starts so.
use Rattle.std.proofs.Common.{◌≡◌, ◌≢◌, ℕ, ◌+◌, ◌-◌, ◌<◌, ◌||◌, Bool, false, List, [], take, length, Option, Some, None, refl, sym, ap, subst, ◌∙◌, arith, ℤ, ◌≤ℤ◌, get_or-set_other}
use Rattle.std.specs.Prelude.{slice_set, nat_lt}
use Rattle.std.specs.List.{AllByRecursion}
use Rattle.std.proofs.lemmas.Bool.{cond_both, or_parts}
use Rattle.xinu_base.specs.Constants.{OK}
use Rattle.xinu_base.specs.declared.processes.Process.{Process}
use Rattle.xinu_base.specs.declared.processes.Rest.TheVariants as rest
use Rattle.xinu_base.specs.declared.processes.State.TheVariants.{Current, Suspended}
use Rattle.xinu_model.specs.Boot.{Loaded, Disks, Boots, boot, boot_on, all_made, all_ready, all_started, first_overlap, loaded_machine, on_disks, unless_overlap}
use Rattle.xinu_model.specs.Clock.{a_tick_later, due, quantum_falls, ticked, wakeup}
use Rattle.xinu_model.specs.Machine.{Xinu, start}
use Rattle.xinu_model.specs.Process.Calls.{is_ready, with_priority}
use Rattle.xinu_model.specs.Process.Scheduling.{is_current, in_state, resched}
use Rattle.xinu_model.specs.Sound.Tables.{IsInside, IsSoundTables}
use Rattle.xinu_model.specs.Tables.{no_process, Tables, process_at, state_at, message_at, semaphore_at, entries_without, Nowhere, InReady, move_to}
use Rattle.table_laws.proofs.Lists.Orders.{all_filter}
use Rattle.table_laws.proofs.Preserve.{current_within}
use Rattle.table_laws.proofs.Tables.MoveTo.{process_move_same, process_move_other}
use Rattle.table_laws.proofs.Tables.Scheduling.{idle_differs, inside_quantum}
use Rattle.table_laws.proofs.Tables.Starts.{all_are_made, boots_from, none_made, sound_all_ready}
use Rattle.table_laws.proofs.Tables.Ticks.{sound_later}
use Rattle.table_laws.proofs.Tables.Unblock.{unblock_all_ready}
use Rattle.scheduling_laws.specs.Policy.{IsHighest}
use Rattle.scheduling_laws.proofs.Moves.{Anyone, IsClosed, inside_unblocked}
use Rattle.scheduling_laws.proofs.Passes.Events.{IsCarried}
use Rattle.scheduling_laws.proofs.Resched.{highest_resched}

-- Inside an event a process of the highest priority runs, unless a resched is owed.
abbrev pub IsHighestYet : Tables → Bool → Type 0
IsHighestYet t owes = owes ≡ false → IsHighest t

-- Another process than the current one leaves the ready list, or stays out of it.
highest_move : (t : Tables) (p : ℕ) (x : Process) (m : Option ℕ) → t.current ≢ p → IsHighest t → IsHighest (move_to p x m Nowhere t)
highest_move t p x m n h =
    subst (λ (y : Process). AllByRecursion (λ b. b.1 ≤ℤ y.priority) (entries_without p t.ready))
    (sym (process_move_other t t.current p x m Nowhere n))
    (all_filter (λ b. b.1 ≤ℤ (process_at t t.current).priority) _ t.ready h)

-- the caller goes on
highest_goes_on : (t : Tables) (m : Option ℕ) → IsSoundTables t → IsHighest t
    → IsHighest (move_to t.current (record (process_at t t.current) { rest = rest.Nothing }) m Nowhere t)
highest_goes_on t m k h =
    let x = record (process_at t t.current) { rest = rest.Nothing } in
    subst (λ (y : Process). AllByRecursion (λ b. b.1 ≤ℤ y.priority) (entries_without t.current t.ready))
    (sym (process_move_same t t.current x m Nowhere k.inside.processes (current_within t k)))
    (all_filter (λ b. b.1 ≤ℤ (process_at t t.current).priority) _ t.ready h)

-- a process that isn't current gets another priority
highest_set : (t : Tables) (p : ℕ) (x : Process) → t.current ≢ p → IsHighest t
    → IsHighest (record t { processes = slice_set t.processes p x })
highest_set t p x n h =
    subst (λ (y : Process). AllByRecursion (λ b. b.1 ≤ℤ y.priority) t.ready)
    (sym (get_or-set_other t.processes p t.current x no_process n)) h

-- call 7
highest_placed : (t : Tables) (p : ℕ) (priority : ℤ) → IsSoundTables t → IsHighest t
    → IsHighestYet (with_priority p priority t) (is_ready (state_at t p) || is_current (state_at t p))
highest_placed t p priority k h e =
    let x = process_at t p in
    let none = or_parts (is_ready x.state) (is_current x.state) e in
    cond_both (is_ready x.state) (move_to p (record x { priority = priority }) (message_at t p) InReady t)
    (record t { processes = slice_set t.processes p (record x { priority = priority }) }) IsHighest
    (λ b. let f = sym b ∙ none.0 in absurd (cc))
    (λ _. highest_set t p (record x { priority = priority })
    (λ f. let g = sym (ap is_current (subst (λ q. state_at t q ≡ Current) f k.runs)) ∙ none.1 in cc) h)

-- Each move of a call owes a resched, or a process of the highest priority goes on running.
highest_closed : IsClosed Anyone Anyone IsHighest IsHighestYet
highest_closed = record {
  begins = λ t h _. h;
  owes = λ t h e. absurd (cc);
  releases = λ value sem n d touch h. inside_unblocked {Holds = IsHighestYet} (λ t b q g e. absurd (cc)) value (take n (semaphore_at d.state.tables sem).waiters) d h;
  hears = λ t b q m l h e. absurd (cc);
  replies = λ t b sem q qs reply touch k f h e. absurd (cc);
  counts = λ t b sem x touch f h. h;
  numbers = λ t b n h. h;
  messages = λ t b q m h. h;
  goes_on = λ t m k h _. highest_goes_on t m k h;
  stops = λ t state left place touch h e. absurd (cc);
  dies = λ t b q n h e. highest_move t q no_process None (λ f. n (sym f)) (h e);
  exits = λ t b q h e. absurd (cc);
  makes = λ t q x k free h _. highest_move t q x None (λ f. let g = sym (subst (λ r. state_at t r ≡ Current) f k.runs) ∙ free in cc) h;
  resumes = λ t q k f h e. absurd (cc);
  suspends = λ t q k f h _. highest_move t q (in_state Suspended (process_at t q)) (message_at t q)
      (λ g. idle_differs t q t.current (λ c. let i = sym f ∙ c in cc) k.runs (sym g)) h;
  places = λ t q priority may k h. highest_placed t q priority k h;
}

-- the quantum falls
highest_falls : (t : Tables) → IsSoundTables t → IsHighest t → IsHighest (quantum_falls t)
highest_falls t k h =
    cond_both (nat_lt 1 t.quantum) (record t { quantum = t.quantum - 1 }) (resched (record t { quantum = 2 })) IsHighest
    (λ _. h) (λ _. highest_resched (record t { quantum = 2 }) (inside_quantum t 2 k.inside))

-- it is a tick later
highest_later : (owes : Bool) (t : Tables) → IsInside (a_tick_later false t) → IsHighestYet t owes → IsHighest (a_tick_later owes t)
highest_later owes t o h =
    let later = record t { ticks = t.ticks + 1 } in
    cond_both owes (resched later) later IsHighest (λ _. highest_resched later o) (λ e. h e)

-- a tick
highest_ticked : (s : Xinu) → IsSoundTables s.tables → IsHighest s.tables → IsHighest (ticked s).state.tables
highest_ticked s k h =
    let ps = due (s.tables.ticks + 1) s.tables.sleepers in
    let d = wakeup s in
    let after : (owes : Bool) → IsSoundTables (a_tick_later owes d.state.tables) =
    λ owes. subst (λ (x : Xinu). IsSoundTables (a_tick_later owes x.tables)) (sym (unblock_all_ready ps (start s))) (sound_later owes s.tables k) in
    highest_falls (a_tick_later d.owes_resched d.state.tables) (after d.owes_resched)
    (highest_later d.owes_resched d.state.tables (after false).inside
    (inside_unblocked {Holds = IsHighestYet} (λ t b q g e. absurd (cc)) OK ps (start s) (λ _. h)))

-- Each event keeps it.
pub highest_carried : IsCarried Anyone Anyone IsHighest IsHighestYet IsHighest
highest_carried = record {
  moves = highest_closed;
  stays = λ t h. h;
  ends = λ t o h. h refl;
  rescheds = λ t o h. highest_resched t o;
  ticks = highest_ticked;
}

-- The machine starts so.
highest_unless : (overlap : Option ℕ) (images : List Loaded) (s : Xinu) → length images < 64 → unless_overlap overlap images ≡ Boots s
    → IsHighest s.tables
highest_unless (Some i) images s few e = cc
highest_unless None images s few e =
    let b = boots_from (all_made 1 images (loaded_machine images)) (λ x. Boots (all_started images x)) s e in
    let f : all_started images b.0 ≡ s = cc in
    let m = all_are_made images 1 (loaded_machine images) b.0 (none_made images) (omega arith) (omega arith) b.1 in
    subst (λ (x : Xinu). IsHighest x.tables) f
    (highest_resched (all_ready 1 images b.0.tables)
    (sound_all_ready images 1 b.0.tables m.tables (λ j low high. m.suspended j (omega arith) high)).inside)

pub highest_boot_on : (disks : Disks) (images : List Loaded) (s : Xinu) → length images < 64 → boot_on disks images ≡ Boots s
    → IsHighest s.tables
highest_boot_on disks images s few e =
    let b = boots_from (boot images) (λ x. Boots (on_disks disks x)) s e in
    let f : on_disks disks b.0 ≡ s = cc in
    subst (λ (x : Xinu). IsHighest x.tables) f (highest_unless (first_overlap 1 [] images) images b.0 few b.1)
