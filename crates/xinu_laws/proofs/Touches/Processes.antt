-- What the calls of processes touch.
use Rattle.std.proofs.Common.{◌≡◌, ℕ, ◌+◌, ◌==◌, Bool, true, false, not, ◌&&◌, ◌||◌, List, drop, take, Option, Some, None, set, refl, ap, ◌∙◌, ℤ, pos}
use Rattle.std.specs.Prelude.{int_lt}
use Rattle.std.proofs.lemmas.Bool.{cond_both, and_left}
use Rattle.xinu_base.specs.declared.processes.Rest.TheVariants.{SelfSuspend}
use Rattle.xinu_base.specs.declared.processes.State.{State}
use Rattle.xinu_base.specs.declared.processes.State.TheVariants.{Suspended, Waiting}
use Rattle.xinu_base.specs.declared.processes.Rest.{Rest}
use Rattle.xinu_base.specs.Constants.{NPROC}
use Rattle.table_laws.specs.Frame.{StillWait, waits_in}
use Rattle.xinu_model.specs.Devices.State.{given_up}
use Rattle.xinu_model.specs.Footprints.{on_tables, on_processes, on_deaths}
use Rattle.xinu_model.specs.Heap.Cells as heap
use Rattle.xinu_model.specs.Heap.Cells.{Stack}
use Rattle.xinu_model.specs.Machine.{Xinu, CallState, start, refused}
use Rattle.xinu_model.specs.Memory.{in_ram}
use Rattle.xinu_model.specs.Messages.{held, sent}
use Rattle.xinu_model.specs.Process.Creation.{stack_size, new_process, process_name, free_process}
use Rattle.xinu_model.specs.Process.Calls.{is_suspended, is_ready, created, getpid, create, resume, suspend, kill, with_priority, chprio, getprio, go_on_suspend}
use Rattle.xinu_base.specs.declared.processes.Process.{Process}
use Rattle.xinu_model.specs.Process.Death.{killed, exit}
use Rattle.xinu_model.specs.Sound.Pools.{is_waiting}
use Rattle.xinu_laws.specs.Touches.{stack_of, reach, Touches}
use Rattle.xinu_model.specs.Tables.{Tables, no_process, process_at, state_at, message_at, is_free, Nowhere, InReady, move_to}
use Rattle.table_laws.proofs.Lists.Maps.{map_set_same}
use Rattle.part_laws.proofs.HeapCells.Taken.{getstk_finds}
use Rattle.part_laws.proofs.HeapCells.Extent.{extent_marked, extent_freestk, extent_unless}
use Rattle.table_laws.proofs.Frame.{frame_same, frame_trans}
use Rattle.table_laws.proofs.Frame.MoveTo.{frame_move, frame_process, same_written}
use Rattle.table_laws.proofs.Lists.Searches.{search_passes}
use Rattle.table_laws.proofs.Tables.Alive.{was_free}
use Rattle.xinu_laws.proofs.Touches.{StaysIn, named, parts_heap, parts_death, touches_tables, touches_refl, touches_trans, touches_either, touches_if}
use Rattle.xinu_laws.proofs.Touches.Moves.{may_ready_idle, touches_move, touches_moved, still_move, touches_blocked, touches_goes_on, touches_unblock, touches_sent}

-- what a state says of waiting
idle_suspended : (s : State) → is_suspended s ≡ true → is_waiting s ≡ false
idle_suspended Waiting h = cc
idle_suspended _ h = refl

pub idle_ready : (s : State) → is_ready s ≡ true → is_waiting s ≡ false
idle_ready Waiting h = cc
idle_ready _ h = refl

-- Call 1.
pub getpid_touches : StaysIn on_tables getpid
getpid_touches s i = touches_refl s

-- Call 3.
pub resume_touches : (p : ℕ) → StaysIn on_tables (resume p)
resume_touches p s i = touches_if s (is_suspended (state_at s.tables p)) _
    (λ b. touches_unblock p (start s) (may_ready_idle (reach on_tables).asks s.tables p (idle_suspended (state_at s.tables p) b)))

-- Call 4.
pub suspend_touches : (p : ℕ) → StaysIn on_tables (suspend p)
suspend_touches p s i =
    let t = s.tables in
    touches_either s (p == 0) (refused s) _ (λ _. touches_refl s)
    (λ _. touches_either s (is_ready (state_at t p)) _ _
    (λ b. touches_moved s p Suspended (message_at t p) Nowhere tt refl refl
    (may_ready_idle (reach on_tables).asks t p (idle_ready (state_at t p) b)))
    (λ _. touches_if s (p == t.current) _ (λ _. touches_blocked Suspended SelfSuspend Nowhere s i.tables.runs tt refl refl)))

-- who waits still does if a process changes that waits as it did
still_same : (asks : Rest → Bool) (t : Tables) (p : ℕ) (x : Process) → waits_in asks x ≡ waits_in asks (process_at t p)
    → StillWait asks t (record t { processes = set t.processes p x })
still_same asks t p x e = record { stay = λ q h. same_written (waits_in asks) t.processes p q x no_process e ∙ h }

-- a process gets another priority
with_priority_touches : (p : ℕ) (priority : ℤ) (s : Xinu)
    → Touches (reach on_tables) s (record s { tables = with_priority p priority s.tables })
with_priority_touches p priority s =
    let t = s.tables in
    let x = record (process_at t p) { priority = priority } in
    let u = record t { processes = set t.processes p x } in
    cond_both (is_ready (state_at t p)) (move_to p x (message_at t p) InReady t) u
    (λ v. Touches (reach on_tables) s (record s { tables = v }))
    (λ b. touches_move s p x (message_at t p) InReady tt (λ h. (refl, refl))
    (ap (λ k. k && (reach on_tables).asks x.rest) (idle_ready (state_at t p) b)) refl
    (λ h. h) (ap (λ k. k && (reach on_tables).asks x.rest) (idle_ready (state_at t p) b)))
    (λ _. touches_tables s u (frame_process t p x (λ h. (refl, refl))) (map_set_same stack_of t.processes p x no_process refl)
    (was_free t.processes p x (λ h. h)) (λ _. refl) (still_same (reach on_tables).asks t p x refl))

-- Call 7.
pub chprio_touches : (p : ℕ) (priority : ℤ) → StaysIn on_tables (chprio p priority)
chprio_touches p priority s i =
    touches_either s (is_free (state_at s.tables p)) (refused s) _ (λ _. touches_refl s) (λ _. with_priority_touches p priority s)

-- Call 8.
pub getprio_touches : (p : ℕ) → StaysIn on_tables (getprio p)
getprio_touches p s i = touches_either s (is_free (state_at s.tables p)) (refused s) _ (λ _. touches_refl s) (λ _. touches_refl s)

-- a process dies
pub killed_touches : (p : ℕ) (d : CallState) → Touches (reach on_deaths) d.state (killed p d).state
killed_touches p d =
    let x = process_at d.state.tables p in
    let told = sent x.parent p d in
    touches_trans (touches_sent x.parent p d) (record {
      frame = frame_move told.state.tables p no_process None Nowhere tt (λ h. absurd (cc)) refl;
      stacks = named refl;
      free = named refl;
      clock = λ _. refl;
      stay = named refl;
      ram = λ _. refl;
      parts = parts_death refl refl refl told.state.parts _ (given_up p told.state.parts.devices)
          (extent_unless (heap.free_stack x.stack x.stack_size told.state.parts.heap) told.state.parts.heap (extent_freestk x.stack x.stack_size told.state.parts.heap)) refl refl;
    })

-- Call 9.
pub exit_touches : StaysIn on_deaths exit
exit_touches s i = killed_touches s.tables.current (start s)

-- Call 5.
pub kill_touches : (p : ℕ) → StaysIn on_deaths (kill p)
kill_touches p s i = touches_either s ((p == 0) || is_free (state_at s.tables p)) (refused s) _ (λ _. touches_refl s)
    (λ _. touches_either s (p == s.tables.current) _ _ (λ _. exit_touches s i) (λ _. killed_touches p (start s)))

-- a number that is found free waits in no call
free_idle : (asks : Rest → Bool) (t : Tables) (p : ℕ) → free_process t ≡ Some p → waits_in asks (process_at t p) ≡ false
free_idle asks t p e =
    and_left (is_waiting (state_at t p)) (asks (process_at t p).rest)
    (idle_free (state_at t p) (search_passes (λ q. is_free (state_at t q)) NPROC (t.last_process + 1) p e))
  where
    idle_free : (state : State) → is_free state ≡ true → is_waiting state ≡ false
    idle_free Waiting h = cc
    idle_free _ h = refl

-- Call 2.
created_touches : (found : Option ℕ) (stack : Option Stack) (entry size : ℕ) (priority : ℤ) (name : List ℕ) (x y : ℕ) (s : Xinu)
    → free_process s.tables ≡ found → heap.take_stack size s.parts.heap ≡ stack
    → Touches (reach on_processes) s (created found stack entry size priority name x y s).call.state
created_touches (Some p) (Some stack) entry size priority name x y s number e =
    let t = s.tables in
    let made = new_process name priority t.current stack.top size in
    let u = move_to p made None Nowhere t in
    let g = getstk_finds size s.parts.heap stack e in
    record {
      frame = frame_trans t u (record u { last_process = p }) (frame_move t p made None Nowhere tt (λ h. absurd (cc)) refl) (frame_same u (record u { last_process = p }) refl refl);
      stacks = named refl;
      free = named refl;
      clock = λ _. refl;
      stay = λ _. record { stay = (still_move (reach on_processes).asks t p made None Nowhere (free_idle (reach on_processes).asks t p number)).stay };
      ram = λ _. refl;
      parts = parts_heap refl s.parts stack.heap (extent_marked g.taken);
    }
created_touches (Some p) None entry size priority name x y s number e = touches_refl s
created_touches None stack entry size priority name x y s number e = touches_refl s

pub create_touches : (entry size : ℕ) (priority : ℤ) (name x y : ℕ) → StaysIn on_processes (create entry size priority name x y)
create_touches entry size priority name x y s i =
    touches_either s (int_lt priority (pos 1) || not (in_ram name 16)) (refused s) _ (λ _. touches_refl s)
    (λ _. created_touches (free_process s.tables) (heap.take_stack (stack_size size) s.parts.heap) entry (stack_size size) priority
    (process_name (take 16 (drop name s.memory))) x y s refl refl)

-- Call 4 goes on.
pub go_on_suspend_touches : StaysIn on_tables go_on_suspend
go_on_suspend_touches s i = touches_goes_on refl (held s) s i.tables.runs
