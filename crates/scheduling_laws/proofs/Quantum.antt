-- Between two events a tick or two are left of the quantum: each event keeps it so, and the machine starts so.
use Rattle.std.proofs.Common.{◌≡◌, ℕ, ◌+◌, ◌-◌, List, [], ◌∷◌, take, Option, Some, None, refl, sym, ap, subst, ◌∙◌, arith, ℤ}
use Rattle.std.specs.Prelude.{slice_set, nat_lt}
use Rattle.std.proofs.lemmas.Bool.{cond_both, ltb-true}
use Rattle.xinu_base.specs.Constants.{OK}
use Rattle.xinu_model.specs.Boot.{Loaded, Disks, Boots, boot, boot_on, all_made, all_ready, all_started, first_overlap, loaded_machine, on_disks, unless_overlap, where_stack, with_image}
use Rattle.xinu_model.specs.Clock.{a_tick_later, due, quantum_falls, ticked, wakeup}
use Rattle.xinu_model.specs.Heap.Cells.{Stack, take_stack}
use Rattle.xinu_model.specs.Machine.{Xinu, start}
use Rattle.xinu_model.specs.Process.Calls.{is_ready, with_priority}
use Rattle.xinu_model.specs.Process.Creation.{stack_size}
use Rattle.xinu_model.specs.Process.Scheduling.{dispatch_first, is_current, keeps_cpu, preempt, ready, resched}
use Rattle.xinu_model.specs.Tables.{Tables, process_at, state_at, message_at, semaphore_at, InReady, move_to}
use Rattle.table_laws.proofs.Tables.Starts.{boots_from}
use Rattle.scheduling_laws.specs.Policy.{HasQuantum}
use Rattle.scheduling_laws.proofs.Moves.{Anyone, IsClosed, inside_unblocked}
use Rattle.scheduling_laws.proofs.Passes.Events.{IsCarried}

-- A resched leaves the quantum, or renews it.
few_resched : (t : Tables) → HasQuantum t → HasQuantum (resched t)
few_resched t h =
    let room = preempt t in
    let c = t.current in
    let made : HasQuantum room = cond_both (is_current (state_at t c)) (ready c t) t HasQuantum (λ _. h) (λ _. h) in
    cond_both (keeps_cpu t.ready t) t (dispatch_first room.ready room) HasQuantum (λ _. h) (λ _. dispatched room.ready room made)
  where
    dispatched : (l : List (ℕ × ℤ)) (u : Tables) → HasQuantum u → HasQuantum (dispatch_first l u)
    dispatched [] u k = k
    dispatched (e ∷ es) u k = (omega arith, omega arith)

-- call 7
few_placed : (t : Tables) (p : ℕ) (priority : ℤ) → HasQuantum t → HasQuantum (with_priority p priority t)
few_placed t p priority h =
    let x = record (process_at t p) { priority = priority } in
    cond_both (is_ready x.state) (move_to p x (message_at t p) InReady t) (record t { processes = slice_set t.processes p x }) HasQuantum
    (λ _. h) (λ _. h)

-- No move of a call changes the quantum.
few_closed : IsClosed Anyone Anyone HasQuantum (λ t owes. HasQuantum t)
few_closed = record {
  begins = λ t h. h;
  owes = λ t h. h;
  releases = λ value sem n d touch h. inside_unblocked {Holds = λ t owes. HasQuantum t} (λ t b q g. g) value (take n (semaphore_at d.state.tables sem).waiters) d h;
  hears = λ t b q m l h. h;
  replies = λ t b sem q qs reply touch k f h. h;
  counts = λ t b sem x touch f h. h;
  numbers = λ t b n h. h;
  messages = λ t b q m h. h;
  goes_on = λ t m k h. h;
  stops = λ t state left place touch h. h;
  dies = λ t b q n h. h;
  exits = λ t b q h. h;
  makes = λ t q x k free h. h;
  resumes = λ t q k f h. h;
  suspends = λ t q k f h. h;
  places = λ t q priority may k h. few_placed t q priority h;
}

-- the quantum falls
few_falls : (t : Tables) → HasQuantum t → HasQuantum (quantum_falls t)
few_falls t h =
    cond_both (nat_lt 1 t.quantum) (record t { quantum = t.quantum - 1 }) (resched (record t { quantum = 2 })) HasQuantum
    (λ b. let more = ltb-true 1 t.quantum b in let most = h.1 in (omega arith, omega arith))
    (λ _. few_resched (record t { quantum = 2 }) (omega arith, omega arith))

-- a tick
few_ticked : (s : Xinu) → HasQuantum s.tables → HasQuantum (ticked s).state.tables
few_ticked s h =
    let d = wakeup s in
    let t = d.state.tables in
    let k : HasQuantum t = inside_unblocked {Holds = λ u owes. HasQuantum u} (λ u b q g. g) OK (due (s.tables.ticks + 1) s.tables.sleepers) (start s) h in
    let later = record t { ticks = t.ticks + 1 } in
    few_falls (a_tick_later d.owes_resched t)
    (cond_both d.owes_resched (resched later) later HasQuantum (λ _. few_resched later k) (λ _. k))

-- Each event keeps it.
pub few_carried : IsCarried Anyone Anyone HasQuantum (λ t owes. HasQuantum t) HasQuantum
few_carried = record {
  moves = few_closed;
  stays = λ t h. h;
  ends = λ t o h. h;
  rescheds = λ t o h. few_resched t h;
  ticks = λ s k h. few_ticked s h;
}

-- as the images are made the quantum stays
same_made : (found : Option Stack) (i : ℕ) (image : Loaded) (s x : Xinu) → where_stack found i image s ≡ Boots x → x.tables.quantum ≡ s.tables.quantum
same_made None i image s x e = cc
same_made (Some stack) i image s x e = let f : with_image i image stack s ≡ x = cc in ap (λ (y : Xinu). y.tables.quantum) (sym f)

same_all_made : (images : List Loaded) (i : ℕ) (s x : Xinu) → all_made i images s ≡ Boots x → x.tables.quantum ≡ s.tables.quantum
same_all_made [] i s x e = let f : s ≡ x = cc in ap (λ (y : Xinu). y.tables.quantum) (sym f)
same_all_made (image ∷ images) i s x e =
    let found = take_stack (stack_size image.stack) s.parts.heap in
    let b = boots_from (where_stack found i image s) (λ y. all_made (i + 1) images y) x e in
    same_all_made images (i + 1) b.0 x b.2 ∙ same_made found i image s b.0 b.1

same_all_ready : (images : List Loaded) (i : ℕ) (t : Tables) → (all_ready i images t).quantum ≡ t.quantum
same_all_ready [] i t = refl
same_all_ready (image ∷ images) i t = same_all_ready images (i + 1) (ready i t)

few_unless : (overlap : Option ℕ) (images : List Loaded) (s : Xinu) → unless_overlap overlap images ≡ Boots s → HasQuantum s.tables
few_unless (Some i) images s e = cc
few_unless None images s e =
    let b = boots_from (all_made 1 images (loaded_machine images)) (λ x. Boots (all_started images x)) s e in
    let f : all_started images b.0 ≡ s = cc in
    let two : (all_ready 1 images b.0.tables).quantum ≡ 2 = same_all_ready images 1 b.0.tables ∙ same_all_made images 1 (loaded_machine images) b.0 b.1 in
    subst (λ (x : Xinu). HasQuantum x.tables) f (few_resched (all_ready 1 images b.0.tables) (omega arith, omega arith))

pub few_boot_on : (disks : Disks) (images : List Loaded) (s : Xinu) → boot_on disks images ≡ Boots s → HasQuantum s.tables
few_boot_on disks images s e =
    let b = boots_from (boot images) (λ x. Boots (on_disks disks x)) s e in
    let f : on_disks disks b.0 ≡ s = cc in
    subst (λ (x : Xinu). HasQuantum x.tables) f (few_unless (first_overlap 1 [] images) images b.0 b.1)
