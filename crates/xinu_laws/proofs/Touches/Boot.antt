-- The start of the machine touches processes, their stacks and the heap alone, so the clock and the numbers of the ports begin at 0.
use Rattle.std.proofs.Common.{◌≡◌, ℕ, zero, suc, ◌+◌, true, false, List, [], ◌∷◌, Option, Some, None, get_or, refl, sym, ap, subst, ◌∙◌}
use Rattle.std.proofs.lemmas.Bool.{both_ways, false_from_ne_true}
use Rattle.xinu_base.specs.declared.processes.Process.{Process}
use Rattle.xinu_base.specs.declared.processes.Rest.TheVariants.{Nothing}
use Rattle.xinu_base.specs.declared.processes.State.TheVariants.{Ready}
use Rattle.xinu_base.specs.declared.semaphores.Owner.TheVariants.{Device}
use Rattle.xinu_model.specs.Boot.{Loaded, first_overlap, first_semaphores, null_tables, loaded_machine, image_process, with_image, all_ready, Boots, and_then, where_stack, all_made, all_started, unless_overlap, boot}
use Rattle.xinu_model.specs.Footprints.{on_deaths}
use Rattle.xinu_model.specs.Heap.Cells.{Stack, take_stack}
use Rattle.xinu_model.specs.Machine.{Xinu}
use Rattle.xinu_model.specs.Ports.Queues.{MessagePort, first_ports, most_ports, no_port, port_at}
use Rattle.xinu_model.specs.Process.Scheduling.{ready}
use Rattle.xinu_model.specs.Process.Creation.{stack_size}
use Rattle.xinu_model.specs.Tables.{no_process, Semaphore, no_semaphore, process_at, message_at, semaphore_at, Nowhere, InReady, move_to}
use Rattle.xinu_laws.specs.Touches.{Reach, Touches, reach}
use Rattle.part_laws.proofs.HeapCells.Taken.{getstk_finds}
use Rattle.part_laws.proofs.HeapCells.Extent.{extent_marked}
use Rattle.table_laws.proofs.Frame.{frame_same, frame_trans}
use Rattle.table_laws.proofs.Frame.MoveTo.{frame_move}
use Rattle.table_laws.proofs.Tables.Starts.{boots_from, same_everywhere}
use Rattle.xinu_laws.proofs.Touches.{named, parts_heap, touches_refl, touches_trans}
use Rattle.xinu_laws.proofs.Touches.Events.{touches_resched_if}
use Rattle.xinu_laws.proofs.Touches.Moves.{MayReady, may_ready_framed, touches_moved}

module _ {f : Reach} where
  -- processes become ready
  touches_all_ready : (images : List Loaded) (i : ℕ) (s : Xinu) → ((p : ℕ) → MayReady f.asks s.tables p)
      → Touches f s (record s { tables = all_ready i images s.tables })
  touches_all_ready [] i s may = touches_refl s
  touches_all_ready (image ∷ images) i s may =
      let t = s.tables in
      let u = record s { tables = ready i t } in
      let first : Touches f s u = touches_moved s i Ready (message_at t i) InReady tt refl refl (may i) in
      touches_trans first (touches_all_ready images (i + 1) u (λ p. may_ready_framed s u p first (may p)))

  -- The processes of the images become ready.
  pub touches_all_started : (images : List Loaded) (s : Xinu) → ((p : ℕ) → MayReady f.asks s.tables p) → Touches f s (all_started images s)
  touches_all_started images s may =
      let u = record s { tables = all_ready 1 images s.tables } in
      let first = touches_all_ready images 1 s may in
      touches_trans first (touches_resched_if u (λ p _. may_ready_framed s u p first (may p)))

-- A reach that allows the start: no call is under way.
pub record HasStart (f : Reach) : Type 0 where
  pub nothing : f.asks Nothing ≡ false
  pub heap : f.parts.heap ≡ true
  pub stacks : f.parts.stacks ≡ true
  pub disk : f.parts.disk ≡ true

-- It leaves no semaphore alone, not even the four that devices have from the start on.
pub record OwnsNone (f : Reach) : Type 0 where
  pub none : (sem : ℕ) → f.mine sem None ≡ false
  pub kernel : (sem : ℕ) → f.mine sem (Some Device) ≡ false

module _ {f : Reach} (g : HasStart f) where
  -- nobody is in a call at first
  first_unasked : (p : ℕ) → f.asks (process_at null_tables p).rest ≡ false
  first_unasked zero = g.nothing
  first_unasked (suc p) = ap (λ (x : Process). f.asks x.rest) (same_everywhere 63 p no_process) ∙ g.nothing

  -- and no semaphore is left alone if the reach owns none
  first_other : OwnsNone f → (sem : ℕ) → f.mine sem (get_or first_semaphores sem no_semaphore).owner ≡ false
  unfolding first_semaphores
  first_other owns zero = owns.kernel 0
  first_other owns (suc zero) = owns.kernel 1
  first_other owns (suc (suc zero)) = owns.kernel 2
  first_other owns (suc (suc (suc zero))) = owns.kernel 3
  first_other owns (suc (suc (suc (suc sem)))) =
      ap (λ (x : Semaphore). f.mine (suc (suc (suc (suc sem)))) x.owner) (same_everywhere 124 sem no_semaphore)
      ∙ owns.none (suc (suc (suc (suc sem))))

  -- the process of an image is made
  touches_image : (i : ℕ) (image : Loaded) (stack : Stack) (s : Xinu) → take_stack (stack_size image.stack) s.parts.heap ≡ Some stack
      → Touches f s (with_image i image stack s)
  touches_image i image stack s e =
      let x = image_process i image stack.top in
      let t = s.tables in
      let u = move_to i x None Nowhere t in
      let found = getstk_finds (stack_size image.stack) s.parts.heap stack e in
      record {
        frame = frame_trans t u (record u { last_process = i }) (frame_move t i x None Nowhere tt (λ h. absurd (both_ways (f.asks Nothing) g.nothing h)) refl) (frame_same u (record u { last_process = i }) refl refl);
        stacks = named g.stacks;
        free = named g.stacks;
        clock = λ _. refl;
        stay = named g.disk;
        ram = λ _. refl;
        parts = parts_heap g.heap s.parts stack.heap (extent_marked found.taken);
      }

  -- and those of the others, if a stack is found
  touches_next : (found : Option Stack) (i : ℕ) (image : Loaded) (images : List Loaded) (s x : Xinu)
      → take_stack (stack_size image.stack) s.parts.heap ≡ found
      → ((y : Xinu) → all_made (i + 1) images y ≡ Boots x → Touches f y x)
      → and_then (where_stack found i image s) (λ y. all_made (i + 1) images y) ≡ Boots x → Touches f s x
  touches_next None i image images s x e next h = cc
  touches_next (Some stack) i image images s x e next h =
      touches_trans (touches_image i image stack s e) (next (with_image i image stack s) h)

  -- those of all are made
  touches_all_made : (images : List Loaded) (i : ℕ) (s x : Xinu) → all_made i images s ≡ Boots x → Touches f s x
  touches_all_made [] i s x e = let h : s ≡ x = cc in subst (Touches f s) h (touches_refl s)
  touches_all_made (image ∷ images) i s x e =
      touches_next (take_stack (stack_size image.stack) s.parts.heap) i image images s x refl
      (λ y h. touches_all_made images (i + 1) y x h) e

  -- the start, by the first image that overlaps an earlier one
  touches_unless_overlap : (overlap : Option ℕ) (images : List Loaded) (start : Xinu) → unless_overlap overlap images ≡ Boots start
      → Touches f (loaded_machine images) start
  touches_unless_overlap (Some i) images start e = cc
  touches_unless_overlap None images start e =
      let b = boots_from (all_made 1 images (loaded_machine images)) (λ s. Boots (all_started images s)) start e in
      let h : all_started images b.0 ≡ start = cc in
      let first = touches_all_made images 1 (loaded_machine images) b.0 b.1 in
      let may : (p : ℕ) → MayReady f.asks (loaded_machine images).tables p = λ p. record { idle = λ k. absurd (both_ways (f.asks (process_at null_tables p).rest) (first_unasked p) k) } in
      subst (Touches f (loaded_machine images)) h
      (touches_trans first (touches_all_started images b.0 (λ p. may_ready_framed (loaded_machine images) b.0 p first (may p))))

  -- The start touches nothing else.
  pub touches_start : (images : List Loaded) (start : Xinu) → boot images ≡ Boots start → Touches f (loaded_machine images) start
  touches_start images start e = touches_unless_overlap (first_overlap 1 [] images) images start e

  -- So no semaphore is one of these,
  pub start_other : OwnsNone f → (images : List Loaded) (start : Xinu) → boot images ≡ Boots start → (sem : ℕ)
      → f.mine sem (semaphore_at start.tables sem).owner ≡ false
  start_other owns images start e sem =
      false_from_ne_true (f.mine sem (semaphore_at start.tables sem).owner)
      (λ h. both_ways (f.mine sem (semaphore_at null_tables sem).owner) (first_other owns sem)
      (ap (f.mine sem) (sym ((touches_start images start e).frame.old sem h)) ∙ h))

  -- and nobody is in such a call.
  pub start_unasked : (images : List Loaded) (start : Xinu) → boot images ≡ Boots start → (p : ℕ)
      → f.asks (process_at start.tables p).rest ≡ false
  start_unasked images start e p =
      false_from_ne_true (f.asks (process_at start.tables p).rest)
      (λ h. both_ways (f.asks (process_at null_tables p).rest) (first_unasked p)
      (ap f.asks (sym ((touches_start images start e).frame.rests p h).0) ∙ h))

-- the start reaches no further than a death
start_reached : HasStart (reach on_deaths)
start_reached = record { nothing = refl; heap = refl; stacks = refl; disk = refl }

-- The clock begins at 0.
pub boot_ticks : (images : List Loaded) (start : Xinu) → boot images ≡ Boots start → start.tables.ticks ≡ 0
boot_ticks images start e = (touches_start start_reached images start e).clock refl

-- The number of each port begins at 0.
pub boot_numbers : (images : List Loaded) (start : Xinu) → boot images ≡ Boots start → (q : ℕ)
    → (port_at start.parts.ports q).seq ≡ 0
unfolding first_ports
boot_numbers images start e q =
    ap (λ (ports : List MessagePort). (port_at ports q).seq) ((touches_start start_reached images start e).parts.ports refl).0
    ∙ ap (λ (port : MessagePort). port.seq) (same_everywhere most_ports q no_port)
