-- The tables in which the machine starts are sound.
use Rattle.std.proofs.Common.{◌≡◌, ℕ, zero, suc, ◌+◌, ◌<◌, ◌≤◌, List, [], ◌∷◌, length, get_or, refl, sym, ap, subst, ◌∙◌, arith, inl, inr, ⊎_elim, Option, Some, None}
use Rattle.std.specs.Prelude.{replicate}
use Rattle.std.proofs.lemmas.Bool.{cases_lt}
use Rattle.std.proofs.lemmas.List.{get_or-replicate, get_or_past, length-replicate}
use Rattle.xinu_base.specs.declared.processes.Process.{Process}
use Rattle.xinu_base.specs.declared.processes.State.TheVariants.{Free, Current, Ready, Suspended}
use Rattle.xinu_base.specs.declared.semaphores.Owner.TheVariants.{Device}
use Rattle.table_laws.specs.Moves.{CanBeReady, CanMove}
use Rattle.xinu_model.specs.Boot.{Loaded, first_overlap, device_semaphore, first_semaphores, null_tables, loaded_machine, image_process, with_image, all_ready, Start, Boots, Overlaps, NoRoom, and_then, where_stack, all_made, all_started, unless_overlap, boot}
use Rattle.xinu_model.specs.Heap.Cells.{Stack, take_stack}
use Rattle.xinu_model.specs.Machine.{Xinu, no_hart}
use Rattle.xinu_model.specs.Process.Scheduling.{in_state, ready}
use Rattle.xinu_model.specs.Process.Creation.{stack_size, new_hart}
use Rattle.xinu_model.specs.Sound.Tables.{count_in, waits_of, ready_places, waiting_places, sleeping_places, HasOneKind, FitsOwner, FitsMessage, IsInside, IsFixed, IsUnused, IsSoundTables}
use Rattle.xinu_model.specs.Tables.{no_process, Semaphore, no_semaphore, Tables, process_at, state_at, message_at, semaphore_at, move_to, Nowhere, InReady}
use Rattle.table_laws.proofs.Tables.Scheduling.{holds_at, inside_last_process, sound_move, sound_ready, sound_resched}
use Rattle.table_laws.proofs.Tables.MoveTo.{by_number, state_move_same, state_move_other}
use Rattle.table_laws.proofs.Tables.Harts.{harts_set, harts_of_none}
use Rattle.table_laws.proofs.Tables.Unused.{unused_made}
use Rattle.xinu_model.specs.Sound.State.{AreHarts, AreUnused}

-- in a table of one thing each place holds it
pub same_everywhere : {A : Type 0} (n p : ℕ) (x : A) → get_or (replicate n x) p x ≡ x
same_everywhere n p x = ⊎_elim (λ (h : p < n). get_or-replicate n p x x h)
    (λ (h : n ≤ p). get_or_past (replicate n x) p x (let e = length-replicate n x in omega arith)) (cases_lt p n)

-- only the null process isn't free at first
null_process_at : (p : ℕ) → process_at null_tables (suc p) ≡ no_process
null_process_at p = same_everywhere 63 p no_process

-- so each other number is free
null_states : (p : ℕ) → state_at null_tables (suc p) ≡ Free
null_states p = ap (λ (x : Process). x.state) (null_process_at p)

-- at first no process is in the ready list
null_ready_places : (p : ℕ) → 0 ≡ ready_places (state_at null_tables p)
null_ready_places zero = refl
null_ready_places (suc p) = sym (ap ready_places (null_states p))

-- nobody waits
null_waiting_places : (p : ℕ) → 0 ≡ waiting_places (state_at null_tables p)
null_waiting_places zero = refl
null_waiting_places (suc p) = sym (ap waiting_places (null_states p))

-- nobody sleeps
null_sleeping_places : (p : ℕ) → 0 ≡ sleeping_places (state_at null_tables p)
null_sleeping_places zero = refl
null_sleeping_places (suc p) = sym (ap sleeping_places (null_states p))

-- at first the null process is current
null_current : (p : ℕ) → state_at null_tables p ≡ Current → p ≡ 0
null_current zero e = refl
null_current (suc p) e = let f = null_states p in cc

-- at first nobody waits for a message
null_slots : (p : ℕ) → FitsMessage (state_at null_tables p) (process_at null_tables p).rest (message_at null_tables p)
null_slots zero = tt
null_slots (suc p) = subst (λ (x : Process). FitsMessage x.state x.rest (message_at null_tables (suc p))) (sym (null_process_at p)) tt

-- at first a free entry holds its fixed value
null_free : (p : ℕ) → IsFixed (process_at null_tables p) (message_at null_tables p)
null_free zero = λ e. absurd (cc)
null_free (suc p) = λ e. (null_process_at p, same_everywhere 64 (suc p) None)

-- the number of semaphores at first
first_many : length first_semaphores ≡ 128
unfolding first_semaphores
first_many = refl

-- nobody waits on one
first_waits : (p : ℕ) → waits_of p first_semaphores ≡ 0
unfolding first_semaphores
first_waits p = refl

-- what holds of the kernel's four semaphores and of all free ones holds of all at first
by_first : (P : ℕ → Semaphore → Type 0) → P 0 (device_semaphore 0) → P 1 (device_semaphore 64) → P 2 (device_semaphore 0)
    → P 3 (device_semaphore 0) → ((sem : ℕ) → P (suc (suc (suc (suc sem)))) no_semaphore) → (sem : ℕ)
    → P sem (get_or first_semaphores sem no_semaphore)
unfolding first_semaphores
by_first P a b c d free zero = a
by_first P a b c d free (suc zero) = b
by_first P a b c d free (suc (suc zero)) = c
by_first P a b c d free (suc (suc (suc zero))) = d
by_first P a b c d free (suc (suc (suc (suc sem)))) =
    subst (P (suc (suc (suc (suc sem))))) (sym (same_everywhere 124 sem no_semaphore)) (free sem)

-- who waits at first: nobody
first_rests : (sem p : ℕ) → 0 < count_in p (semaphore_at null_tables sem).waiters
    → FitsOwner sem (semaphore_at null_tables sem).owner (process_at null_tables p).rest
first_rests sem p =
    let P : ℕ → Semaphore → Type 0 = λ r x. 0 < count_in p x.waiters → FitsOwner r x.owner (process_at null_tables p).rest in
    by_first P (λ h. absurd (omega arith)) (λ h. absurd (omega arith)) (λ h. absurd (omega arith)) (λ h. absurd (omega arith))
    (λ r h. absurd (omega arith)) sem

-- What holds of the tables at each moment holds of those with the null process alone.
pub inside_null : IsInside null_tables
inside_null = record {
  processes = refl;
  messages = refl;
  semaphores = first_many;
  ready = null_ready_places;
  waiting = λ p. first_waits p ∙ null_waiting_places p;
  sleeping = null_sleeping_places;
  one_current = null_current;
  null = inl refl;
  null_rest = refl;
  falling = tt;
  keys = tt;
  rising = tt;
  later = tt;
  one_kind = by_first (λ s x. HasOneKind x) (inr refl) (inr refl) (inr refl) (inr refl) (λ s. inr refl);
  rests = first_rests;
  slots = null_slots;
  devices = by_first (λ s x. s < 4 → x.owner ≡ Some Device) (λ h. refl) (λ h. refl) (λ h. refl) (λ h. refl) (λ s h. absurd (omega arith));
  no_devices = by_first (λ s x. x.owner ≡ Some Device → s < 4) (λ e. omega arith) (λ e. omega arith) (λ e. omega arith) (λ e. omega arith) (λ s e. cc);
  free = null_free;
  unused = by_first (λ s x. IsUnused x) (λ e. absurd (cc)) (λ e. absurd (cc)) (λ e. absurd (cc)) (λ e. absurd (cc)) (λ s e. refl);
}

-- What holds while the images' processes are made, of which those below i are: they are suspended, and the null process runs.
pub record AreMade (i : ℕ) (s : Xinu) : Type 0 where
  pub tables : IsSoundTables s.tables
  pub current : s.tables.current ≡ 0
  pub harts : AreHarts s.harts
  pub unused : AreUnused s.tables s.harts
  pub suspended : (j : ℕ) → 0 < j → j < i → state_at s.tables j ≡ Suspended

-- none is at first
pub none_made : (images : List Loaded) → AreMade 1 (loaded_machine images)
none_made images = record { tables = record { inside = inside_null; runs = refl }; current = refl; harts = record { many = refl; zero = λ p. harts_of_none p 64 }; unused = λ p h. same_everywhere 64 p no_hart; suspended = λ j z h. absurd (omega arith) }

-- the process of the next image is made
next_made : (i : ℕ) (image : Loaded) (stack : Stack) (s : Xinu) → AreMade i s → 0 < i → i < 64
    → AreMade (i + 1) (with_image i image stack s)
next_made i image stack s m z w =
    let t = s.tables in
    let x = image_process i image stack.top in
    let e = m.current in
    let c : CanMove t i x None Nowhere = record { within = w; place_of = (refl, refl, refl); if_current = λ f. cc; if_null = λ f. absurd (omega arith); fits = tt; slot = tt; if_free = λ f. absurd (cc) } in
    let k = sound_move t i x None Nowhere m.tables (λ f. omega arith) c in
    record {
      tables = record { inside = inside_last_process (move_to i x None Nowhere t) i k.inside; runs = k.runs };
      current = e;
      harts = harts_set s.harts i (new_hart image.entry stack.top 0 0) refl m.harts;
      unused = unused_made t s.harts i x (new_hart image.entry stack.top 0 0) m.tables.inside.processes w refl m.unused;
      suspended = λ j zero_less h. by_number j i (λ r. r ≡ j → state_at (move_to i x None Nowhere t) r ≡ Suspended)
          (λ _. state_move_same t i x None Nowhere m.tables.inside.processes w)
          (λ n _. state_move_other t j i x None Nowhere n ∙ m.suspended j zero_less (omega arith)) refl;
    }

-- if a start so far goes on to boot, it is in a state from which it does
pub boots_from : (so_far : Start) (next : Xinu → Start) (x : Xinu) → and_then so_far next ≡ Boots x
    → (s : Xinu) × (so_far ≡ Boots s) × (next s ≡ Boots x)
boots_from (Boots s) next x e = (s, refl, e)
boots_from (Overlaps i) next x e = cc
boots_from (NoRoom i) next x e = cc

-- if the next is made a stack was found
pub made_on_stack : (found : Option Stack) (i : ℕ) (image : Loaded) (s y : Xinu) → where_stack found i image s ≡ Boots y
    → (stack : Stack) × (with_image i image stack s ≡ y)
made_on_stack None i image s y e = cc
made_on_stack (Some stack) i image s y e = (stack, cc)

-- all are made, one after another
pub all_are_made : (images : List Loaded) (i : ℕ) (s x : Xinu) → AreMade i s → 0 < i → i + length images ≤ 64
    → all_made i images s ≡ Boots x → AreMade (i + length images) x
all_are_made [] i s x m z w e = let f : s ≡ x = cc in let g : i ≡ i + 0 = omega arith in subst (λ k. AreMade k x) g (subst (AreMade i) f m)
all_are_made (image ∷ images) i s x m z w e =
    let b = boots_from (where_stack (take_stack (stack_size image.stack) s.parts.heap) i image s) (λ y. all_made (i + 1) images y) x e in
    let on = made_on_stack (take_stack (stack_size image.stack) s.parts.heap) i image s b.0 b.1 in
    let g : i + 1 + length images ≡ i + suc (length images) = omega arith in
    subst (λ k. AreMade k x) g
    (all_are_made images (i + 1) b.0 x (subst (AreMade (i + 1)) on.1 (next_made i image on.0 s m z (omega arith))) (omega arith)
    (omega arith) b.2)

-- who is suspended can become ready
can_be_ready_suspended : (t : Tables) (p : ℕ) → IsInside t → state_at t p ≡ Suspended → CanBeReady t p
can_be_ready_suspended t p o e = record { alive = λ f. cc; idle = λ f. cc; holds = holds_at t p o (λ f. cc) }

-- the processes of the images become ready
pub sound_all_ready : (images : List Loaded) (i : ℕ) (t : Tables) → IsSoundTables t
    → ((j : ℕ) → i ≤ j → j < i + length images → state_at t j ≡ Suspended) → IsSoundTables (all_ready i images t)
sound_all_ready [] i t k all = k
sound_all_ready (image ∷ images) i t k all =
    sound_all_ready images (i + 1) (ready i t) (sound_ready t i k (can_be_ready_suspended t i k.inside (all i (omega arith) (omega arith))))
    (λ j low high. state_move_other t j i (in_state Ready (process_at t i)) (message_at t i) InReady (λ f. absurd (omega arith))
    ∙ all j (omega arith) (omega arith))

-- The machine starts with sound tables, and with registers for each number.
pub record StartsSound (start : Xinu) : Type 0 where
  pub tables : IsSoundTables start.tables
  pub harts : AreHarts start.harts

-- If the processes are made the machine starts so.
sound_wakeup : (images : List Loaded) (s : Xinu) → length images < 64 → AreMade (1 + length images) s → StartsSound (all_started images s)
sound_wakeup images s few m = record {
  tables = sound_resched (all_ready 1 images s.tables) (sound_all_ready images 1 s.tables m.tables (λ j low high. m.suspended j (omega arith) high)).inside;
  harts = m.harts;
}

-- If the machine starts it starts so.
sound_unless_overlap : (overlap : Option ℕ) (images : List Loaded) (start : Xinu) → length images < 64
    → unless_overlap overlap images ≡ Boots start → StartsSound start
sound_unless_overlap (Some i) images start few e = cc
sound_unless_overlap None images start few e =
    let b = boots_from (all_made 1 images (loaded_machine images)) (λ s. Boots (all_started images s)) start e in
    let f : all_started images b.0 ≡ start = cc in
    subst StartsSound f (sound_wakeup images b.0 few
    (all_are_made images 1 (loaded_machine images) b.0 (none_made images) (omega arith) (omega arith) b.1))

-- If the machine starts with fewer than 64 images, it starts with sound tables.
pub sound_start : (images : List Loaded) (start : Xinu) → length images < 64 → boot images ≡ Boots start → StartsSound start
sound_start images start few e = sound_unless_overlap (first_overlap 1 [] images) images start few e
