-- The machine starts with the programs of a system: they run.
use Rattle.std.proofs.Common.{List, None, Option, Some, [], ap, arith, false, get_or, inl, inr, length, refl, set, subst, suc, sym, zero, ℕ, ⊎_elim, ◌+◌, ◌<◌, ◌∙◌, ◌∷◌, ◌≡◌, ◌≢◌, ◌≤◌, ◌⊎◌}
use Rattle.std.proofs.Math.ListN.{length-set}
use Rattle.std.proofs.lemmas.List.{get_or-set_other, get_or-set_same, length-replicate}
use Rattle.part_laws.specs.GivenDisks.{AreSoundDisks}
use Rattle.table_laws.proofs.Frame.MoveTo.{owner_move}
use Rattle.table_laws.proofs.Tables.MoveTo.{by_number, process_move_other, process_move_same}
use Rattle.table_laws.proofs.Tables.Starts.{all_are_made, boots_from, made_on_stack, none_made, same_everywhere, sound_all_ready}
use Rattle.xinu_base.specs.declared.processes.Process.{Process}
use Rattle.xinu_base.specs.declared.processes.Rest.TheVariants.{Nothing}
use Rattle.xinu_base.specs.declared.processes.State.TheVariants.{Free, Ready}
use Rattle.xinu_base.specs.declared.registers.Hart.{Hart}
use Rattle.xinu_laws.proofs.Preserve.Disks.{sound_boot_on}
use Rattle.xinu_model.specs.Boot.{Boots, Disks, Loaded, all_made, all_ready, all_started, boot, boot_on, first_overlap, first_semaphores, image_process, loaded_machine, null_tables, on_disks, unless_overlap, where_stack, with_image, with_images}
use Rattle.xinu_model.specs.Heap.Cells.{Stack, take_stack}
use Rattle.xinu_model.specs.Machine.{Xinu, no_hart}
use Rattle.xinu_model.specs.Memory.{number_at, zeros}
use Rattle.xinu_model.specs.Process.Creation.{new_hart, stack_size}
use Rattle.xinu_model.specs.Process.Scheduling.{in_state, ready, resched}
use Rattle.xinu_model.specs.Sound.Tables.{CanRun, IsInside}
use Rattle.xinu_model.specs.Tables.{InReady, Nowhere, Semaphore, Tables, message_at, no_process, process_at, semaphore_at, state_at}
use Rattle.program_logic.proofs.Threads.{free_kept}
use Rattle.program_logic.proofs.Turns.{Turned, turns_resched}
use Rattle.program_logic.specs.Images.{Lie}
use Rattle.program_logic.specs.Obeying.{IsSystem}
use Rattle.program_logic.specs.Outlines.{At, EachOf, Rule, System, words_of}
use Rattle.program_logic.specs.Running.{AreRunning, IsThread, Runs}

-- each image begins at the first word of its program
abbrev pub BeginAt : (ℕ → ℕ) → ℕ → List Loaded → Type 0
BeginAt first i [] = Unit {0}
BeginAt first i (image ∷ images) = (image.entry ≡ first i) × BeginAt first (i + 1) images

-- What there is once the processes of the images below number i are made.
record AreNew (first : ℕ → ℕ) (memory : List ℕ) (i : ℕ) (s : Xinu) : Type 0 where
  processes : length s.tables.processes ≡ 64
  registers : length s.harts ≡ 64
  rests : (p : ℕ) → (process_at s.tables p).rest ≡ Nothing
  free : (p : ℕ) → i ≤ p → state_at s.tables p ≡ Free
  harts : (p : ℕ) → 1 ≤ p → p < i → (top : ℕ) × (get_or s.harts p no_hart ≡ new_hart (first p) top 0 0)
  ram : s.memory ≡ memory
  owners : (sem : ℕ) → (semaphore_at s.tables sem).owner ≡ (semaphore_at null_tables sem).owner
  last : s.tables.last_semaphore ≡ 3

first_new : (first : ℕ → ℕ) (images : List Loaded) → AreNew first (with_images images zeros) 1 (loaded_machine images)
first_new first images = record {
  processes = ap suc (length-replicate {A = Process} 63 no_process);
  registers = length-replicate {A = Hart} 64 no_hart;
  rests = rests;
  free = free;
  harts = λ p some few. absurd (omega arith);
  ram = refl;
  owners = λ sem. refl;
  last = refl;
}
  where
    rests : (p : ℕ) → (process_at null_tables p).rest ≡ Nothing
    rests zero = refl
    rests (suc p) = ap (λ (x : Process). x.rest) (same_everywhere 63 p no_process)

    free : (p : ℕ) → 1 ≤ p → state_at null_tables p ≡ Free
    free zero some = absurd (omega arith)
    free (suc p) some = ap (λ (x : Process). x.state) (same_everywhere 63 p no_process)

next_new : (first : ℕ → ℕ) (memory : List ℕ) (i : ℕ) (image : Loaded) (stack : Stack) (s : Xinu) → AreNew first memory i s → 1 ≤ i → i < 64
    → image.entry ≡ first i → AreNew first memory (i + 1) (with_image i image stack s)
next_new first memory i image stack s k some few is =
    let t = s.tables in
    let x = image_process i image stack.top in
    let h = new_hart image.entry stack.top 0 0 in
    record {
      processes = length-set t.processes i x ∙ k.processes;
      registers = length-set s.harts i h ∙ k.registers;
      rests = λ p. by_number p i (λ r. (get_or (set t.processes i x) r no_process).rest ≡ Nothing)
          (ap (λ (y : Process). y.rest) (process_move_same t i x None Nowhere k.processes few))
          (λ other. ap (λ (y : Process). y.rest) (process_move_other t p i x None Nowhere other) ∙ k.rests p);
      free = λ p more. ap (λ (y : Process). y.state) (process_move_other t p i x None Nowhere (λ e. absurd (omega arith))) ∙ k.free p (omega arith);
      harts = λ p a b. by_number p i (λ r. (top : ℕ) × (get_or (set s.harts i h) r no_hart ≡ new_hart (first r) top 0 0))
          (stack.top, get_or-set_same s.harts i h no_hart (let m = k.registers in omega arith) ∙ ap (λ e. new_hart e stack.top 0 0) is)
          (λ other. let old = k.harts p a (omega (arith, other)) in (old.0, get_or-set_other s.harts i p h no_hart other ∙ old.1));
      ram = k.ram;
      owners = λ sem. owner_move t i x None Nowhere sem ∙ k.owners sem;
      last = k.last;
    }

all_new : (first : ℕ → ℕ) (memory : List ℕ) (images : List Loaded) (i : ℕ) (s x : Xinu) → AreNew first memory i s → 1 ≤ i → i + length images ≤ 64
    → BeginAt first i images → all_made i images s ≡ Boots x → AreNew first memory (i + length images) x
all_new first memory [] i s x k some few begin e =
    let f : s ≡ x = cc in let g : i ≡ i + 0 = omega arith in subst (λ j. AreNew first memory j x) g (subst (AreNew first memory i) f k)
all_new first memory (image ∷ images) i s x k some few begin e =
    let b = boots_from (where_stack (take_stack (stack_size image.stack) s.parts.heap) i image s) (λ y. all_made (i + 1) images y) x e in
    let on = made_on_stack (take_stack (stack_size image.stack) s.parts.heap) i image s b.0 b.1 in
    let g : i + 1 + length images ≡ i + suc (length images) = omega arith in
    subst (λ j. AreNew first memory j x) g
    (all_new first memory images (i + 1) b.0 x (subst (AreNew first memory (i + 1)) on.1 (next_new first memory i image on.0 s k some (omega arith) begin.0))
    (omega arith) (omega arith) begin.1 b.2)

-- the n processes from number i on become ready
record AreReady (i n : ℕ) (t u : Tables) : Type 0 where
  rests : (p : ℕ) → (process_at u p).rest ≡ (process_at t p).rest
  same : (p : ℕ) → (p < i) ⊎ (i + n ≤ p) → process_at u p ≡ process_at t p
  now : (p : ℕ) → i ≤ p → p < i + n → state_at u p ≡ Ready
  owners : (sem : ℕ) → (semaphore_at u sem).owner ≡ (semaphore_at t sem).owner
  last : u.last_semaphore ≡ t.last_semaphore

all_readied : (images : List Loaded) (i : ℕ) (t : Tables) → length t.processes ≡ 64 → i + length images ≤ 64 → AreReady i (length images) t (all_ready i images t)
all_readied [] i t many few =
    record { rests = λ p. refl; same = λ p out. refl; now = λ p a b. absurd (omega arith); owners = λ sem. refl; last = refl }
all_readied (image ∷ images) i t many few =
    let x = in_state Ready (process_at t i) in
    let u = ready i t in
    let r = all_readied images (i + 1) u (length-set t.processes i x ∙ many) (omega arith) in
    let own = process_move_same t i x (message_at t i) InReady many (omega arith) in
    let others : (p : ℕ) → p ≢ i → process_at u p ≡ process_at t p = λ p other. process_move_other t p i x (message_at t i) InReady other in
    record {
      rests = λ p. r.rests p ∙ by_number p i (λ q. (process_at u q).rest ≡ (process_at t q).rest) (ap (λ (y : Process). y.rest) own)
          (λ other. ap (λ (y : Process). y.rest) (others p other));
      same = λ p out. r.same p (wider p i (length images) out) ∙ others p (apart p i (length images) out);
      now = λ p a b. by_number p i (λ q. state_at (all_ready (i + 1) images u) q ≡ Ready)
          (ap (λ (y : Process). y.state) (r.same i (inl (omega arith)) ∙ own))
          (λ other. r.now p (omega (arith, other)) (omega arith));
      owners = λ sem. r.owners sem ∙ owner_move t i x (message_at t i) InReady sem;
      last = r.last;
    }
  where
    wider : (p i n : ℕ) → (p < i) ⊎ (i + suc n ≤ p) → (p < i + 1) ⊎ (i + 1 + n ≤ p)
    wider p i n (inl a) = inl (omega arith)
    wider p i n (inr a) = inr (omega arith)

    apart : (p i n : ℕ) → (p < i) ⊎ (i + suc n ≤ p) → p ≢ i
    apart p i n (inl a) = λ e. absurd (omega arith)
    apart p i n (inr a) = λ e. absurd (omega arith)

-- no semaphore but the kernel's has an owner at first
fourth_is_free : (semaphore_at null_tables 4).owner ≡ None
unfolding first_semaphores
fourth_is_free = refl

-- Who is ready can run after a resched.
ready_can : (x y : Process) → Turned x y → x.state ≡ Ready → CanRun y.state
ready_can x y turned is = ⊎_elim (λ (e : y.state ≡ x.state). inr (e ∙ is)) (λ (d : CanRun x.state × CanRun y.state). d.1) turned.state

started : (y : System) (disks : Disks) (images : List Loaded) (s : Xinu) → IsSystem y → length images ≡ y.many → y.sem ≡ 4
    → AreNew y.first (with_images images zeros) (1 + length images) s → IsInside (all_ready 1 images s.tables)
    → EachOf y.many (λ p. Lie (with_images images zeros) (y.first p) (words_of (y.code p))) → Rule y 0 (number_at (with_images images zeros) y.word 4)
    → EachOf y.many (λ p. (top : ℕ) → At y p false 0 0 0 (new_hart (y.first p) top 0 0).regs) → AreRunning y None 0 (on_disks disks (all_started images s))
started y disks images s ok all fourth k o lie rule begin =
    let t = s.tables in
    let r = all_ready 1 images t in
    let u = resched r in
    let few : 1 + length images ≤ 64 = (let a = ok.few in omega arith) in
    let ready_ = all_readied images 1 t k.processes few in
    let turns = turns_resched r o in
    let memory = with_images images zeros in
    record {
      threads = λ p a b. (
          let h = k.harts p a (omega arith) in
          let turned = turns.entries p in
          subst (IsThread y None 0 (number_at s.memory y.word 4) u p) (sym h.1)
          (record {
            place = 0;
            pc = omega arith;
            regs = refl;
            rest = turned.rest ∙ ready_.rests p ∙ k.rests p;
            stands = inl (ready_can (process_at r p) (process_at u p) turned (ready_.now p a (omega arith)), begin p a b h.0);
          }));
      others = λ p more. free_kept (process_at r p) (process_at u p) (turns.entries p)
          (ap (λ (x : Process). x.state) (ready_.same p (inr (omega arith))) ∙ k.free p (omega arith));
      lock = inr (record {
        free = ap (λ (x : Semaphore). x.owner) (turns.semaphores y.sem ok.no_device) ∙ ready_.owners y.sem ∙ k.owners y.sem
            ∙ subst (λ i. (semaphore_at null_tables i).owner ≡ None) (sym fourth) fourth_is_free;
        next = ap (λ i. i + 1) (turns.last ∙ ready_.last ∙ k.last) ∙ sym fourth;
        nobody = refl;
        rule = subst (λ m. Rule y 0 (number_at m y.word 4)) (sym k.ram) rule;
      });
      loaded = λ p a b. subst (λ m. Lie m (y.first p) (words_of (y.code p))) (sym k.ram) (lie p a b);
      disk = refl;
      files = refl;
    }

same_state : (u r : Xinu) → Boots u ≡ Boots r → u ≡ r
same_state u r is = cc

-- A machine that starts with the programs of a system runs them: the token was never given back yet.
pub boots_running : (y : System) (disks : Disks) (images : List Loaded) (start : Xinu) → IsSystem y → AreSoundDisks disks → length images ≡ y.many → y.sem ≡ 4
    → BeginAt y.first 1 images → EachOf y.many (λ p. Lie (with_images images zeros) (y.first p) (words_of (y.code p)))
    → Rule y 0 (number_at (with_images images zeros) y.word 4)
    → EachOf y.many (λ p. (top : ℕ) → At y p false 0 0 0 (new_hart (y.first p) top 0 0).regs) → boot_on disks images ≡ Boots start → Runs y None 0 start
boots_running y disks images start ok sound all fourth begin lie rule at is =
    let few = ok.few in
    let first = boots_from (boot images) (λ s. Boots (on_disks disks s)) start is in
    record {
      sound = sound_boot_on disks images start (omega arith) sound is;
      running = subst (AreRunning y None 0) (same_state (on_disks disks first.0) start first.2) (by_overlap (first_overlap 1 [] images) first.0 first.1);
    }
  where
    by_overlap : (o : Option ℕ) (s : Xinu) → unless_overlap o images ≡ Boots s → AreRunning y None 0 (on_disks disks s)
    by_overlap (Some i) s is = absurd (cc)
    by_overlap None s is =
        let few = ok.few in
        let m = boots_from (all_made 1 images (loaded_machine images)) (λ s. Boots (all_started images s)) s is in
        let k = all_new y.first (with_images images zeros) images 1 (loaded_machine images) m.0 (first_new y.first images) (omega arith) (omega arith) begin m.1 in
        let made = all_are_made images 1 (loaded_machine images) m.0 (none_made images) (omega arith) (omega arith) m.1 in
        let tables = sound_all_ready images 1 m.0.tables made.tables (λ j low high. made.suspended j (omega arith) high) in
        subst (λ x. AreRunning y None 0 (on_disks disks x)) (same_state (all_started images m.0) s m.2)
        (started y disks images m.0 ok all fourth k tables.inside lie rule at)
