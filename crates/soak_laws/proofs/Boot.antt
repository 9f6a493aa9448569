-- The processes of four programs are made, and become ready.
use Rattle.std.proofs.Common.{◌≡◌, ◌≢◌, ◌∙◌, ℕ, zero, suc, ◌+◌, ◌-◌, ◌*◌, ◌≤◌, ◌<◌, ◌==◌, Bool, true, false, not, ℤ, List, [], ◌∷◌, length, replicate, set, get_or, Option, Some, None, refl, sym, ap, subst, arith}
use Rattle.std.specs.Prelude.{nat_lt}
use Rattle.std.proofs.lemmas.Bool.{cond_both, ltb-true, ltb-false}
use Rattle.std.proofs.lemmas.List.{length-replicate}
use Rattle.std.proofs.Math.ListN.{length-set}
use Rattle.soak_laws.specs.Code.{IsLoaded, IsWithin}
use Rattle.soak_laws.specs.Four.{AreFew, AreFour, HaveFew, IsEntry, MayBeLeft}
use Rattle.soak_laws.specs.Running.{EachProgram, AreRunning, LiesAbove, first_of}
use Rattle.soak_laws.proofs.Lists.{all_filter}
use Rattle.soak_laws.proofs.Tables.{made_ready, rescheduled, without_waiter}
use Rattle.xinu_base.specs.declared.processes.Process.{Process}
use Rattle.xinu_base.specs.declared.registers.Hart.{Hart}
use Rattle.xinu_model.specs.Boot.{Boots, Disks, Loaded, NoRoom, Overlaps, Start, all_made, all_ready, all_started, and_then, boot, boot_on, first_overlap, first_semaphores, fresh_heap, image_process, loaded_machine, null_tables, on_disks, unless_overlap, where_stack, with_image}
use Rattle.xinu_model.specs.Heap.Cells.{Heap, Stack, cells_for, highest_free, marked, stack_at, take_stack}
use Rattle.xinu_model.specs.Machine.{Xinu, no_hart}
use Rattle.xinu_model.specs.Pools.Buffers.{pool_at}
use Rattle.xinu_model.specs.Process.Creation.{new_hart, stack_size}
use Rattle.xinu_model.specs.Process.Scheduling.{ready}
use Rattle.xinu_model.specs.Tables.{Semaphore, Tables, is_free, no_process, no_semaphore, process_at, semaphore_at}

-- ---- lists

-- what holds of the elements but of one holds of all once that is written
each_but : {A : Type 0} (P : ℕ → A → Type 0) (l : List A) (p : ℕ) (x d : A) → ((q : ℕ) → q ≢ p → P q (get_or l q d)) → P p x → p < length l
    → (q : ℕ) → P q (get_or (set l p x) q d)
each_but P [] p x d others one within q = absurd (omega arith)
each_but P (y ∷ l) zero x d others one within zero = one
each_but P (y ∷ l) zero x d others one within (suc q) = others (suc q) (omega arith)
each_but P (y ∷ l) (suc p) x d others one within zero = others zero (omega arith)
each_but P (y ∷ l) (suc p) x d others one within (suc q) =
    each_but (λ k. P (suc k)) l p x d (λ k other. others (suc k) (omega (arith, other))) one (omega arith) q

-- an element of many that are the same
same_all : {A : Type 0} (n q : ℕ) (x : A) → get_or (replicate n x) q x ≡ x
same_all zero q x = refl
same_all (suc n) zero x = refl
same_all (suc n) (suc q) x = same_all n q x

-- ---- processes that are made one after another

-- An entry once those below number i are made.
record IsStarted (i p : ℕ) (x : Process) : Type 0 where
  alive : p < i → is_free x.state ≡ false
  free : 4 < p → is_free x.state ≡ true
  left : MayBeLeft x.rest

-- Programs are loaded, and the processes of those below number i are made.
record AreMade (words : ℕ → List ℕ) (i : ℕ) (s : Xinu) : Type 0 where
  many : length s.tables.processes ≡ 64
  entries : (p : ℕ) → IsStarted i p (process_at s.tables p)
  current : s.tables.current ≤ 4
  ready : HaveFew s.tables.ready
  waiters : (sem : ℕ) → AreFew (semaphore_at s.tables sem).waiters
  sleepers : HaveFew s.tables.sleepers
  registers : length s.harts ≡ 64
  harts : (p : ℕ) → 1 ≤ p → p < i → IsWithin (first_of p) (words p) (get_or s.harts p no_hart)
  loaded : EachProgram (λ p. IsLoaded (first_of p) (words p) s.parts.heap.low s.memory)
  pools : s.parts.pools ≡ []

-- registers of a new process are at the first word of its program
new_within : (words : List ℕ) (low : ℕ) (memory : List ℕ) (first entry top : ℕ) → IsLoaded first words low memory → entry ≡ first
    → IsWithin first words (new_hart entry top 0 0)
new_within words low memory first entry top k is = record {
  place = 0;
  ready = false;
  pc = omega arith;
  regs = refl;
  code = k.code;
  number = tt;
}

one_made : (words : ℕ → List ℕ) (i top : ℕ) (cells : List Bool) (image : Loaded) (s : Xinu) → AreMade words i s → 1 ≤ i → i ≤ 4 → image.entry ≡ first_of i
    → AreMade words (i + 1) (with_image i image (record { top = top; heap = record s.parts.heap { cells = cells } }) s)
one_made words i top cells image s k some few is =
    let t = s.tables in
    let x = image_process i image top in
    record {
      many = length-set t.processes i x ∙ k.many;
      entries = each_but (IsStarted (i + 1)) t.processes i x no_process
          (λ q other. record { alive = λ less. (k.entries q).alive (omega (arith, other)); free = (k.entries q).free; left = (k.entries q).left })
          (record { alive = λ less. refl; free = λ more. absurd (omega arith); left = tt }) (omega (arith, k.many));
      current = k.current;
      ready = all_filter (λ (e : ℕ × ℤ). e.0 ≤ 4) (λ e. not (e.0 == i)) t.ready k.ready;
      waiters = without_waiter i t.semaphores k.waiters;
      sleepers = all_filter (λ (e : ℕ × ℕ). e.0 ≤ 4) (λ e. not (e.0 == i)) t.sleepers k.sleepers;
      registers = length-set s.harts i (new_hart image.entry top 0 0) ∙ k.registers;
      harts = each_but (λ p h. 1 ≤ p → p < i + 1 → IsWithin (first_of p) (words p) h) s.harts i (new_hart image.entry top 0 0) no_hart
          (λ q other a b. k.harts q a (omega (arith, other)))
          (λ a b. new_within (words i) s.parts.heap.low s.memory (first_of i) image.entry top (k.loaded i some few) is) (omega (arith, k.registers));
      loaded = k.loaded;
      pools = k.pools;
    }

-- what holds of no stack, and of each that a heap gives
stacks : (P : Option Stack → Type 0) (n : ℕ) (h : Heap) → P None
    → ((top : ℕ) (cells : List Bool) → P (Some (record { top = top; heap = record h { cells = cells } }))) → P (take_stack n h)
stacks P n h none some =
    cond_both (n == 0) None (stack_at h (cells_for n) (highest_free (cells_for n) h.cells)) P (λ _. none) (λ _. by_place (highest_free (cells_for n) h.cells))
  where
    by_place : (found : Option ℕ) → P (stack_at h (cells_for n) found)
    by_place None = none
    by_place (Some place) = some (h.low + 8 * (place + cells_for n) - 4) (marked false place (cells_for n) h.cells)

-- a start that boots came from one that did
booted : (x : Start) (next : Xinu → Start) (r : Xinu) → and_then x next ≡ Boots r → (u : Xinu) × ((x ≡ Boots u) × (next u ≡ Boots r))
booted (Boots u) next r is = (u, (refl, is))
booted (Overlaps i) next r is = absurd (cc)
booted (NoRoom i) next r is = absurd (cc)

same_state : (u r : Xinu) → Boots u ≡ Boots r → u ≡ r
same_state u r is = cc

-- each image begins at the first word of its program
abbrev pub BeginAt : ℕ → List Loaded → Type 0
BeginAt i [] = Unit {0}
BeginAt i (image ∷ images) = (image.entry ≡ first_of i) × BeginAt (i + 1) images

made_on : (words : ℕ → List ℕ) (i : ℕ) (images : List Loaded) (s r : Xinu) → AreMade words i s → 1 ≤ i → i + length images ≤ 5 → BeginAt i images
    → all_made i images s ≡ Boots r → AreMade words (i + length images) r
made_on words i [] s r k some few begin is =
    let last : i ≡ i + 0 = omega arith in
    subst (λ j. AreMade words j r) last (subst (AreMade words i) (same_state s r is) k)
made_on words i (image ∷ images) s r k some few begin is =
    let next = booted (where_stack (take_stack (stack_size image.stack) s.parts.heap) i image s) (λ x. all_made (i + 1) images x) r is in
    let u = next.0 in
    let made : AreMade words (i + 1) u =
    stacks (λ found. where_stack found i image s ≡ Boots u → AreMade words (i + 1) u) (stack_size image.stack) s.parts.heap (λ e. absurd (cc))
    (λ top cells e. subst (AreMade words (i + 1)) (same_state _ u e) (one_made words i top cells image s k some (omega arith) begin.0)) next.1.0 in
    let last : i + 1 + length images ≡ i + suc (length images) = omega arith in
    subst (λ j. AreMade words j r) last (made_on words (i + 1) images u r made (omega arith) (omega arith) begin.1 next.1.1)

-- ---- the start

-- no semaphore has waiters at first
none_wait : (sem : ℕ) → AreFew (get_or first_semaphores sem no_semaphore).waiters
unfolding first_semaphores
none_wait zero = tt
none_wait (suc zero) = tt
none_wait (suc (suc zero)) = tt
none_wait (suc (suc (suc zero))) = tt
none_wait (suc (suc (suc (suc sem)))) = subst (λ (x : Semaphore). AreFew x.waiters) (sym (same_all 124 sem no_semaphore)) tt

-- the null process alone is alive at first
null_alone : (p : ℕ) → IsStarted 1 p (process_at null_tables p)
null_alone zero = record { alive = λ less. refl; free = λ more. absurd (omega arith); left = tt }
null_alone (suc p) =
    subst (IsStarted 1 (suc p)) (sym (same_all 63 p no_process)) (record { alive = λ less. absurd (omega arith); free = λ more. refl; left = tt })

first_made : (words : ℕ → List ℕ) (images : List Loaded) → EachProgram (λ p. IsLoaded (first_of p) (words p) (fresh_heap images).low (loaded_machine images).memory)
    → AreMade words 1 (loaded_machine images)
first_made words images loaded = record {
  many = ap suc (length-replicate {A = Process} 63 no_process);
  entries = null_alone;
  current = omega arith;
  ready = tt;
  waiters = none_wait;
  sleepers = tt;
  registers = length-replicate {A = Hart} 64 no_hart;
  harts = λ p some few. absurd (omega arith);
  loaded = loaded;
  pools = refl;
}

-- ---- the end of the start

all_four : (words : ℕ → List ℕ) (s : Xinu) → AreMade words 5 s → AreFour s.tables
all_four words s k = record { entries = each; current = k.current; ready = k.ready; waiters = k.waiters; sleepers = k.sleepers }
  where
    by_test : (p : ℕ) (b : Bool) → nat_lt 4 p ≡ b → IsStarted 5 p (process_at s.tables p) → is_free (process_at s.tables p).state ≡ b
    by_test p true is k = k.free (ltb-true 4 p is)
    by_test p false is k = let few = ltb-false 4 p is in k.alive (omega arith)

    each : (p : ℕ) → IsEntry p (process_at s.tables p)
    each p = record { lives = by_test p (nat_lt 4 p) refl (k.entries p); left = (k.entries p).left }

all_readied : (i : ℕ) (images : List Loaded) (t : Tables) → AreFour t → i + length images ≤ 5 → AreFour (all_ready i images t)
all_readied i [] t four few = four
all_readied i (image ∷ images) t four few = all_readied (i + 1) images (ready i t) (made_ready i t four (omega arith)) (omega arith)

started : (words : ℕ → List ℕ) (disks : Disks) (images : List Loaded) (s : Xinu) → AreMade words 5 s → length images ≡ 4
    → AreRunning words (on_disks disks (all_started images s))
started words disks images s k four = record {
  tables = rescheduled (all_ready 1 images s.tables) (all_readied 1 images s.tables (all_four words s k) (omega arith));
  harts = λ p some few. k.harts p some (omega arith);
  loaded = k.loaded;
  pools = λ i. subst (λ pools. LiesAbove s.parts.heap.low (pool_at pools i)) (sym k.pools) tt;
  calls = tt;
}

-- A machine that starts with four programs which are loaded runs them.
pub boots_running : (words : ℕ → List ℕ) (disks : Disks) (images : List Loaded) (start : Xinu) → length images ≡ 4 → BeginAt 1 images
    → EachProgram (λ p. IsLoaded (first_of p) (words p) (fresh_heap images).low (loaded_machine images).memory)
    → boot_on disks images ≡ Boots start → AreRunning words start
boots_running words disks images start four begin loaded is =
    let first = booted (boot images) (λ s. Boots (on_disks disks s)) start is in
    subst (AreRunning words) (same_state _ start first.1.1) (by_overlap (first_overlap 1 [] images) first.0 first.1.0)
  where
    by_overlap : (o : Option ℕ) (s : Xinu) → unless_overlap o images ≡ Boots s → AreRunning words (on_disks disks s)
    by_overlap (Some i) s is = absurd (cc)
    by_overlap None s is =
        let made = booted (all_made 1 images (loaded_machine images)) (λ s. Boots (all_started images s)) s is in
        let all = made_on words 1 images (loaded_machine images) made.0 (first_made words images loaded) (omega arith) (omega arith) begin made.1.0 in
        let last : 1 + length images ≡ 5 = omega arith in
        subst (λ s. AreRunning words (on_disks disks s)) (same_state _ s made.1.1)
        (started words disks images made.0 (subst (λ j. AreMade words j made.0) last all) four)
