-- The events that are no steps: the programs run on, whatever comes.
use Rattle.std.proofs.Common.{◌≡◌, ◌∙◌, ⊎_elim, inl, inr, refl, sym, ap, subst, arith, ℕ, suc, zero, ◌+◌, ◌≤◌, ◌<◌, List, [], ◌∷◌, length, get_or, set, cond, false, None}
use Rattle.std.proofs.lemmas.Bool.{eq-eqb}
use Rattle.scheduling_laws.proofs.Resched.{by_tick}
use Rattle.xinu_base.specs.declared.processes.State.{State}
use Rattle.xinu_base.specs.declared.processes.State.TheVariants.{Current, Ready}
use Rattle.xinu_model.specs.Clock.{due, ticked, wakeup}
use Rattle.xinu_model.specs.Machine.{CallState, Xinu, no_hart, start, unblock_all, with_replies}
use Rattle.xinu_model.specs.Memory.{number_at}
use Rattle.xinu_model.specs.Process.Scheduling.{ready_all}
use Rattle.xinu_model.specs.Sound.Tables.{CanRun, entries_of, sleeping_places}
use Rattle.xinu_model.specs.Tables.{state_at}
use Rattle.program_logic.proofs.Threads.{IsIdle}
use Rattle.program_logic.proofs.Turns.{Turns, turns_resched, turns_same, turns_through}
use Rattle.program_logic.specs.Images.{Lie}
use Rattle.program_logic.specs.Outlines.{Anything, System}
use Rattle.program_logic.specs.Running as logic
use Rattle.bounded_buffer.proofs.Obeying.{stage_of}
use Rattle.bounded_buffer.proofs.Pairs.{next_free, pair_kept}
use Rattle.bounded_buffer.proofs.Running.{AreRunning, IsThread, Runs, Stands}
use Rattle.bounded_buffer.specs.Buffer.{code, first, slot_of}
use Rattle.bounded_buffer.specs.Places.{Bare, Done, Holding, Outside, Phase, Row, Single, no_row, says, words_in}

-- what holds of both processes
pub each_of : (P : ℕ → Type 0) → P 1 → P 2 → (p : ℕ) → 1 ≤ p → p ≤ 2 → P p
each_of P a b zero some few = absurd (omega arith)
each_of P a b (suc zero) some few = a
each_of P a b (suc (suc zero)) some few = b
each_of P a b (suc (suc (suc p))) some few = absurd (omega arith)

-- ---- places

nothing_said : (f : Phase) (c : ℕ) (regs : List ℕ) → says f no_row c regs → ⊥
nothing_said Bare c regs h = h.1
nothing_said Single c regs h = h.1
nothing_said Outside c regs h = h.1
nothing_said Holding c regs h = h.1
nothing_said Done c regs h = h.1

-- a place of which something is said is in the program
pub place_within : (f : Phase) (c k : ℕ) (regs : List ℕ) (rows : List Row) → says f (get_or rows k no_row) c regs → k < length (words_in rows)
place_within f c zero regs [] may = absurd (nothing_said f c regs may)
place_within f c (suc k) regs [] may = absurd (nothing_said f c regs may)
place_within f c zero regs (r ∷ rows) may = omega arith
place_within f c (suc k) regs (r ∷ rows) may = (let e = place_within f c k regs rows may in omega arith)

-- so does each process
pub stands_within : (p : ℕ) (f : Phase) (k c : ℕ) (regs : List ℕ) (state : State) → Stands p f k c regs state → k < length (words_in (code p))
stands_within p f k c regs state (inl (can, at)) = place_within f c k regs (code p) at
stands_within p f k c regs state (inr (waits, (out, at))) = place_within Holding c k (set regs 10 0) (code p) at

-- ---- the laws of one lock say what the other events do, as nothing has to be known of a program for it

-- a system of which nothing is said
abbrev bystander : Xinu → System
bystander s = record {
  many = 2;
  first = λ p. (get_or s.harts p no_hart).pc;
  code = λ p. (record { word = number_at s.memory (get_or s.harts p no_hart).pc 4; free = Anything; held = Anything }) ∷ [];
  sem = s.tables.last_semaphore + 1;
  word = 0;
  rule = Anything;
}

stands_by : (s : Xinu) (p : ℕ) (f : Phase) (k c v : ℕ) (regs : List ℕ) (state : State) → Stands p f k c regs state → logic.Stands (bystander s) p false 0 0 v regs state
stands_by s p f k c v regs state (inl (can, at)) = inl (can, tt)
stands_by s p f k c v regs state (inr (waits, at)) = inr (inl (waits, (refl, ((λ m w h. tt), tt))))

thread_by : (s : Xinu) (p : ℕ) (f : Phase) (c v : ℕ) → IsThread p f c s.tables (get_or s.harts p no_hart)
    → logic.IsThread (bystander s) None 0 v s.tables p (get_or s.harts p no_hart)
thread_by s p f c v k = record {
  place = 0;
  pc = omega arith;
  regs = k.regs;
  rest = k.rest;
  stands = stands_by s p f k.place c v (get_or s.harts p no_hart).regs (state_at s.tables p) k.stands;
}

-- the word of a process's place lies in RAM
word_by : (s : Xinu) (p : ℕ) → (get_or s.harts p no_hart).pc + 4 ≤ length s.memory
    → Lie s.memory (get_or s.harts p no_hart).pc (number_at s.memory (get_or s.harts p no_hart).pc 4 ∷ [])
word_by s p within = (within, (refl, tt))

module _ {f g : Phase} {i j : ℕ} {s : Xinu} (r : Runs f g i j s) where
  pub bystanding : logic.Runs (bystander s) None 0 s
  bystanding =
      let k = r.running.pair in
      let size = r.sound.ram.bytes in
      let one = stands_within 1 f k.mine.place i (get_or s.harts 1 no_hart).regs (state_at s.tables 1) k.mine.stands in
      let two = stands_within 2 g k.other.place j (get_or s.harts 2 no_hart).regs (state_at s.tables 2) k.other.stands in
      let one_at = k.mine.pc in
      let two_at = k.other.pc in
      record {
        sound = r.sound;
        running = record {
          threads = each_of (λ p. logic.IsThread (bystander s) None 0 (number_at s.memory 0 4) s.tables p (get_or s.harts p no_hart))
              (thread_by s 1 f i (number_at s.memory 0 4) k.mine) (thread_by s 2 g j (number_at s.memory 0 4) k.other);
          others = λ p more. k.free p (λ e. absurd (omega arith)) (λ e. absurd (omega arith)) (λ e. absurd (omega arith));
          lock = inr (record { free = next_free (stage_of f) s.tables k.made; next = refl; nobody = refl; rule = tt });
          loaded = each_of (λ p. Lie s.memory (get_or s.harts p no_hart).pc (number_at s.memory (get_or s.harts p no_hart).pc 4 ∷ []))
              (word_by s 1 (omega arith)) (word_by s 2 (omega arith));
          disk = r.running.disk;
          files = r.running.files;
        };
      }

  -- ---- a tick

  can_not_sleep : (x : State) → CanRun x → sleeping_places x ≡ 0
  can_not_sleep x can = ⊎_elim (λ (e : x ≡ Current). ap sleeping_places e) (λ (e : x ≡ Ready). ap sleeping_places e) can

  awake : (p : ℕ) (f : Phase) (k c : ℕ) (regs : List ℕ) (state : State) → Stands p f k c regs state → sleeping_places state ≡ 0
  awake p f k c regs state (inl (can, at)) = can_not_sleep state can
  awake p f k c regs state (inr (waits, rest)) = ap sleeping_places waits

  all_awake : (p : ℕ) → sleeping_places (state_at s.tables p) ≡ 0
  all_awake zero = can_not_sleep (state_at s.tables 0) r.sound.tables.inside.null
  all_awake (suc zero) = let k = r.running.pair.mine in awake 1 f k.place i (get_or s.harts 1 no_hart).regs (state_at s.tables 1) k.stands
  all_awake (suc (suc zero)) = let k = r.running.pair.other in awake 2 g k.place j (get_or s.harts 2 no_hart).regs (state_at s.tables 2) k.stands
  all_awake (suc (suc (suc p))) = ap sleeping_places (r.running.pair.free (suc (suc (suc p))) (λ e. absurd (omega arith)) (λ e. absurd (omega arith)) (λ e. absurd (omega arith)))

  no_sleepers : (l : List (ℕ × ℕ)) → ((p : ℕ) → entries_of p l ≡ 0) → l ≡ []
  no_sleepers [] none = refl
  no_sleepers (e ∷ l) none =
      let k = none e.0 in
      let m = ap (λ b. cond b (suc (entries_of e.0 l)) (entries_of e.0 l)) (eq-eqb e.0 e.0 refl) in
      absurd (omega arith)

  pub tick_idle : IsIdle s (ticked s).state
  tick_idle =
      let t = s.tables in
      let none : due (t.ticks + 1) t.sleepers ≡ [] =
      ap (due (t.ticks + 1)) (no_sleepers t.sleepers (λ p. r.sound.tables.inside.sleeping p ∙ all_awake p)) in
      let same : wakeup s ≡ start s = ap (λ l. unblock_all l (start s)) none in
      record {
        turns = by_tick (Turns t) s r.sound.tables (λ v quantum ticks h. record { entries = h.entries; semaphores = h.semaphores; last = h.last })
            (λ v o h. turns_through h (turns_resched v o)) (subst (λ l. Turns t (ready_all l t)) (sym none) (turns_same t));
        harts = ap (λ (d : CallState). with_replies d.released d.state.harts) same;
        memory = ap (λ (d : CallState). d.state.memory) same;
        disk = ap (λ (d : CallState). d.state.parts.devices.disk.requests) same;
        files = ap (λ (d : CallState). d.state.parts.devices.files.calls) same;
      }

  -- ---- the frame rule

  pub idle_runs : (u : Xinu) → IsIdle s u → AreRunning f g i j u
  idle_runs u idle =
      let k = r.running in
      record {
        pair = pair_kept 1 2 4 5 2 0 (stage_of f) f g i j s.tables u.tables s.harts u.harts (omega arith) (omega arith) idle.turns idle.harts k.pair;
        items = λ n low high. ap (λ m. number_at m (slot_of n) 4) idle.memory ∙ k.items n low high;
        loaded = λ p some few. subst (λ m. Lie m (first p) (words_in (code p))) (sym idle.memory) (k.loaded p some few);
        disk = idle.disk ∙ k.disk;
        files = idle.files ∙ k.files;
      }
