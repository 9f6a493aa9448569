-- `yield` and `sleepms`, after which others run, and calls that only answer.
use Rattle.std.proofs.Common.{List, Option, ap, arith, cond, false, get_or, inr, pos, refl, set, subst, suc, sym, ℕ, ℤ, ⊎_elim, ◌+◌, ◌<◌, ◌==◌, ◌&&◌, ◌∙◌, ◌≡◌, ◌≢◌}
use Rattle.std.proofs.lemmas.List.{get_or-set_other, get_or-set_same}
use Rattle.scheduling_laws.proofs.Waiters.{not_waiting}
use Rattle.table_laws.proofs.Lists.Counts.{filter_absent}
use Rattle.table_laws.proofs.Preserve.{blocked_preserves}
use Rattle.table_laws.proofs.Tables.MoveTo.{by_number, process_move_other, process_move_same}
use Rattle.table_laws.proofs.Tables.Places.{semaphore_at_without}
use Rattle.table_laws.specs.Preserve.{MayCall}
use Rattle.xinu_base.specs.Constants.{OK}
use Rattle.xinu_base.specs.declared.processes.Process.{Process}
use Rattle.xinu_base.specs.declared.processes.Rest.TheVariants.{Nothing}
use Rattle.xinu_base.specs.declared.processes.State.TheVariants.{Sleeping}
use Rattle.xinu_model.specs.Clock.{sleepms, yield}
use Rattle.xinu_model.specs.Machine.{Xinu, end_of_event, no_hart, returns, start}
use Rattle.xinu_model.specs.Memory.{number_at}
use Rattle.xinu_model.specs.Process.Scheduling.{resched}
use Rattle.xinu_model.specs.Sound.Tables.{CanRun, IsInside, waiting_places}
use Rattle.xinu_model.specs.Tables.{InSleepers, Tables, message_at, move_to, process_at, semaphore_at, semaphore_without, state_at}
use Rattle.program_logic.proofs.Answering.{Acts, Next, after_call, answered, asked, call_line, given, there_are}
use Rattle.program_logic.proofs.Threads.{cant_sleep, free_kept, lock_kept, thread_kept}
use Rattle.program_logic.proofs.Turns.{Turned, turned_resched, turned_same, turns_resched}
use Rattle.std.specs.Prelude.{slice_index}
use Rattle.xinu_model.specs.Words.{word}
use Rattle.program_logic.specs.Obeying.{IsSystem}
use Rattle.program_logic.specs.Outlines.{At, System, has}
use Rattle.program_logic.specs.Running.{IsThread}

-- who waits on no semaphore leaves each as it is
semaphore_left : (t : Tables) (sem q : ℕ) → IsInside t → waiting_places (state_at t q) ≡ 0 → semaphore_without q (semaphore_at t sem) ≡ semaphore_at t sem
semaphore_left t sem q o idle =
    let x = semaphore_at t sem in
    ap (λ (ws : List ℕ). record { owner = x.owner; tokens = x.tokens; waiters = ws }) (filter_absent (λ w. w == q) x.waiters (not_waiting t q sem o idle))

module _ {y : System} {holder : Option ℕ} {n k : ℕ} {s : Xinu} (ok : IsSystem y) (c : Acts y holder n k s) where
  -- `yield`
  pub yielded : (args : List ℕ)
      → At y s.tables.current (has holder s.tables.current) (suc k) n (number_at s.memory y.word 4) (set (get_or s.harts s.tables.current no_hart).regs 10 0)
      → Next y n (end_of_event s.tables.current (call_line s.tables.current 6 args) (yield (asked s)))
  yielded args at =
      let turns = turns_resched s.tables c.runs.sound.tables.inside in
      record {
        holder = holder;
        count = n;
        is = omega arith;
        running = answered ok c holder n OK (resched s.tables) turns.entries (λ q other. (refl, λ e. refl)) at
            (lock_kept y holder n (number_at s.memory y.word 4) n (number_at s.memory y.word 4) s.tables (resched s.tables) (turns.semaphores y.sem ok.no_device) turns.last
            (λ e. (refl, refl)) c.runs.running.lock);
        calm = refl;
      }

  -- a call that only answers
  pub only_answered : (number : ℕ) (args : List ℕ) (value : ℤ) → (number == 19) ≡ false
      → ((x : ℕ) → At y s.tables.current (has holder s.tables.current) (suc k) n (number_at s.memory y.word 4) (set (get_or s.harts s.tables.current no_hart).regs 10 x))
      → Next y n (end_of_event s.tables.current (call_line s.tables.current number args) (returns (start (asked s)) value))
  only_answered number args value other at = record {
    holder = holder;
    count = n;
    is = (let e : given y.sem (call_line s.tables.current number args) ≡ 0 = ap (λ b. cond (b && (slice_index args 0 == y.sem)) 1 0) other in omega (arith, e));
    running = answered ok c holder n value s.tables (λ q. turned_same (process_at s.tables q)) (λ q different. (refl, λ e. refl)) (at (word value)) c.runs.running.lock;
    calm = refl;
  }

  -- `sleepms` for some ticks
  pub slept : (args : List ℕ) (m : ℕ)
      → At y s.tables.current (has holder s.tables.current) (suc k) n (number_at s.memory y.word 4) (set (get_or s.harts s.tables.current no_hart).regs 10 0)
      → Next y n (end_of_event s.tables.current (call_line s.tables.current 26 args) (sleepms (pos (suc m)) (asked s)))
  slept args m at =
      let p = s.tables.current in
      let t = s.tables in
      let w = number_at s.memory y.word 4 in
      let sound = c.runs.sound.tables in
      let some = c.some in
      let place = InSleepers (t.ticks + suc m) in
      let x : Process = record (process_at t p) { state = Sleeping; rest = Nothing } in
      let u = move_to p x (message_at t p) place t in
      let may : MayCall s = record { tables = sound; harts = c.runs.sound.harts; not_null = λ e. absurd (omega arith) } in
      let o : IsInside u = (blocked_preserves Sleeping Nothing place s may (λ f. cc) (refl, refl, refl) (omega arith) refl).tables in
      let v = resched u in
      let here : p < 64 = (let few = c.few in let small = ok.few in omega arith) in
      let is : process_at u p ≡ x = process_move_same t p x (message_at t p) place sound.inside.processes here in
      let own : Turned x (process_at v p) = subst (λ z. Turned z (process_at v p)) is (turned_resched u o p) in
      let sleeps : state_at v p ≡ Sleeping = ⊎_elim (λ (e : state_at v p ≡ Sleeping). e)
      (λ (d : CanRun Sleeping × CanRun (state_at v p)). absurd (cant_sleep Sleeping d.0 refl)) own.state in
      let turns = turns_resched u o in
      let theirs : (q : ℕ) → q ≢ p → Turned (process_at t q) (process_at v q) =
      λ q other. subst (λ z. Turned z (process_at v q)) (process_move_other t q p x (message_at t p) place other) (turned_resched u o q) in
      record {
        holder = holder;
        count = n;
        is = omega arith;
        running = record {
          threads = λ q some few. by_number q p (λ r. IsThread y holder n w v r (get_or (asked s).harts r no_hart))
              (subst (IsThread y holder n w v p) (sym (get_or-set_same s.harts p (after_call (get_or s.harts p no_hart)) no_hart (there_are ok c)))
              (record { place = suc k; pc = c.next; regs = c.regs; rest = own.rest; stands = inr (inr (sleeps, at)) }))
              (λ other. thread_kept y holder holder n w n w t v q (get_or s.harts q no_hart) (get_or (asked s).harts q no_hart)
              (get_or-set_other s.harts p q (after_call (get_or s.harts p no_hart)) no_hart other) refl (λ _. (refl, refl)) (theirs q other) (c.runs.running.threads q some few));
          others = λ q more. free_kept (process_at t q) (process_at v q) (theirs q (λ e. absurd (let few = c.few in omega arith))) (c.runs.running.others q more);
          lock = lock_kept y holder n w n w t v
              (turns.semaphores y.sem ok.no_device ∙ semaphore_at_without p y.sem t.semaphores ∙ semaphore_left t y.sem p sound.inside (ap waiting_places sound.runs))
              turns.last (λ e. (refl, refl)) c.runs.running.lock;
          loaded = c.runs.running.loaded;
          disk = c.runs.running.disk;
          files = c.runs.running.files;
        };
        calm = refl;
      }
