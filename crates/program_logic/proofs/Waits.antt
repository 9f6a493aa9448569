-- `wait`: a token is taken, or waited for; while the semaphore is not made the call is refused.
use Rattle.std.proofs.Common.{List, None, Option, Some, ap, arith, false, get_or, inl, inr, refl, set, subst, suc, sym, true, ℕ, ⊎_elim, ◌<◌, ◌∙◌, ◌≡◌, ◌≢◌, ◌≤◌}
use Rattle.std.proofs.lemmas.Bool.{both_ways, cond_both, ne_eqb}
use Rattle.std.proofs.lemmas.List.{get_or-set_other, get_or-set_same}
use Rattle.scheduling_laws.proofs.Counts.{semaphore_resched}
use Rattle.table_laws.proofs.Frame.MoveTo.{owner_move, tokens_move}
use Rattle.table_laws.proofs.Preserve.{blocked_preserves}
use Rattle.table_laws.proofs.Tables.MoveTo.{by_number, process_move_other, process_move_same}
use Rattle.table_laws.specs.Preserve.{MayCall}
use Rattle.xinu_base.specs.Constants.{OK, SYSERR}
use Rattle.xinu_base.specs.declared.processes.Process.{Process}
use Rattle.xinu_base.specs.declared.processes.Rest.TheVariants.{Nothing}
use Rattle.xinu_base.specs.declared.processes.State.TheVariants.{Current, Ready, Waiting}
use Rattle.xinu_laws.proofs.Preserve.Semaphores.{good_semaphore}
use Rattle.xinu_model.specs.Machine.{CallResult, Xinu, end_of_event, no_hart, refused}
use Rattle.xinu_model.specs.Memory.{number_at}
use Rattle.xinu_model.specs.Process.Scheduling.{resched}
use Rattle.xinu_model.specs.Semaphores.Calls.{answers, wait}
use Rattle.xinu_model.specs.Semaphores.Counts.{is_good, is_images, with_tokens}
use Rattle.xinu_model.specs.Semaphores.Waiting.{await, take_token}
use Rattle.xinu_model.specs.Sound.Tables.{CanRun, FitsOwner, IsInside}
use Rattle.xinu_model.specs.Tables.{InSemaphore, Semaphore, message_at, move_to, no_semaphore, process_at, semaphore_at, state_at}
use Rattle.program_logic.proofs.Answering.{Acts, Next, after_call, answered, asked, call_line, there_are}
use Rattle.program_logic.proofs.Holders.{has_it}
use Rattle.program_logic.proofs.Threads.{free_kept, thread_kept}
use Rattle.program_logic.proofs.Turns.{Turned, turned_resched, turned_same}
use Rattle.program_logic.specs.Obeying.{IsSystem}
use Rattle.program_logic.specs.Outlines.{At, Rule, System, has, no_row, says, tokens_for}
use Rattle.program_logic.specs.Running.{IsMade, IsThread, IsUnmade}

module _ {y : System} {holder : Option ℕ} {n k : ℕ} {s : Xinu} (ok : IsSystem y) (c : Acts y holder n k s) where
  -- a token is taken
  granted : (args : List ℕ) → has holder s.tables.current ≡ false → holder ≡ None
      → At y s.tables.current true (suc k) n (number_at s.memory y.word 4) (set (get_or s.harts s.tables.current no_hart).regs 10 0)
      → is_good y.sem s.tables ≡ true
      → Next y n (end_of_event s.tables.current (call_line s.tables.current 18 args) (take_token 1 y.sem Nothing (answers OK) (asked s)))
  granted args outside free at good =
      let p = s.tables.current in
      let t = s.tables in
      let g = good_semaphore t y.sem c.runs.sound.tables.inside good in
      let many = c.runs.sound.tables.inside.semaphores in
      let within = g.within in
      let x : Semaphore = record (semaphore_at t y.sem) { tokens = 0 } in
      let there = get_or-set_same t.semaphores y.sem x no_semaphore (omega arith) in
      record {
        holder = Some p;
        count = n;
        is = omega arith;
        running = answered ok c (Some p) n OK (with_tokens y.sem 0 t) (λ q. turned_same (process_at t q))
            (λ q other. (ne_eqb p q (λ e. other (sym e)) ∙ sym (subst (λ o. has o q ≡ false) (sym free) refl), λ e. refl))
            (subst (λ b. says b (get_or (y.code p) (suc k) no_row) n (number_at s.memory y.word 4) (set (get_or s.harts p no_hart).regs 10 0)) (sym (has_it p)) at)
            (inl (record { good = ap (λ (z : Semaphore). is_images z.owner) there ∙ good; tokens = ap (λ (z : Semaphore). z.tokens) there; rule = λ e. absurd (cc); one = λ z e. (let f : p ≡ z = cc in subst (λ i. (1 ≤ i) × (i ≤ y.many)) f (c.some, c.few)) }));
        calm = refl;
      }

  -- or waited for
  blocked_for : (args : List ℕ) → has holder s.tables.current ≡ false → tokens_for holder ≡ 0 → IsMade y holder n (number_at s.memory y.word 4) s.tables
      → ((m w : ℕ) → Rule y m w → At y s.tables.current true (suc k) m w (set (get_or s.harts s.tables.current no_hart).regs 10 0))
      → At y s.tables.current false (suc k) 0 0 (set (get_or s.harts s.tables.current no_hart).regs 10 4294967295)
      → Next y n (end_of_event s.tables.current (call_line s.tables.current 18 args) (take_token 0 y.sem Nothing (answers OK) (asked s)))
  blocked_for args outside none made at off =
      let p = s.tables.current in
      let t = s.tables in
      let h = get_or s.harts p no_hart in
      let w = number_at s.memory y.word 4 in
      let sound = c.runs.sound.tables in
      let some = c.some in
      let g = good_semaphore t y.sem sound.inside made.good in
      let x : Process = record (process_at t p) { state = Waiting; rest = Nothing } in
      let u = move_to p x (message_at t p) (InSemaphore y.sem) t in
      let may : MayCall s = record { tables = sound; harts = c.runs.sound.harts; not_null = λ e. absurd (omega arith) } in
      let o : IsInside u = (blocked_preserves Waiting Nothing (InSemaphore y.sem) s may (λ f. cc) (refl, refl, refl)
      (g.within, made.tokens ∙ none, subst (λ by. FitsOwner y.sem by Nothing) (sym g.owner) refl) tt).tables in
      let v = resched u in
      let here : p < 64 = (let few = c.few in let small = ok.few in omega arith) in
      let is : process_at u p ≡ x = process_move_same t p x (message_at t p) (InSemaphore y.sem) sound.inside.processes here in
      let own : Turned x (process_at v p) = subst (λ z. Turned z (process_at v p)) is (turned_resched u o p) in
      let waits : state_at v p ≡ Waiting = ⊎_elim (λ (e : state_at v p ≡ Waiting). e)
      (λ (d : CanRun Waiting × CanRun (state_at v p)). absurd (never d.0)) own.state in
      let same : semaphore_at v y.sem ≡ semaphore_at u y.sem = semaphore_resched u y.sem o in
      let owner = owner_move t p x (message_at t p) (InSemaphore y.sem) y.sem in
      let tokens = tokens_move t p x (message_at t p) (InSemaphore y.sem) y.sem in
      let theirs : (q : ℕ) → q ≢ p → Turned (process_at t q) (process_at v q) =
      λ q other. subst (λ z. Turned z (process_at v q)) (process_move_other t q p x (message_at t p) (InSemaphore y.sem) other) (turned_resched u o q) in
      record {
        holder = holder;
        count = n;
        is = omega arith;
        running = record {
          threads = λ q some few. by_number q p (λ r. IsThread y holder n w v r (get_or (asked s).harts r no_hart))
              (subst (IsThread y holder n w v p) (sym (get_or-set_same s.harts p (after_call h) no_hart (there_are ok c)))
              (record { place = suc k; pc = c.next; regs = c.regs; rest = own.rest; stands = inr (inl (waits, (outside, (at, off)))) }))
              (λ other. thread_kept y holder holder n w n w t v q (get_or s.harts q no_hart) (get_or (asked s).harts q no_hart)
              (get_or-set_other s.harts p q (after_call h) no_hart other) refl (λ _. (refl, refl)) (theirs q other) (c.runs.running.threads q some few));
          others = λ q more. free_kept (process_at t q) (process_at v q) (theirs q (λ e. absurd (let few = c.few in omega arith))) (c.runs.running.others q more);
          lock = inl (record {
            good = ap (λ (z : Semaphore). is_images z.owner) same ∙ ap is_images owner ∙ made.good;
            tokens = ap (λ (z : Semaphore). z.tokens) same ∙ tokens ∙ made.tokens;
            rule = made.rule;
            one = made.one;
          });
          loaded = c.runs.running.loaded;
          disk = c.runs.running.disk;
          files = c.runs.running.files;
        };
        calm = refl;
      }
    where
      never : CanRun Waiting → ⊥
      never can = ⊎_elim (λ (e : Waiting ≡ Current). absurd (cc)) (λ (e : Waiting ≡ Ready). absurd (cc)) can

  -- `wait`, whether there is a token, none, or no semaphore yet
  pub waited : (args : List ℕ) → has holder s.tables.current ≡ false
      → ((m w : ℕ) → Rule y m w → At y s.tables.current true (suc k) m w (set (get_or s.harts s.tables.current no_hart).regs 10 0))
      → ((m w : ℕ) → At y s.tables.current false (suc k) m w (set (get_or s.harts s.tables.current no_hart).regs 10 4294967295))
      → Next y n (end_of_event s.tables.current (call_line s.tables.current 18 args) (wait y.sem (asked s)))
  waited args outside at off =
      cond_both (is_good y.sem s.tables) (await y.sem Nothing (answers OK) (asked s)) (refused (asked s))
      (λ (r : CallResult). Next y n (end_of_event s.tables.current (call_line s.tables.current 18 args) r)) good bad
    where
      by_holder : (o : Option ℕ) → holder ≡ o → IsMade y holder n (number_at s.memory y.word 4) s.tables
          → Next y n (end_of_event s.tables.current (call_line s.tables.current 18 args) (take_token (tokens_for o) y.sem Nothing (answers OK) (asked s)))
      by_holder None e made = granted args outside e (at n (number_at s.memory y.word 4) (made.rule e)) made.good
      by_holder (Some z) e made = blocked_for args outside (ap tokens_for e) made at (off 0 0)

      good : is_good y.sem s.tables ≡ true → Next y n (end_of_event s.tables.current (call_line s.tables.current 18 args) (await y.sem Nothing (answers OK) (asked s)))
      good is = ⊎_elim
          (λ (made : IsMade y holder n (number_at s.memory y.word 4) s.tables).
          subst (λ i. Next y n (end_of_event s.tables.current (call_line s.tables.current 18 args) (take_token i y.sem Nothing (answers OK) (asked s)))) (sym made.tokens)
          (by_holder holder refl made))
          (λ (un : IsUnmade y holder n (number_at s.memory y.word 4) s.tables). let f = ap is_images un.free in absurd (both_ways (is_good y.sem s.tables) f is))
          c.runs.running.lock

      bad : is_good y.sem s.tables ≡ false → Next y n (end_of_event s.tables.current (call_line s.tables.current 18 args) (refused (asked s)))
      bad is = ⊎_elim
          (λ (made : IsMade y holder n (number_at s.memory y.word 4) s.tables). absurd (both_ways (is_good y.sem s.tables) is made.good))
          (λ (un : IsUnmade y holder n (number_at s.memory y.word 4) s.tables). record {
            holder = holder;
            count = n;
            is = omega arith;
            running = answered ok c holder n SYSERR s.tables (λ q. turned_same (process_at s.tables q)) (λ q other. (refl, λ e. refl))
                (subst (λ b. says b (get_or (y.code s.tables.current) (suc k) no_row) n (number_at s.memory y.word 4)
                (set (get_or s.harts s.tables.current no_hart).regs 10 4294967295)) (sym outside) (off n (number_at s.memory y.word 4)))
                (inr un);
            calm = refl;
          })
          c.runs.running.lock
