-- `wait`: a token is taken, or waited for; while the semaphore is not made the call is refused.
use Rattle.std.proofs.Common.{◌≡◌, ◌≢◌, ◌∙◌, ⊎_elim, inl, inr, refl, sym, ap, subst, arith, ℕ, suc, zero, List, get_or, set, true, false}
use Rattle.std.proofs.lemmas.Bool.{cond_both}
use Rattle.std.proofs.lemmas.List.{get_or-set_other, get_or-set_same}
use Rattle.scheduling_laws.proofs.Counts.{semaphore_resched}
use Rattle.table_laws.proofs.Frame.MoveTo.{owner_move, same_written, tokens_move}
use Rattle.table_laws.proofs.Preserve.{blocked_preserves}
use Rattle.table_laws.proofs.Tables.MoveTo.{process_move_other, process_move_same}
use Rattle.table_laws.specs.Preserve.{MayCall}
use Rattle.xinu_base.specs.Constants.{OK, SYSERR}
use Rattle.xinu_base.specs.declared.processes.Process.{Process}
use Rattle.xinu_base.specs.declared.processes.Rest.TheVariants.{Nothing}
use Rattle.xinu_base.specs.declared.processes.State.TheVariants.{Current, Ready, Waiting}
use Rattle.xinu_laws.proofs.Preserve.Semaphores.{good_semaphore}
use Rattle.xinu_model.specs.Machine.{CallResult, Xinu, end_of_event, no_hart, refused}
use Rattle.xinu_model.specs.Process.Scheduling.{resched}
use Rattle.xinu_model.specs.Semaphores.Calls.{answers, wait}
use Rattle.xinu_model.specs.Semaphores.Counts.{is_good, is_images, with_tokens}
use Rattle.xinu_model.specs.Semaphores.Waiting.{await, take_token}
use Rattle.xinu_model.specs.Sound.Tables.{CanRun, FitsOwner, IsInside}
use Rattle.xinu_model.specs.Tables.{InSemaphore, Semaphore, message_at, move_to, no_semaphore, process_at, semaphore_at, state_at}
use Rattle.program_logic.proofs.Answering.{after_call, asked, call_line}
use Rattle.program_logic.proofs.Threads.{free_kept}
use Rattle.program_logic.proofs.Turns.{Turned, turned_resched, turned_same, turns_resched}
use Rattle.bounded_buffer.proofs.Calling.{Acts, Did, answered, there_are}
use Rattle.bounded_buffer.proofs.Obeying.{Stage}
use Rattle.bounded_buffer.proofs.Pairs.{semaphore_kept, stage_kept, thread_kept}
use Rattle.bounded_buffer.proofs.Running.{IsSemaphore, IsStage, IsThread}
use Rattle.bounded_buffer.specs.Buffer.{At}
use Rattle.bounded_buffer.specs.Places.{Holding, Outside, Phase}

module _ {q a b n m : ℕ} {g : Phase} {i j k : ℕ} {s : Xinu} (at : Phase → Phase → Stage) (steady : at Holding g ≡ at Outside g)
    (c : Acts q a b n m (at Outside g) Outside g i j k s) where
  -- a semaphore that is made has the tokens that are said of it
  own_tokens : is_good a s.tables ≡ true → (semaphore_at s.tables a).tokens ≡ c.pair.a_tokens
  own_tokens good = by c.pair.own
    where
      by : IsSemaphore (semaphore_at s.tables a) c.pair.a_tokens n → (semaphore_at s.tables a).tokens ≡ c.pair.a_tokens
      by (inl k) = k.1
      by (inr k) = let f = ap is_images k.0 in absurd (cc)

  -- a token is taken
  granted : (args : List ℕ) (l : ℕ) → (semaphore_at s.tables a).tokens ≡ suc l → is_good a s.tables ≡ true
      → At s.tables.current Holding (suc k) i (set (get_or s.harts s.tables.current no_hart).regs 10 0)
      → Did s.tables.current q a b n m at Outside g i j s (end_of_event s.tables.current (call_line s.tables.current 18 args) (take_token (suc l) a Nothing (answers OK) (asked s)))
  granted args l some good place =
      let t = s.tables in
      let many = c.sound.tables.inside.semaphores in
      let within = c.two.a_few in
      let x : Semaphore = record (semaphore_at t a) { tokens = l } in
      let there = get_or-set_same t.semaphores a x no_semaphore (omega arith) in
      let other = get_or-set_other t.semaphores a b x no_semaphore (λ e. c.two.apart (sym e)) in
      let tokens = own_tokens good in
      let sum = c.pair.own_sum in
      record {
        to = Holding;
        their_to = g;
        count = i;
        pair = answered c (at Holding g) Holding i OK (with_tokens a l t) l c.pair.b_tokens (λ r. turned_same (process_at t r)) place
            (inl (ap (λ (z : Semaphore). is_images z.owner) there ∙ good, ap (λ (z : Semaphore). z.tokens) there)) (omega (arith, sum, some, tokens))
            (subst (λ z. IsSemaphore z c.pair.b_tokens m) (sym other) c.pair.their) c.pair.their_sum
            (subst (λ z. IsStage z (with_tokens a l t)) (sym steady) (stage_kept (at Outside g) t (with_tokens a l t)
            (record { owners = λ sem far. same_written (λ (z : Semaphore). z.owner) t.semaphores a sem x no_semaphore refl; last = refl }) c.pair.made));
        memory = refl;
        disk = refl;
        files = refl;
        more = omega arith;
        reach = λ e. refl;
        their_reach = refl;
        is = omega arith;
        none = refl;
        calm = refl;
      }

  never : CanRun Waiting → ⊥
  never can = ⊎_elim (λ (e : Waiting ≡ Current). absurd (cc)) (λ (e : Waiting ≡ Ready). absurd (cc)) can

  -- or waited for
  blocked_for : (args : List ℕ) → (semaphore_at s.tables a).tokens ≡ 0 → is_good a s.tables ≡ true
      → At s.tables.current Holding (suc k) i (set (get_or s.harts s.tables.current no_hart).regs 10 0)
      → Did s.tables.current q a b n m at Outside g i j s (end_of_event s.tables.current (call_line s.tables.current 18 args) (take_token 0 a Nothing (answers OK) (asked s)))
  blocked_for args none good place =
      let p = s.tables.current in
      let t = s.tables in
      let h = get_or s.harts p no_hart in
      let sound = c.sound.tables in
      let some = c.two.p_some in
      let w = good_semaphore t a sound.inside good in
      let x : Process = record (process_at t p) { state = Waiting; rest = Nothing } in
      let u = move_to p x (message_at t p) (InSemaphore a) t in
      let may : MayCall s = record { tables = sound; harts = c.sound.harts; not_null = λ e. absurd (omega arith) } in
      let o : IsInside u = (blocked_preserves Waiting Nothing (InSemaphore a) s may (λ f. cc) (refl, refl, refl)
      (w.within, none, subst (λ by. FitsOwner a by Nothing) (sym w.owner) refl) tt).tables in
      let v = resched u in
      let is : process_at u p ≡ x = process_move_same t p x (message_at t p) (InSemaphore a) sound.inside.processes c.two.p_few in
      let own : Turned x (process_at v p) = subst (λ z. Turned z (process_at v p)) is (turned_resched u o p) in
      let waits : state_at v p ≡ Waiting = ⊎_elim (λ (e : state_at v p ≡ Waiting). e)
      (λ (d : CanRun Waiting × CanRun (state_at v p)). absurd (never d.0)) own.state in
      let owner : (sem : ℕ) → (semaphore_at v sem).owner ≡ (semaphore_at t sem).owner =
      λ sem. ap (λ (z : Semaphore). z.owner) (semaphore_resched u sem o) ∙ owner_move t p x (message_at t p) (InSemaphore a) sem in
      let tokens : (sem : ℕ) → (semaphore_at v sem).tokens ≡ (semaphore_at t sem).tokens =
      λ sem. ap (λ (z : Semaphore). z.tokens) (semaphore_resched u sem o) ∙ tokens_move t p x (message_at t p) (InSemaphore a) sem in
      let theirs : (r : ℕ) → r ≢ p → Turned (process_at t r) (process_at v r) =
      λ r other. subst (λ z. Turned z (process_at v r)) (process_move_other t r p x (message_at t p) (InSemaphore a) other) (turned_resched u o r) in
      record {
        to = Outside;
        their_to = g;
        count = i;
        pair = record {
          mine = subst (IsThread p Outside i v) (sym (get_or-set_same s.harts p (after_call h) no_hart (there_are c)))
              (record { place = suc k; pc = c.next; regs = c.regs; rest = own.rest; stands = inr (waits, (refl, place)) });
          other = thread_kept q g j t v (get_or s.harts q no_hart) (get_or (asked s).harts q no_hart)
              (get_or-set_other s.harts p q (after_call h) no_hart c.two.differ) (theirs q c.two.differ) c.pair.other;
          free = λ r some not neither. free_kept (process_at t r) (process_at v r) (theirs r not) (c.pair.free r some not neither);
          a_tokens = c.pair.a_tokens;
          b_tokens = c.pair.b_tokens;
          own = semaphore_kept (semaphore_at t a) (semaphore_at v a) c.pair.a_tokens n (owner a) (tokens a) c.pair.own;
          own_sum = c.pair.own_sum;
          their = semaphore_kept (semaphore_at t b) (semaphore_at v b) c.pair.b_tokens m (owner b) (tokens b) c.pair.their;
          their_sum = c.pair.their_sum;
          made = stage_kept (at Outside g) t v (record { owners = λ sem far. owner sem; last = (turns_resched u o).last }) c.pair.made;
        };
        memory = refl;
        disk = refl;
        files = refl;
        more = omega arith;
        reach = λ e. refl;
        their_reach = refl;
        is = omega arith;
        none = refl;
        calm = refl;
      }

  -- `wait`, whether there is a token, none, or no semaphore yet
  pub waited : (args : List ℕ) → At s.tables.current Holding (suc k) i (set (get_or s.harts s.tables.current no_hart).regs 10 0)
      → (is_good a s.tables ≡ false → At s.tables.current Outside (suc k) i (set (get_or s.harts s.tables.current no_hart).regs 10 4294967295))
      → Did s.tables.current q a b n m at Outside g i j s (end_of_event s.tables.current (call_line s.tables.current 18 args) (wait a (asked s)))
  waited args place off =
      cond_both (is_good a s.tables) (await a Nothing (answers OK) (asked s)) (refused (asked s))
      (λ (r : CallResult). Did s.tables.current q a b n m at Outside g i j s (end_of_event s.tables.current (call_line s.tables.current 18 args) r))
      (λ good. by_tokens (semaphore_at s.tables a).tokens refl good)
      (λ bad. record {
        to = Outside;
        their_to = g;
        count = i;
        pair = answered c (at Outside g) Outside i SYSERR s.tables c.pair.a_tokens c.pair.b_tokens (λ r. turned_same (process_at s.tables r)) (off bad)
            c.pair.own c.pair.own_sum c.pair.their c.pair.their_sum c.pair.made;
        memory = refl;
        disk = refl;
        files = refl;
        more = omega arith;
        reach = λ e. refl;
        their_reach = refl;
        is = omega arith;
        none = refl;
        calm = refl;
      })
    where
      by_tokens : (l : ℕ) → (semaphore_at s.tables a).tokens ≡ l → is_good a s.tables ≡ true
          → Did s.tables.current q a b n m at Outside g i j s (end_of_event s.tables.current (call_line s.tables.current 18 args) (take_token l a Nothing (answers OK) (asked s)))
      by_tokens zero e good = blocked_for args e good place
      by_tokens (suc l) e good = granted args l e good place
