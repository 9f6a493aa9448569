-- `signal`: the token is there again, or the first of those who wait gets it.
use Rattle.std.proofs.Common.{Bool, List, None, Option, Some, [], ap, arith, false, get_or, inl, inr, length, pos, refl, set, subst, suc, sym, true, ℕ, ⊎_elim, ◌&&◌, ◌++◌, ◌+◌, ◌<◌, ◌∙◌, ◌∷◌, ◌≡◌, ◌≢◌, ◌≤◌}
use Rattle.std.proofs.Math.ListN.{length-set}
use Rattle.std.proofs.lemmas.Bool.{and_from, both_ways, cases_lt, cond_both, eq-eqb, ne_eqb}
use Rattle.std.proofs.lemmas.Int.{ints}
use Rattle.std.proofs.lemmas.List.{get_or-set_same}
use Rattle.std.specs.Prelude.{if◌then◌else◌, int_lt, neg_ℤ, slice_index, ◌+ℤ◌}
use Rattle.scheduling_laws.proofs.Counts.{semaphore_resched}
use Rattle.table_laws.proofs.Lists.Counts.{first_is_counted}
use Rattle.table_laws.proofs.Tables.MoveTo.{by_number, process_move_other, process_move_same}
use Rattle.table_laws.proofs.Tables.Places.{semaphore_at_without}
use Rattle.table_laws.proofs.Tables.Scheduling.{inside_ready}
use Rattle.table_laws.proofs.Tables.Unblock.{can_be_ready_waiting, waiter_waits}
use Rattle.xinu_base.specs.Constants.{OK}
use Rattle.xinu_base.specs.declared.processes.Rest.TheVariants.{Nothing}
use Rattle.xinu_base.specs.declared.processes.State.{State}
use Rattle.xinu_base.specs.declared.processes.State.TheVariants.{Current, Ready, Waiting}
use Rattle.xinu_laws.proofs.Preserve.Semaphores.{good_semaphore}
use Rattle.xinu_model.specs.Machine.{CallResult, Xinu, end_of_event, no_hart, ready_later, refused, reply_at_unblock, returns, start, with_reply}
use Rattle.xinu_model.specs.Memory.{number_at}
use Rattle.xinu_model.specs.Process.Scheduling.{in_state, ready, resched}
use Rattle.xinu_model.specs.Semaphores.Calls.{signal}
use Rattle.xinu_model.specs.Semaphores.Counts.{count_of, is_good, is_images, most_tokens, with_tokens}
use Rattle.xinu_model.specs.Semaphores.Waiting.{signal_first, signalled}
use Rattle.xinu_model.specs.Sound.Tables.{CanRun, IsInside, count_in}
use Rattle.xinu_model.specs.Tables.{InReady, Semaphore, message_at, no_semaphore, process_at, semaphore_at, semaphore_without, state_at}
use Rattle.program_logic.proofs.Answering.{Acts, Next, after_call, answered, asked, call_line, mine, own_rest, there_are}
use Rattle.program_logic.proofs.Holders.{has_it, has_none, has_other}
use Rattle.program_logic.proofs.Idle.{nothing_left}
use Rattle.program_logic.proofs.Replies.{two_his, two_mine, two_other}
use Rattle.program_logic.proofs.Threads.{free_kept, thread_kept}
use Rattle.program_logic.proofs.Turns.{Turned, turned_resched, turned_same}
use Rattle.program_logic.specs.Obeying.{IsSystem}
use Rattle.program_logic.specs.Outlines.{At, Rule, System, has, no_row, says}
use Rattle.program_logic.specs.Running.{IsMade, IsThread, IsUnmade, Stands}

-- without a token the count is less than the greatest
few_tokens : (n l : ℕ) → n ≡ 0 → int_lt (pos n +ℤ neg_ℤ (pos l)) most_tokens ≡ true
few_tokens n l e = grind (arith, ints)

module _ {y : System} {holder : Option ℕ} {n k : ℕ} {s : Xinu} (ok : IsSystem y) (c : Acts y holder n k s) where
  -- nobody waits: the token is there again
  freed : (args : List ℕ) → has holder s.tables.current ≡ true → slice_index args 0 ≡ y.sem → IsMade y holder n (number_at s.memory y.word 4) s.tables
      → Rule y (n + 1) (number_at s.memory y.word 4)
      → At y s.tables.current false (suc k) (n + 1) (number_at s.memory y.word 4) (set (get_or s.harts s.tables.current no_hart).regs 10 0)
      → Next y n (end_of_event s.tables.current (call_line s.tables.current 19 args) (returns (signal_first y.sem [] (start (asked s))) OK))
  freed args inside first made rule at =
      let p = s.tables.current in
      let t = s.tables in
      let g = good_semaphore t y.sem c.runs.sound.tables.inside made.good in
      let many = c.runs.sound.tables.inside.semaphores in
      let within = g.within in
      let x : Semaphore = record (semaphore_at t y.sem) { tokens = (semaphore_at t y.sem).tokens + 1 } in
      let there = get_or-set_same t.semaphores y.sem x no_semaphore (omega arith) in
      let tokens : (semaphore_at t y.sem).tokens ≡ 0 = made.tokens ∙ has_none holder p inside in
      record {
        holder = None;
        count = n + 1;
        is = ap (λ (b : Bool). n + (if b then 1 else 0)) (sym (eq-eqb (slice_index args 0) y.sem first));
        running = answered ok c None (n + 1) OK (with_tokens y.sem ((semaphore_at t y.sem).tokens + 1) t) (λ q. turned_same (process_at t q))
            (λ q other. let no = has_other holder p q inside other in (sym no, λ e. absurd (cc))) at
            (inl (record {
              good = ap (λ (z : Semaphore). is_images z.owner) there ∙ made.good;
              tokens = ap (λ (z : Semaphore). z.tokens) there ∙ ap (λ i. i + 1) tokens;
              rule = λ e. rule;
              one = λ z e. absurd (cc);
            }));
        calm = refl;
      }

  -- the first of those who wait gets it
  handed : (args : List ℕ) (z : ℕ) (zs : List ℕ) → has holder s.tables.current ≡ true → slice_index args 0 ≡ y.sem → IsMade y holder n (number_at s.memory y.word 4) s.tables
      → Rule y (n + 1) (number_at s.memory y.word 4)
      → At y s.tables.current false (suc k) (n + 1) (number_at s.memory y.word 4) (set (get_or s.harts s.tables.current no_hart).regs 10 0)
      → (semaphore_at s.tables y.sem).waiters ≡ z ∷ zs
      → Next y n (end_of_event s.tables.current (call_line s.tables.current 19 args)
      (returns (record (ready_later z (start (asked s))) { released = [] ++ reply_at_unblock OK z Nothing }) OK))
  handed args z zs inside first made rule at e =
      let p = s.tables.current in
      let t = s.tables in
      let h = get_or s.harts p no_hart in
      let w = number_at s.memory y.word 4 in
      let sound = c.runs.sound.tables in
      let o = sound.inside in
      let here : 0 < count_in z (semaphore_at t y.sem).waiters = subst (λ l. 0 < count_in z l) (sym e) (first_is_counted z zs) in
      let waits = waiter_waits t y.sem z o here in
      let other : z ≢ p = λ f. let g = ap (state_at t) f in let r = sound.runs in absurd (cc) in
      let not_null : z ≢ 0 = λ f. absurd (never (subst CanRun waits (subst (λ i. CanRun (state_at t i)) (sym f) o.null))) in
      let some : 1 ≤ z = omega arith in
      let few : z ≤ y.many = ⊎_elim (λ (m : y.many < z). let r = c.runs.running.others z m in absurd (cc)) (λ (m : z ≤ y.many). m) (cases_lt y.many z) in
      let x = in_state Ready (process_at t z) in
      let u = ready z t in
      let i : IsInside u = inside_ready t z o (can_be_ready_waiting t z o waits) in
      let v = resched u in
      let small = ok.few in
      let is : process_at u z ≡ x = process_move_same t z x (message_at t z) InReady o.processes (omega arith) in
      let theirs : (q : ℕ) → q ≢ z → Turned (process_at t q) (process_at v q) =
      λ q not. subst (λ b. Turned b (process_at v q)) (process_move_other t q z x (message_at t z) InReady not) (turned_resched u i q) in
      let his : Turned x (process_at v z) = subst (λ b. Turned b (process_at v z)) is (turned_resched u i z) in
      let same : semaphore_at v y.sem ≡ semaphore_at u y.sem = semaphore_resched u y.sem i in
      let without : semaphore_at u y.sem ≡ semaphore_without z (semaphore_at t y.sem) = semaphore_at_without z y.sem t.semaphores in
      let wide : z < length s.harts = (let m = c.runs.sound.harts.many in omega arith) in
      let own = theirs p (λ f. other (sym f)) in
      let th = c.runs.running.threads z some few in
      record {
        holder = Some z;
        count = n + 1;
        is = ap (λ (b : Bool). n + (if b then 1 else 0)) (sym (eq-eqb (slice_index args 0) y.sem first));
        running = record {
          threads = λ q a b. by_number q z (λ r. IsThread y (Some z) (n + 1) w v r (get_or (with_reply (with_reply (asked s).harts (z, OK)) (p, OK)) r no_hart))
              (subst (IsThread y (Some z) (n + 1) w v z) (sym (two_his s.harts p z (after_call h) OK OK other (omega (arith, wide))))
              (record {
                place = th.place;
                pc = th.pc;
                regs = length-set (get_or s.harts z no_hart).regs 10 0 ∙ th.regs;
                rest = his.rest ∙ th.rest;
                stands = inl (
                  ⊎_elim (λ (f : state_at v z ≡ Ready). inr f) (λ (d : CanRun Ready × CanRun (state_at v z)). d.1) his.state,
                  subst (λ b. says b (get_or (y.code z) th.place no_row) (n + 1) w (set (get_or s.harts z no_hart).regs 10 0)) (sym (has_it z))
                      (by_waiting z (has holder z) th.place n w (get_or s.harts z no_hart).regs (state_at t z) waits th.stands (n + 1) w rule),
                );
              }))
              (λ not. by_number q p (λ r. IsThread y (Some z) (n + 1) w v r (get_or (with_reply (with_reply (asked s).harts (z, OK)) (p, OK)) r no_hart))
              (subst (IsThread y (Some z) (n + 1) w v p) (sym (two_mine s.harts p z (after_call h) OK OK other (there_are ok c)))
              (mine ok c (Some z) (n + 1) w 0 v (own.rest ∙ (own_rest ok c))
              (⊎_elim (λ (f : state_at v p ≡ state_at t p). inl (f ∙ sound.runs)) (λ (d : CanRun (state_at t p) × CanRun (state_at v p)). d.1) own.state)
              (subst (λ b. says b (get_or (y.code p) (suc k) no_row) (n + 1) w (set h.regs 10 0)) (sym (ne_eqb z p other)) at)))
              (λ neither. thread_kept y holder (Some z) n w (n + 1) w t v q (get_or s.harts q no_hart)
              (get_or (with_reply (with_reply (asked s).harts (z, OK)) (p, OK)) q no_hart)
              (two_other s.harts p z q (after_call h) OK OK not neither)
              (ne_eqb z q (λ f. not (sym f)) ∙ sym (has_other holder p q inside neither))
              (λ f. let no = has_other holder p q inside neither in absurd (cc)) (theirs q not) (c.runs.running.threads q a b)));
          others = λ q more. free_kept (process_at t q) (process_at v q) (theirs q (λ f. absurd (omega arith))) (c.runs.running.others q more);
          lock = inl (record {
            good = ap (λ (b : Semaphore). is_images b.owner) (same ∙ without) ∙ made.good;
            tokens = ap (λ (b : Semaphore). b.tokens) (same ∙ without) ∙ made.tokens ∙ has_none holder p inside;
            rule = λ f. absurd (cc);
            one = λ j f. (let g : z ≡ j = cc in subst (λ i. (1 ≤ i) × (i ≤ y.many)) g (some, few));
          });
          loaded = c.runs.running.loaded;
          disk = c.runs.running.disk;
          files = c.runs.running.files;
        };
        calm = refl;
      }
    where
      never : CanRun Waiting → ⊥
      never can = ⊎_elim (λ (e : Waiting ≡ Current). absurd (cc)) (λ (e : Waiting ≡ Ready). absurd (cc)) can

      by_waiting : (q : ℕ) (b : Bool) (j m v : ℕ) (regs : List ℕ) (state : State) → state ≡ Waiting → Stands y q b j m v regs state
          → (i x : ℕ) → Rule y i x → At y q true j i x (set regs 10 0)
      by_waiting q b j m v regs state waits (inl (can, at)) = absurd (never (subst CanRun waits can))
      by_waiting q b j m v regs state waits (inr (inl (still, (off, gets)))) = gets.0
      by_waiting q b j m v regs state waits (inr (inr (sleeps, at))) = absurd (cc)

  -- `signal`
  pub signalled_next : (args : List ℕ) → has holder s.tables.current ≡ true → slice_index args 0 ≡ y.sem → Rule y (n + 1) (number_at s.memory y.word 4)
      → At y s.tables.current false (suc k) (n + 1) (number_at s.memory y.word 4) (set (get_or s.harts s.tables.current no_hart).regs 10 0)
      → Next y n (end_of_event s.tables.current (call_line s.tables.current 19 args) (signal y.sem (asked s)))
  signalled_next args inside first rule at = ⊎_elim
      (λ (made : IsMade y holder n (number_at s.memory y.word 4) s.tables).
      cond_both (is_good y.sem s.tables && int_lt (count_of (semaphore_at s.tables y.sem)) most_tokens) (returns (signalled y.sem (start (asked s))) OK) (refused (asked s))
      (λ (r : CallResult). Next y n (end_of_event s.tables.current (call_line s.tables.current 19 args) r))
      (λ _. by_waiters (semaphore_at s.tables y.sem).waiters refl made)
      (λ fails. let less = few_tokens (semaphore_at s.tables y.sem).tokens (length (semaphore_at s.tables y.sem).waiters) (made.tokens ∙ has_none holder s.tables.current inside) in
      absurd (both_ways (is_good y.sem s.tables && int_lt (count_of (semaphore_at s.tables y.sem)) most_tokens) fails
      (and_from (is_good y.sem s.tables) (int_lt (count_of (semaphore_at s.tables y.sem)) most_tokens) made.good less))))
      (λ (un : IsUnmade y holder n (number_at s.memory y.word 4) s.tables).
      let f : has holder s.tables.current ≡ false = subst (λ o. has o s.tables.current ≡ false) (sym un.nobody) refl in absurd (cc))
      c.runs.running.lock
    where
      by_waiters : (l : List ℕ) → (semaphore_at s.tables y.sem).waiters ≡ l → IsMade y holder n (number_at s.memory y.word 4) s.tables
          → Next y n (end_of_event s.tables.current (call_line s.tables.current 19 args) (returns (signal_first y.sem l (start (asked s))) OK))
      by_waiters [] e made = freed args inside first made rule at
      by_waiters (z ∷ zs) e made =
          subst (λ left. Next y n (end_of_event s.tables.current (call_line s.tables.current 19 args)
          (returns (record (ready_later z (start (asked s))) { released = [] ++ reply_at_unblock OK z left }) OK)))
          (sym (nothing_left c.runs z)) (handed args z zs inside first made rule at e)
