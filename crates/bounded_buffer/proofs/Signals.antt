-- `signal`: a token is there, or the other process gets it.
use Rattle.std.proofs.Common.{◌≡◌, ◌≢◌, ◌∙◌, ⊎_elim, inl, inr, refl, sym, ap, subst, arith, ℕ, suc, zero, ◌+◌, ◌≤◌, ◌<◌, ◌&&◌, ◌==◌, ◌++◌, List, [], ◌∷◌, length, get_or, set, Bool, true, pos}
use Rattle.std.proofs.Math.ListN.{length-set}
use Rattle.std.proofs.lemmas.Bool.{and_from, both_ways, cond_both, eq-eqb, ne_eqb}
use Rattle.std.proofs.lemmas.Int.{ints}
use Rattle.std.proofs.lemmas.List.{get_or-set_other, get_or-set_same}
use Rattle.std.specs.Prelude.{if◌then◌else◌, int_lt, neg_ℤ, slice_index, ◌+ℤ◌}
use Rattle.scheduling_laws.proofs.Counts.{semaphore_resched}
use Rattle.table_laws.proofs.Frame.MoveTo.{same_written}
use Rattle.table_laws.proofs.Lists.Counts.{first_is_counted}
use Rattle.table_laws.proofs.Tables.MoveTo.{by_number, process_move_other, process_move_same}
use Rattle.table_laws.proofs.Tables.Places.{semaphore_at_without}
use Rattle.table_laws.proofs.Tables.Scheduling.{inside_ready}
use Rattle.table_laws.proofs.Tables.Unblock.{can_be_ready_waiting, waiter_waits}
use Rattle.xinu_base.specs.Constants.{OK}
use Rattle.xinu_base.specs.declared.processes.Rest.TheVariants.{Nothing}
use Rattle.xinu_base.specs.declared.processes.State.{State}
use Rattle.xinu_base.specs.declared.processes.State.TheVariants.{Current, Ready, Waiting}
use Rattle.xinu_model.specs.Machine.{CallResult, Xinu, end_of_event, no_hart, ready_later, refused, reply_at_unblock, returns, start}
use Rattle.xinu_model.specs.Process.Scheduling.{in_state, ready, resched}
use Rattle.xinu_model.specs.Semaphores.Calls.{signal}
use Rattle.xinu_model.specs.Semaphores.Counts.{count_of, is_good, is_images, most_tokens, with_tokens}
use Rattle.xinu_model.specs.Semaphores.Waiting.{signal_first, signalled}
use Rattle.xinu_model.specs.Sound.Tables.{CanRun, IsInside, count_in}
use Rattle.xinu_model.specs.Tables.{InReady, Semaphore, message_at, no_semaphore, process_at, semaphore_at, semaphore_without, state_at}
use Rattle.program_logic.proofs.Answering.{after_call, asked, call_line, given}
use Rattle.program_logic.proofs.Replies.{two_his, two_mine}
use Rattle.program_logic.proofs.Threads.{free_kept}
use Rattle.program_logic.proofs.Turns.{Turned, turned_resched, turned_same, turns_resched}
use Rattle.bounded_buffer.proofs.Calling.{Acts, Did, answered, mine, there_are}
use Rattle.bounded_buffer.proofs.Obeying.{Stage, held, stored}
use Rattle.bounded_buffer.proofs.Pairs.{semaphore_kept, stage_kept}
use Rattle.bounded_buffer.proofs.Running.{IsSemaphore, IsStage, IsThread, Stands}
use Rattle.bounded_buffer.specs.Buffer.{At}
use Rattle.bounded_buffer.specs.Places.{Done, Holding, Outside, Phase}

-- with few tokens the count is less than the greatest
few_tokens : (n l : ℕ) → n ≤ 2 → int_lt (pos n +ℤ neg_ℤ (pos l)) most_tokens ≡ true
few_tokens n l e = grind (arith, ints)

-- who gets a token has no item stored yet
none_stored : (q : ℕ) → stored q Holding ≡ stored q Outside
none_stored zero = refl
none_stored (suc zero) = refl
none_stored (suc (suc q)) = refl

module _ {q a b n m : ℕ} {g : Phase} {i j k : ℕ} {s : Xinu} (at : Phase → Phase → Stage) (steady : at Outside g ≡ at Done g)
    (handing : at Outside Holding ≡ at Done Outside) (c : Acts q a b n m (at Done g) Done g i j k s) where
  -- how often the tokens are given, by the line of the call
  given_once : (args : List ℕ) → slice_index args 0 ≡ b → i + 1 ≡ i + (if slice_index args 0 == b then 1 else 0)
  given_once args first = ap (λ (y : Bool). i + (if y then 1 else 0)) (sym (eq-eqb (slice_index args 0) b first))

  given_none : (args : List ℕ) → slice_index args 0 ≡ b → given a (call_line s.tables.current 19 args) ≡ 0
  given_none args first = ap {B = ℕ} (λ (y : Bool). if y then 1 else 0) (ne_eqb (slice_index args 0) a (λ e. c.two.apart (sym e ∙ first)))

  -- the producer's store stays counted
  reached : s.tables.current ≡ 1 → i + 1 + stored 1 Outside ≡ i + stored 1 Done
  reached e = omega arith

  -- nobody waits: a token is there
  freed : (args : List ℕ) → slice_index args 0 ≡ b → is_good b s.tables ≡ true
      → At s.tables.current Outside (suc k) (i + 1) (set (get_or s.harts s.tables.current no_hart).regs 10 0)
      → Did s.tables.current q a b n m at Done g i j s (end_of_event s.tables.current (call_line s.tables.current 19 args) (returns (signal_first b [] (start (asked s))) OK))
  freed args first good place =
      let t = s.tables in
      let many = c.sound.tables.inside.semaphores in
      let within = c.two.b_few in
      let l = (semaphore_at t b).tokens in
      let x : Semaphore = record (semaphore_at t b) { tokens = l + 1 } in
      let there = get_or-set_same t.semaphores b x no_semaphore (omega arith) in
      let other = get_or-set_other t.semaphores b a x no_semaphore c.two.apart in
      let sum = c.pair.own_sum in
      let their_sum = c.pair.their_sum in
      record {
        to = Outside;
        their_to = g;
        count = i + 1;
        pair = answered c (at Outside g) Outside (i + 1) OK (with_tokens b (l + 1) t) c.pair.a_tokens (c.pair.b_tokens + 1) (λ r. turned_same (process_at t r)) place
            (subst (λ z. IsSemaphore z c.pair.a_tokens n) (sym other) c.pair.own) (omega arith)
            (inl (ap (λ (z : Semaphore). is_images z.owner) there ∙ good, ap (λ (z : Semaphore). z.tokens) there ∙ ap (λ i. i + 1) (their_tokens c.pair.their)))
            (omega arith)
            (subst (λ z. IsStage z (with_tokens b (l + 1) t)) (sym steady) (stage_kept (at Done g) t (with_tokens b (l + 1) t)
            (record { owners = λ sem far. same_written (λ (z : Semaphore). z.owner) t.semaphores b sem x no_semaphore refl; last = refl }) c.pair.made));
        memory = refl;
        disk = refl;
        files = refl;
        more = omega arith;
        reach = reached;
        their_reach = refl;
        is = given_once args first;
        none = given_none args first;
        calm = refl;
      }
    where
      their_tokens : IsSemaphore (semaphore_at s.tables b) c.pair.b_tokens m → (semaphore_at s.tables b).tokens ≡ c.pair.b_tokens
      their_tokens (inl k) = k.1
      their_tokens (inr k) = let f = ap is_images k.0 in absurd (cc)

  never : CanRun Waiting → ⊥
  never can = ⊎_elim (λ (e : Waiting ≡ Current). absurd (cc)) (λ (e : Waiting ≡ Ready). absurd (cc)) can

  -- who waits on a semaphore is the other process
  waiter_is : (z : ℕ) (zs : List ℕ) → (semaphore_at s.tables b).waiters ≡ z ∷ zs → (state_at s.tables z ≡ Waiting) × (z ≡ q)
  waiter_is z zs e =
      let t = s.tables in
      let o = c.sound.tables.inside in
      let here : 0 < count_in z (semaphore_at t b).waiters = subst (λ l. 0 < count_in z l) (sym e) (first_is_counted z zs) in
      let waits = waiter_waits t b z o here in
      let other : z ≢ t.current = λ f. let w = ap (state_at t) f in let r = c.sound.tables.runs in absurd (cc) in
      let not_null : z ≢ 0 = λ f. absurd (never (subst CanRun waits (subst (λ i. CanRun (state_at t i)) (sym f) o.null))) in
      (waits, by_number z q (λ r. r ≡ q) refl (λ not. let w = c.pair.free z not_null other not in absurd (cc)))

  gets : (l h : ℕ) (regs : List ℕ) (state : State) → state ≡ Waiting → Stands q g l h regs state → (g ≡ Outside) × At q Holding l h (set regs 10 0)
  gets l h regs state waits (inl (can, at)) = absurd (never (subst CanRun waits can))
  gets l h regs state waits (inr (still, rest)) = rest

  -- the other process gets it
  handed : (args : List ℕ) (zs : List ℕ) → slice_index args 0 ≡ b → state_at s.tables q ≡ Waiting
      → At s.tables.current Outside (suc k) (i + 1) (set (get_or s.harts s.tables.current no_hart).regs 10 0)
      → Did s.tables.current q a b n m at Done g i j s (end_of_event s.tables.current (call_line s.tables.current 19 args)
      (returns (record (ready_later q (start (asked s))) { released = [] ++ reply_at_unblock OK q Nothing }) OK))
  handed args zs first waits place =
      let p = s.tables.current in
      let t = s.tables in
      let h = get_or s.harts p no_hart in
      let sound = c.sound.tables in
      let o = sound.inside in
      let other = c.two.differ in
      let x = in_state Ready (process_at t q) in
      let u = ready q t in
      let w : IsInside u = inside_ready t q o (can_be_ready_waiting t q o waits) in
      let v = resched u in
      let is : process_at u q ≡ x = process_move_same t q x (message_at t q) InReady o.processes c.two.q_few in
      let theirs : (r : ℕ) → r ≢ q → Turned (process_at t r) (process_at v r) =
      λ r not. subst (λ z. Turned z (process_at v r)) (process_move_other t r q x (message_at t q) InReady not) (turned_resched u w r) in
      let his : Turned x (process_at v q) = subst (λ z. Turned z (process_at v q)) is (turned_resched u w q) in
      let same : (sem : ℕ) → semaphore_at v sem ≡ semaphore_without q (semaphore_at t sem) =
      λ sem. semaphore_resched u sem w ∙ semaphore_at_without q sem t.semaphores in
      let wide = (let e = c.sound.harts.many in let f = c.two.q_few in let g : q < length s.harts = omega arith in g) in
      let own = theirs p (λ f. other (sym f)) in
      let th = c.pair.other in
      let gained = gets th.place j (get_or s.harts q no_hart).regs (state_at t q) waits th.stands in
      let their_held : held g ≡ 0 = ap held gained.0 in
      let sum = c.pair.own_sum in
      let their_sum = c.pair.their_sum in
      record {
        to = Outside;
        their_to = Holding;
        count = i + 1;
        pair = record {
          mine = subst (IsThread p Outside (i + 1) v) (sym (two_mine s.harts p q (after_call h) OK OK other (there_are c)))
              (mine c Outside (i + 1) 0 v (own.rest ∙ c.pair.mine.rest)
              (⊎_elim (λ (f : state_at v p ≡ state_at t p). inl (f ∙ sound.runs)) (λ (d : CanRun (state_at t p) × CanRun (state_at v p)). d.1) own.state) place);
          other = subst (IsThread q Holding j v) (sym (two_his s.harts p q (after_call h) OK OK other wide))
              (record {
                place = th.place;
                pc = th.pc;
                regs = length-set (get_or s.harts q no_hart).regs 10 0 ∙ th.regs;
                rest = his.rest ∙ th.rest;
                stands = inl (⊎_elim (λ (f : state_at v q ≡ Ready). inr f) (λ (d : CanRun Ready × CanRun (state_at v q)). d.1) his.state, gained.1);
              });
          free = λ r some not neither. free_kept (process_at t r) (process_at v r) (theirs r neither) (c.pair.free r some not neither);
          a_tokens = c.pair.a_tokens;
          b_tokens = c.pair.b_tokens;
          own = semaphore_kept (semaphore_at t a) (semaphore_at v a) c.pair.a_tokens n (ap (λ (z : Semaphore). z.owner) (same a)) (ap (λ (z : Semaphore). z.tokens) (same a)) c.pair.own;
          own_sum = omega arith;
          their = semaphore_kept (semaphore_at t b) (semaphore_at v b) c.pair.b_tokens m (ap (λ (z : Semaphore). z.owner) (same b)) (ap (λ (z : Semaphore). z.tokens) (same b)) c.pair.their;
          their_sum = omega arith;
          made = subst (λ z. IsStage z v) (sym handing) (stage_kept (at Done Outside) t v
              (record { owners = λ sem far. ap (λ (z : Semaphore). z.owner) (same sem); last = (turns_resched u w).last })
              (subst (λ y. IsStage (at Done y) t) gained.0 c.pair.made));
        };
        memory = refl;
        disk = refl;
        files = refl;
        more = omega arith;
        reach = reached;
        their_reach = none_stored q ∙ ap (stored q) (sym gained.0);
        is = given_once args first;
        none = given_none args first;
        calm = refl;
      }

  -- `signal`
  pub signalled_next : (args : List ℕ) → slice_index args 0 ≡ b → is_good b s.tables ≡ true
      → At s.tables.current Outside (suc k) (i + 1) (set (get_or s.harts s.tables.current no_hart).regs 10 0)
      → Did s.tables.current q a b n m at Done g i j s (end_of_event s.tables.current (call_line s.tables.current 19 args) (signal b (asked s)))
  signalled_next args first good place =
      cond_both (is_good b s.tables && int_lt (count_of (semaphore_at s.tables b)) most_tokens) (returns (signalled b (start (asked s))) OK) (refused (asked s))
      (λ (r : CallResult). Did s.tables.current q a b n m at Done g i j s (end_of_event s.tables.current (call_line s.tables.current 19 args) r))
      (λ _. by_waiters (semaphore_at s.tables b).waiters refl)
      (λ fails. absurd (both_ways (is_good b s.tables && int_lt (count_of (semaphore_at s.tables b)) most_tokens) fails
      (and_from (is_good b s.tables) (int_lt (count_of (semaphore_at s.tables b)) most_tokens) good
      (few_tokens (semaphore_at s.tables b).tokens (length (semaphore_at s.tables b).waiters) (few c.pair.their)))))
    where
      few : IsSemaphore (semaphore_at s.tables b) c.pair.b_tokens m → (semaphore_at s.tables b).tokens ≤ 2
      few (inl k) = (let e = k.1 in let sum = c.pair.own_sum in let their_sum = c.pair.their_sum in let all = c.two.tokens in omega arith)
      few (inr k) = let f = ap is_images k.0 in absurd (cc)

      by_waiters : (l : List ℕ) → (semaphore_at s.tables b).waiters ≡ l
          → Did s.tables.current q a b n m at Done g i j s (end_of_event s.tables.current (call_line s.tables.current 19 args) (returns (signal_first b l (start (asked s))) OK))
      by_waiters [] e = freed args first good place
      by_waiters (z ∷ zs) e =
          let w = waiter_is z zs e in
          subst (λ y. Did s.tables.current q a b n m at Done g i j s (end_of_event s.tables.current (call_line s.tables.current 19 args)
          (returns (signal_first b (y ∷ zs) (start (asked s))) OK))) (sym w.1)
          (subst (λ left. Did s.tables.current q a b n m at Done g i j s (end_of_event s.tables.current (call_line s.tables.current 19 args)
          (returns (record (ready_later q (start (asked s))) { released = [] ++ reply_at_unblock OK q left }) OK)))
          (sym c.pair.other.rest) (handed args zs first (subst (λ y. state_at s.tables y ≡ Waiting) w.1 w.0) place))
