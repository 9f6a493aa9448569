-- `semcreate`: the producer makes the two semaphores, one after the other.
use Rattle.std.proofs.Common.{◌≡◌, ◌≢◌, ◌∙◌, inl, inr, refl, sym, ap, subst, arith, ℕ, suc, zero, ◌+◌, ◌-◌, ◌<◌, ◌++◌, List, [], get_or, set, Bool, not, cond, true, pos, min, Some, None}
use Rattle.std.proofs.lemmas.List.{get_or-set_other, get_or-set_same}
use Rattle.std.specs.List.{find}
use Rattle.std.specs.Prelude.{is_some}
use Rattle.xinu_base.specs.declared.semaphores.Owner.TheVariants.{Image}
use Rattle.xinu_model.specs.Machine.{Xinu, end_of_event, no_hart}
use Rattle.xinu_model.specs.Searches.{numbers_from, search}
use Rattle.xinu_model.specs.Semaphores.Calls.{made_semaphore}
use Rattle.xinu_model.specs.Semaphores.Counts.{free_semaphore, is_images, make_semaphore}
use Rattle.xinu_model.specs.Tables.{Semaphore, Tables, no_semaphore, process_at, semaphore_at}
use Rattle.xinu_model.specs.Words.{word}
use Rattle.program_logic.proofs.Answering.{asked, call_line}
use Rattle.program_logic.proofs.Turns.{turned_same}
use Rattle.bounded_buffer.proofs.Calling.{Acts, Did, answered}
use Rattle.bounded_buffer.proofs.Obeying.{Neither, One, Stage, Two, held, stage_of}
use Rattle.bounded_buffer.proofs.Running.{IsSemaphore, owner_of}
use Rattle.bounded_buffer.specs.Buffer.{At}
use Rattle.bounded_buffer.specs.Places.{Bare, Outside, Phase, Single}

-- the next number is found if it is free
next_found : (test : ℕ → Bool) (sem first : ℕ) → first ≡ sem → sem < 128 → test sem ≡ true → search test 128 first ≡ Some sem
next_found test sem first is within passes = subst (λ f. search test 128 f ≡ Some sem) (sym is) (by_size (128 - sem) refl)
  where
    by_size : (j : ℕ) → 128 - sem ≡ j → find test (numbers_from sem (128 - sem) ++ numbers_from 0 (min sem 128)) ≡ Some sem
    by_size zero e = absurd (omega arith)
    by_size (suc j) e =
        ap (λ i. find test (numbers_from sem i ++ numbers_from 0 (min sem 128))) e
        ∙ ap (λ b. cond b (Some sem) (find test (numbers_from (sem + 1) j ++ numbers_from 0 (min sem 128)))) passes

free_is : (t : Tables) (sem : ℕ) → owner_of t sem ≡ None → t.last_semaphore + 1 ≡ sem → sem < 128 → free_semaphore t ≡ Some sem
free_is t sem free last within =
    next_found (λ i. not (is_some (semaphore_at t i).owner)) sem (t.last_semaphore + 1) last within (ap (λ o. not (is_some o)) free)

-- the stage goes by the phase of the producer
abbrev pub by_own : Phase → Phase → Stage
by_own own their = stage_of own

-- a semaphore with these tokens
abbrev new : ℕ → Semaphore
new tokens = record { owner = Some Image; tokens = tokens; waiters = [] }

module _ {q : ℕ} {g : Phase} {i j k : ℕ} {s : Xinu} where
  -- the first, with two tokens
  pub room_made : Acts q 4 5 2 0 Neither Bare g i j k s → (args : List ℕ)
      → ((x : ℕ) → At s.tables.current Single (suc k) i (set (get_or s.harts s.tables.current no_hart).regs 10 x))
      → Did s.tables.current q 4 5 2 0 by_own Bare g i j s (end_of_event s.tables.current (call_line s.tables.current 14 args) (made_semaphore 2 (free_semaphore s.tables) (asked s)))
  room_made c args place =
      let t = s.tables in
      let made = c.pair.made in
      let many = c.sound.tables.inside.semaphores in
      let there = get_or-set_same t.semaphores 4 (new 2) no_semaphore (omega arith) in
      let other : (sem : ℕ) → sem ≢ 4 → semaphore_at (make_semaphore 4 Image 2 t) sem ≡ semaphore_at t sem = λ sem not. get_or-set_other t.semaphores 4 sem (new 2) no_semaphore not in
      subst (λ o. Did s.tables.current q 4 5 2 0 by_own Bare g i j s (end_of_event s.tables.current (call_line s.tables.current 14 args) (made_semaphore 2 o (asked s))))
      (sym (free_is t 4 made.0 made.1.1.1 (omega arith)))
      (record {
        to = Single;
        their_to = g;
        count = i;
        pair = answered c One Single i (pos 4) (make_semaphore 4 Image 2 t) 2 c.pair.b_tokens (λ r. turned_same (process_at t r)) (place (word (pos 4)))
            (inl (ap (λ (z : Semaphore). is_images z.owner) there, ap (λ (z : Semaphore). z.tokens) there)) (sum c.pair.own)
            (subst (λ z. IsSemaphore z c.pair.b_tokens 0) (sym (other 5 (λ e. absurd (omega arith)))) c.pair.their) c.pair.their_sum (
              ap (λ (z : Semaphore). is_images z.owner) there,
              (
                ap (λ (z : Semaphore). z.owner) (other 5 (λ e. absurd (omega arith))) ∙ made.1.0,
                (ap (λ (z : Semaphore). z.owner) (other 6 (λ e. absurd (omega arith))) ∙ made.1.1.0, refl),
              ),
            );
        memory = refl;
        disk = refl;
        files = refl;
        more = omega arith;
        reach = λ e. refl;
        their_reach = refl;
        is = omega arith;
        none = refl;
        calm = refl;
      })
    where
      sum : IsSemaphore (semaphore_at s.tables 4) c.pair.a_tokens 2 → 2 + (held Single + i) ≡ 2 + j
      sum (inl k) = let f = ap is_images c.pair.made.0 in let e = k.0 in absurd (cc)
      sum (inr k) = (let e = k.1 in let sum = c.pair.own_sum in omega arith)

  -- the second, with none
  pub items_made : Acts q 4 5 2 0 One Single g i j k s → (args : List ℕ)
      → ((x : ℕ) → At s.tables.current Outside (suc k) i (set (get_or s.harts s.tables.current no_hart).regs 10 x))
      → Did s.tables.current q 4 5 2 0 by_own Single g i j s (end_of_event s.tables.current (call_line s.tables.current 14 args) (made_semaphore 0 (free_semaphore s.tables) (asked s)))
  items_made c args place =
      let t = s.tables in
      let made = c.pair.made in
      let many = c.sound.tables.inside.semaphores in
      let there = get_or-set_same t.semaphores 5 (new 0) no_semaphore (omega arith) in
      let other : (sem : ℕ) → sem ≢ 5 → semaphore_at (make_semaphore 5 Image 0 t) sem ≡ semaphore_at t sem = λ sem not. get_or-set_other t.semaphores 5 sem (new 0) no_semaphore not in
      subst (λ o. Did s.tables.current q 4 5 2 0 by_own Single g i j s (end_of_event s.tables.current (call_line s.tables.current 14 args) (made_semaphore 0 o (asked s))))
      (sym (free_is t 5 made.1.0 made.1.1.1 (omega arith)))
      (record {
        to = Outside;
        their_to = g;
        count = i;
        pair = answered c Two Outside i (pos 5) (make_semaphore 5 Image 0 t) c.pair.a_tokens 0 (λ r. turned_same (process_at t r)) (place (word (pos 5)))
            (subst (λ z. IsSemaphore z c.pair.a_tokens 2) (sym (other 4 (λ e. absurd (omega arith)))) c.pair.own) c.pair.own_sum
            (inl (ap (λ (z : Semaphore). is_images z.owner) there, ap (λ (z : Semaphore). z.tokens) there)) (sum c.pair.their) (
              ap (λ (z : Semaphore). is_images z.owner) (other 4 (λ e. absurd (omega arith))) ∙ made.0,
              (
                ap (λ (z : Semaphore). is_images z.owner) there,
                (ap (λ (z : Semaphore). z.owner) (other 6 (λ e. absurd (omega arith))) ∙ made.1.1.0, refl),
              ),
            );
        memory = refl;
        disk = refl;
        files = refl;
        more = omega arith;
        reach = λ e. refl;
        their_reach = refl;
        is = omega arith;
        none = refl;
        calm = refl;
      })
    where
      sum : IsSemaphore (semaphore_at s.tables 5) c.pair.b_tokens 0 → 0 + (held g + j) ≡ 0 + i
      sum (inl k) = let f = ap is_images c.pair.made.1.0 in let e = k.0 in absurd (cc)
      sum (inr k) = (let e = k.1 in let sum = c.pair.their_sum in omega arith)
