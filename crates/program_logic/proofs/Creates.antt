-- `semcreate` with a count of one: the semaphore of the system is made, or another one.
use Rattle.std.proofs.Common.{Bool, List, None, Option, Some, [], ap, arith, cond, false, get_or, inl, min, not, pos, refl, set, subst, suc, sym, true, zero, ℕ, ⊎_elim, ◌++◌, ◌+◌, ◌-◌, ◌<◌, ◌∙◌, ◌≡◌, ◌≢◌}
use Rattle.std.proofs.lemmas.List.{get_or-set_other, get_or-set_same}
use Rattle.std.specs.List.{find}
use Rattle.std.specs.Prelude.{is_some}
use Rattle.table_laws.proofs.Tables.Found.{free_semaphore_free}
use Rattle.xinu_base.specs.Constants.{SYSERR}
use Rattle.xinu_base.specs.declared.semaphores.Owner.TheVariants.{Image}
use Rattle.xinu_laws.proofs.Preserve.Semaphores.{good_semaphore}
use Rattle.xinu_model.specs.Machine.{Xinu, end_of_event, no_hart}
use Rattle.xinu_model.specs.Memory.{number_at}
use Rattle.xinu_model.specs.Searches.{numbers_from, search}
use Rattle.xinu_model.specs.Semaphores.Calls.{made_semaphore}
use Rattle.xinu_model.specs.Semaphores.Counts.{free_semaphore, is_images, make_semaphore}
use Rattle.xinu_model.specs.Tables.{Semaphore, no_semaphore, process_at, semaphore_at}
use Rattle.xinu_model.specs.Words.{word}
use Rattle.program_logic.proofs.Answering.{Acts, Next, answered, asked, call_line}
use Rattle.program_logic.proofs.Turns.{turned_same}
use Rattle.program_logic.specs.Obeying.{IsSystem}
use Rattle.program_logic.specs.Outlines.{At, System, has, no_row, says, tokens_for}
use Rattle.program_logic.specs.Running.{IsMade, IsUnmade}

-- the next number is found if it is free
next_found : (test : ℕ → Bool) (sem first : ℕ) → first ≡ sem → sem < 128 → test sem ≡ true → search test 128 first ≡ Some sem
next_found test sem first is within passes = subst (λ f. search test 128 f ≡ Some sem) (sym is) (by_size (128 - sem) refl)
  where
    by_size : (j : ℕ) → 128 - sem ≡ j → find test (numbers_from sem (128 - sem) ++ numbers_from 0 (min sem 128)) ≡ Some sem
    by_size zero e = absurd (omega arith)
    by_size (suc j) e =
        ap (λ i. find test (numbers_from sem i ++ numbers_from 0 (min sem 128))) e
        ∙ ap (λ b. cond b (Some sem) (find test (numbers_from (sem + 1) j ++ numbers_from 0 (min sem 128)))) passes

module _ {y : System} {holder : Option ℕ} {n k : ℕ} {s : Xinu} (ok : IsSystem y) (c : Acts y holder n k s) where
  -- `semcreate` with a count of one
  pub created : (args : List ℕ) → has holder s.tables.current ≡ false
      → ((m w value : ℕ) → At y s.tables.current false (suc k) m w (set (get_or s.harts s.tables.current no_hart).regs 10 value))
      → Next y n (end_of_event s.tables.current (call_line s.tables.current 14 args) (made_semaphore 1 (free_semaphore s.tables) (asked s)))
  created args outside after = by_found (free_semaphore s.tables) refl
    where
      at : (value : ℕ) → At y s.tables.current (has holder s.tables.current) (suc k) n (number_at s.memory y.word 4) (set (get_or s.harts s.tables.current no_hart).regs 10 value)
      at value =
          subst (λ b. says b (get_or (y.code s.tables.current) (suc k) no_row) n (number_at s.memory y.word 4)
          (set (get_or s.harts s.tables.current no_hart).regs 10 value)) (sym outside) (after n (number_at s.memory y.word 4) value)

      by_found : (o : Option ℕ) → free_semaphore s.tables ≡ o → Next y n (end_of_event s.tables.current (call_line s.tables.current 14 args) (made_semaphore 1 o (asked s)))
      by_found None e = record {
        holder = holder;
        count = n;
        is = omega arith;
        running = answered ok c holder n SYSERR s.tables (λ q. turned_same (process_at s.tables q)) (λ q other. (refl, λ e. refl)) (at 4294967295) c.runs.running.lock;
        calm = refl;
      }
      by_found (Some r) e = record {
        holder = holder;
        count = n;
        is = omega arith;
        running = answered ok c holder n (pos r) (make_semaphore r Image 1 s.tables) (λ q. turned_same (process_at s.tables q)) (λ q other. (refl, λ e. refl)) (at (word (pos r)))
            (⊎_elim (λ (made : IsMade y holder n (number_at s.memory y.word 4) s.tables). inl (another made))
            (λ (un : IsUnmade y holder n (number_at s.memory y.word 4) s.tables). inl (the_one un)) c.runs.running.lock);
        calm = refl;
      }
        where
          another : IsMade y holder n (number_at s.memory y.word 4) s.tables
              → IsMade y holder n (number_at s.memory y.word 4) (make_semaphore r Image 1 s.tables)
          another made =
              let free = free_semaphore_free s.tables r e in
              let g = good_semaphore s.tables y.sem c.runs.sound.tables.inside made.good in
              let other : y.sem ≢ r = λ f. let o = ap (λ i. (semaphore_at s.tables i).owner) f in let own = g.owner in absurd (cc) in
              let same = get_or-set_other s.tables.semaphores r y.sem (record { owner = Some Image; tokens = 1; waiters = [] }) no_semaphore other in
              record {
                good = ap (λ (z : Semaphore). is_images z.owner) same ∙ made.good;
                tokens = ap (λ (z : Semaphore). z.tokens) same ∙ made.tokens;
                rule = made.rule;
                one = made.one;
              }

          the_one : IsUnmade y holder n (number_at s.memory y.word 4) s.tables
              → IsMade y holder n (number_at s.memory y.word 4) (make_semaphore r Image 1 s.tables)
          the_one un =
              let found : free_semaphore s.tables ≡ Some y.sem =
              next_found (λ i. not (is_some (semaphore_at s.tables i).owner)) y.sem (s.tables.last_semaphore + 1) un.next ok.within (ap (λ o. not (is_some o)) un.free) in
              let is : r ≡ y.sem = (let f = sym e ∙ found in cc) in
              let many = c.runs.sound.tables.inside.semaphores in
              let small = ok.within in
              let same : semaphore_at (make_semaphore r Image 1 s.tables) y.sem ≡ record { owner = Some Image; tokens = 1; waiters = [] } =
              subst (λ i. get_or (set s.tables.semaphores i (record { owner = Some Image; tokens = 1; waiters = [] })) y.sem no_semaphore
              ≡ record { owner = Some Image; tokens = 1; waiters = [] }) (sym is)
              (get_or-set_same s.tables.semaphores y.sem (record { owner = Some Image; tokens = 1; waiters = [] }) no_semaphore (omega arith)) in
              record {
                good = ap (λ (z : Semaphore). is_images z.owner) same;
                tokens = ap (λ (z : Semaphore). z.tokens) same ∙ sym (ap tokens_for un.nobody);
                rule = λ f. un.rule;
                one = λ z f. (let g = un.nobody in absurd (cc));
              }
