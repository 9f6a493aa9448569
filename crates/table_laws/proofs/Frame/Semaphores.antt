-- What changes of a semaphore leave alone: all others.
use Rattle.std.proofs.Common.{◌≡◌, ◌≢◌, ℕ, ◌<◌, Bool, true, false, filter, [], Option, Some, refl, sym, ap, subst, ◌∙◌, ⊎_elim, get_or-set_other}
use Rattle.std.proofs.lemmas.Bool.{both_ways, false_from_ne_true}
use Rattle.xinu_base.specs.declared.processes.Rest.{Rest}
use Rattle.xinu_base.specs.declared.semaphores.Owner.{Owner}
use Rattle.xinu_model.specs.Semaphores.Counts.{with_semaphore, make_semaphore}
use Rattle.xinu_model.specs.Sound.Tables.{count_in}
use Rattle.xinu_model.specs.Tables.{Semaphore, no_semaphore, Tables, semaphore_at}
use Rattle.table_laws.specs.Frame.{Frame, waits_at}
use Rattle.table_laws.proofs.Frame.{frame_same, frame_trans}
use Rattle.table_laws.proofs.Frame.MoveTo.{read_written}
use Rattle.table_laws.proofs.Tables.MoveTo.{by_number}

module _ {mine : ℕ → Option Owner → Bool} {asks : Rest → Bool} where
  -- a semaphore that isn't left alone still isn't after a move
  pub others_framed : (t u : Tables) (sem : ℕ) → Frame mine asks t u → mine sem (semaphore_at t sem).owner ≡ false
      → mine sem (semaphore_at u sem).owner ≡ false
  others_framed t u sem c e =
      false_from_ne_true (mine sem (semaphore_at u sem).owner)
      (λ h. both_ways (mine sem (semaphore_at t sem).owner) e (ap (mine sem) (sym (c.old sem h)) ∙ h))

  -- A semaphore changes that isn't left alone, neither before nor after.
  pub frame_semaphore : (t : Tables) (sem : ℕ) (x : Semaphore) → mine sem (semaphore_at t sem).owner ≡ false → mine sem x.owner ≡ false
      → Frame mine asks t (with_semaphore sem x t)
  frame_semaphore t sem x old new =
      let u = with_semaphore sem x t in
      let same = λ (r : ℕ) (n : r ≢ sem). get_or-set_other t.semaphores sem r x no_semaphore n in
      record {
        many = refl;
        kept = λ r. by_number r sem (λ k. mine k (semaphore_at t k).owner ≡ true → ((semaphore_at u k).owner ≡ (semaphore_at t k).owner) × ((semaphore_at u k).tokens ≡ (semaphore_at t k).tokens))
            (λ m. absurd (both_ways (mine sem (semaphore_at t sem).owner) old m))
            (λ n m. (ap (λ (y : Semaphore). y.owner) (same r n), ap (λ (y : Semaphore). y.tokens) (same r n)));
        old = λ r. by_number r sem (λ k. mine k (semaphore_at u k).owner ≡ true → (semaphore_at u k).owner ≡ (semaphore_at t k).owner)
            (λ m. ⊎_elim
            (λ (e : semaphore_at u sem ≡ x). absurd
            (both_ways (mine sem x.owner) new (ap (λ (y : Semaphore). mine sem y.owner) (sym e) ∙ m)))
            (λ (e : semaphore_at u sem ≡ semaphore_at t sem). ap (λ (y : Semaphore). y.owner) e)
            (read_written t.semaphores sem x no_semaphore))
            (λ n m. ap (λ (y : Semaphore). y.owner) (same r n));
        waiters = λ r p. by_number r sem (λ k. mine k (semaphore_at t k).owner ≡ true → 0 < count_in p (semaphore_at u k).waiters → 0 < count_in p (semaphore_at t k).waiters)
            (λ m. absurd (both_ways (mine sem (semaphore_at t sem).owner) old m))
            (λ n m. subst (λ (y : Semaphore). 0 < count_in p y.waiters) (same r n));
        order = λ r. by_number r sem (λ k. mine k (semaphore_at t k).owner ≡ true → filter (waits_at asks u) (semaphore_at u k).waiters ≡ filter (waits_at asks u) (semaphore_at t k).waiters)
            (λ m. absurd (both_ways (mine sem (semaphore_at t sem).owner) old m))
            (λ n m. ap (λ (y : Semaphore). filter (waits_at asks u) y.waiters) (same r n));
        rests = λ p h. (refl, refl);
      }

  -- A semaphore that no one owns is made.
  pub frame_make_semaphore : (t : Tables) (sem : ℕ) (by : Owner) (n : ℕ) → mine sem (semaphore_at t sem).owner ≡ false
      → mine sem (Some by) ≡ false → Frame mine asks t (make_semaphore sem by n t)
  frame_make_semaphore t sem by n old new =
      let x : Semaphore = record { owner = Some by; tokens = n; waiters = [] } in
      let u = with_semaphore sem x t in
      frame_trans t u (make_semaphore sem by n t) (frame_semaphore t sem x old new) (frame_same u (make_semaphore sem by n t) refl refl)
