-- What is said of the two processes stays so as turns, the console and the kernel's semaphores change; and it can be said from either side.
use Rattle.std.proofs.Common.{◌≡◌, ◌∙◌, ◌⊎◌, inl, inr, sym, ap, subst, arith, ℕ, ◌+◌, ◌≤◌, List, get_or, None}
use Rattle.xinu_base.specs.declared.processes.Process.{Process}
use Rattle.xinu_base.specs.declared.registers.Hart.{Hart}
use Rattle.xinu_model.specs.Machine.{no_hart}
use Rattle.xinu_model.specs.Semaphores.Counts.{is_images}
use Rattle.xinu_model.specs.Sound.Tables.{CanRun}
use Rattle.xinu_model.specs.Tables.{Semaphore, Tables, process_at}
use Rattle.program_logic.proofs.Threads.{cant_run, free_kept}
use Rattle.program_logic.proofs.Turns.{Turned, Turns}
use Rattle.bounded_buffer.proofs.Obeying.{Neither, One, Stage, Two}
use Rattle.bounded_buffer.proofs.Running.{IsPair, IsSemaphore, IsStage, IsThread, Stands, owner_of}
use Rattle.bounded_buffer.specs.Places.{Phase}

stands_kept : (p : ℕ) (f : Phase) (k c : ℕ) (regs : List ℕ) (old new : Process) → Turned old new → Stands p f k c regs old.state → Stands p f k c regs new.state
stands_kept p f k c regs old new turned stands = by turned.state stands
  where
    by : (new.state ≡ old.state) ⊎ (CanRun old.state × CanRun new.state) → Stands p f k c regs old.state → Stands p f k c regs new.state
    by (inl e) (inl (can, at)) = inl (subst CanRun (sym e) can, at)
    by (inl e) (inr (waits, rest)) = inr (e ∙ waits, rest)
    by (inr (can, can_now)) (inl (still, at)) = inl (can_now, at)
    by (inr (can, can_now)) (inr (waits, rest)) = absurd (cant_run old.state can waits)

-- A process whose registers stay is within its program as it was.
pub thread_kept : (p : ℕ) (f : Phase) (c : ℕ) (t u : Tables) (h g : Hart) → g ≡ h → Turned (process_at t p) (process_at u p) → IsThread p f c t h → IsThread p f c u g
thread_kept p f c t u h g is turned k =
    subst (IsThread p f c u) (sym is) (record {
      place = k.place;
      pc = k.pc;
      regs = k.regs;
      rest = turned.rest ∙ k.rest;
      stands = stands_kept p f k.place c h.regs (process_at t p) (process_at u p) turned k.stands;
    })

-- A semaphore with the same owner and as many tokens.
pub semaphore_kept : (x z : Semaphore) (tokens gets : ℕ) → z.owner ≡ x.owner → z.tokens ≡ x.tokens → IsSemaphore x tokens gets → IsSemaphore z tokens gets
semaphore_kept x z tokens gets owner same (inl k) = inl (ap is_images owner ∙ k.0, same ∙ k.1)
semaphore_kept x z tokens gets owner same (inr k) = inr (owner ∙ k.0, k.1)

-- The processes' semaphores have the same owners.
pub record HaveOwners (t u : Tables) : Type 0 where
  pub owners : (sem : ℕ) → 4 ≤ sem → owner_of u sem ≡ owner_of t sem
  pub last : u.last_semaphore ≡ t.last_semaphore

pub stage_kept : (stage : Stage) (t u : Tables) → HaveOwners t u → IsStage stage t → IsStage stage u
stage_kept Neither t u k made =
    (k.owners 4 (omega arith) ∙ made.0, (k.owners 5 (omega arith) ∙ made.1.0, (k.owners 6 (omega arith) ∙ made.1.1.0, ap (λ i. i + 1) k.last ∙ made.1.1.1)))
stage_kept One t u k made =
    (ap is_images (k.owners 4 (omega arith)) ∙ made.0, (k.owners 5 (omega arith) ∙ made.1.0, (k.owners 6 (omega arith) ∙ made.1.1.0, ap (λ i. i + 1) k.last ∙ made.1.1.1)))
stage_kept Two t u k made =
    (ap is_images (k.owners 4 (omega arith)) ∙ made.0, (ap is_images (k.owners 5 (omega arith)) ∙ made.1.0, (k.owners 6 (omega arith) ∙ made.1.1.0, ap (λ i. i + 1) k.last ∙ made.1.1.1)))

-- the next number is free
pub next_free : (stage : Stage) (t : Tables) → IsStage stage t → owner_of t (t.last_semaphore + 1) ≡ None
next_free Neither t made = subst (λ i. owner_of t i ≡ None) (sym made.1.1.1) made.0
next_free One t made = subst (λ i. owner_of t i ≡ None) (sym made.1.1.1) made.1.0
next_free Two t made = subst (λ i. owner_of t i ≡ None) (sym made.1.1.1) made.1.1.0

-- The frame rule: both processes run on.
pub pair_kept : (p q a b n m : ℕ) (stage : Stage) (f g : Phase) (i j : ℕ) (t u : Tables) (harts after : List Hart) → 4 ≤ a → 4 ≤ b → Turns t u → after ≡ harts
    → IsPair p q a b n m stage f g i j t harts → IsPair p q a b n m stage f g i j u after
pair_kept p q a b n m stage f g i j t u harts after low high turns same k = record {
  mine = thread_kept p f i t u (get_or harts p no_hart) (get_or after p no_hart) (ap (λ l. get_or l p no_hart) same) (turns.entries p) k.mine;
  other = thread_kept q g j t u (get_or harts q no_hart) (get_or after q no_hart) (ap (λ l. get_or l q no_hart) same) (turns.entries q) k.other;
  free = λ r some not neither. free_kept (process_at t r) (process_at u r) (turns.entries r) (k.free r some not neither);
  a_tokens = k.a_tokens;
  b_tokens = k.b_tokens;
  own = subst (λ x. IsSemaphore x k.a_tokens n) (sym (turns.semaphores a low)) k.own;
  own_sum = k.own_sum;
  their = subst (λ x. IsSemaphore x k.b_tokens m) (sym (turns.semaphores b high)) k.their;
  their_sum = k.their_sum;
  made = stage_kept stage t u (record { owners = λ sem far. ap (λ (x : Semaphore). x.owner) (turns.semaphores sem far); last = turns.last }) k.made;
}

-- The same from the other side.
pub swapped : (p q a b n m : ℕ) (stage : Stage) (f g : Phase) (i j : ℕ) (t : Tables) (harts : List Hart) → IsPair p q a b n m stage f g i j t harts
    → IsPair q p b a m n stage g f j i t harts
swapped p q a b n m stage f g i j t harts k = record {
  mine = k.other;
  other = k.mine;
  free = λ r some not neither. k.free r some neither not;
  a_tokens = k.b_tokens;
  b_tokens = k.a_tokens;
  own = k.their;
  own_sum = k.their_sum;
  their = k.own;
  their_sum = k.own_sum;
  made = k.made;
}
