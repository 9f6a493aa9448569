-- What a turn of the processes leaves alone: nobody stops waiting, and no process's semaphore changes.
use Rattle.std.proofs.Common.{Option, inl, inr, length, refl, subst, sym, ℕ, ◌<◌, ◌∙◌, ◌≡◌, ◌≤◌, ◌⊎◌}
use Rattle.scheduling_laws.proofs.Counts.{semaphore_resched}
use Rattle.scheduling_laws.proofs.Resched.{by_resched}
use Rattle.table_laws.proofs.Tables.MoveTo.{by_number, process_move_other, process_move_same, within_table}
use Rattle.xinu_base.specs.declared.processes.Process.{Process}
use Rattle.xinu_base.specs.declared.processes.State.TheVariants.{Current, Ready}
use Rattle.xinu_model.specs.Process.Scheduling.{in_state, resched}
use Rattle.xinu_model.specs.Sound.Tables.{CanRun, IsInside}
use Rattle.xinu_model.specs.Tables.{InReady, Nowhere, Place, Tables, message_at, move_to, process_at, semaphore_at}

-- A process has the same left of its call, and is in the same state, or could run and still can.
pub record Turned (x y : Process) : Type 0 where
  pub rest : y.rest ≡ x.rest
  pub state : (y.state ≡ x.state) ⊎ (CanRun x.state × CanRun y.state)

pub turned_same : (x : Process) → Turned x x
turned_same x = record { rest = refl; state = inl refl }

pub turned_through : {x y z : Process} → Turned x y → Turned y z → Turned x z
turned_through {x} {y} {z} a b = record { rest = b.rest ∙ a.rest; state = both a.state b.state }
  where
    both : (y.state ≡ x.state) ⊎ (CanRun x.state × CanRun y.state) → (z.state ≡ y.state) ⊎ (CanRun y.state × CanRun z.state)
        → (z.state ≡ x.state) ⊎ (CanRun x.state × CanRun z.state)
    both (inl e) (inl f) = inl (f ∙ e)
    both (inl e) (inr (c, d)) = inr (subst CanRun e c, d)
    both (inr (c, d)) (inl f) = inr (c, subst CanRun (sym f) d)
    both (inr (c, d)) (inr (f, g)) = inr (c, g)

-- each process
abbrev pub AreTurned : Tables → Tables → Type 0
AreTurned t u = (p : ℕ) → Turned (process_at t p) (process_at u p)

pub record Turns (t u : Tables) : Type 0 where
  pub entries : AreTurned t u
  pub semaphores : (sem : ℕ) → 4 ≤ sem → semaphore_at u sem ≡ semaphore_at t sem
  pub last : u.last_semaphore ≡ t.last_semaphore

pub turns_same : (t : Tables) → Turns t t
turns_same t = record { entries = λ p. turned_same (process_at t p); semaphores = λ sem h. refl; last = refl }

pub turns_through : {t u v : Tables} → Turns t u → Turns u v → Turns t v
turns_through a b = record {
  entries = λ p. turned_through (a.entries p) (b.entries p);
  semaphores = λ sem h. b.semaphores sem h ∙ a.semaphores sem h;
  last = b.last ∙ a.last;
}

-- one process moves
pub turned_move : (t : Tables) (q : ℕ) (x : Process) (m : Option ℕ) (place : Place) → length t.processes ≡ 64 → q < 64 → Turned (process_at t q) x
    → AreTurned t (move_to q x m place t)
turned_move t q x m place many within turned p =
    by_number p q (λ r. Turned (process_at t r) (process_at (move_to q x m place t) r))
    (subst (Turned (process_at t q)) (sym (process_move_same t q x m place many within)) turned)
    (λ other. subst (Turned (process_at t p)) (sym (process_move_other t p q x m place other)) (turned_same (process_at t p)))

-- a resched
pub turned_resched : (t : Tables) → IsInside t → AreTurned t (resched t)
turned_resched t o =
    by_resched (AreTurned t) t o (λ p. turned_same (process_at t p))
    (λ e. turned_move t t.current (in_state Ready (process_at t t.current)) (message_at t t.current) InReady o.processes
    (within_table t t.current o.processes (λ f. cc)) (record { rest = refl; state = inr (inl e, inr refl) }))
    (λ u q i e k p. turned_through (k p)
    (turned_move (record u { current = q; quantum = 2 }) q (in_state Current (process_at u q)) (message_at u q) Nowhere i.processes
    (within_table u q i.processes (λ f. cc)) (record { rest = refl; state = inr (inr e, inl refl) }) p))

pub turns_resched : (t : Tables) → IsInside t → Turns t (resched t)
turns_resched t o = record {
  entries = turned_resched t o;
  semaphores = λ sem h. semaphore_resched t sem o;
  last = by_resched (λ u. u.last_semaphore ≡ t.last_semaphore) t o refl (λ e. refl) (λ u q i e k. k);
}
