-- Two semaphores are changed, and before each change those who wait there become ready. The first change may as well come after all have.
use Rattle.std.proofs.Common.{◌≡◌, ◌≢◌, ◌∙◌, ℕ, List, [], ◌∷◌, set, refl, sym, ap, get_or-set_other}
use Rattle.std.proofs.lemmas.List.{map-set}
use Rattle.table_laws.proofs.Tables.Places.{semaphore_at_without}
use Rattle.xinu_model.specs.Process.Scheduling.{ready, ready_all}
use Rattle.xinu_model.specs.Semaphores.Counts.{with_semaphore}
use Rattle.xinu_model.specs.Tables.{no_semaphore, Semaphore, semaphore_at, semaphore_without, Tables, waits_without}

-- semaphore sem becomes another
abbrev pub changed : ℕ → (Semaphore → Semaphore) → Tables → Tables
changed sem f t = with_semaphore sem (f (semaphore_at t sem)) t

-- A change doesn't depend on who waits.
pub record IsBlind (f : Semaphore → Semaphore) : Type 0 where
  pub without : (p : ℕ) (x : Semaphore) → semaphore_without p (f x) ≡ f (semaphore_without p x)

ready_changed : (t : Tables) (sem p : ℕ) (f : Semaphore → Semaphore) → IsBlind f → ready p (changed sem f t) ≡ changed sem f (ready p t)
ready_changed t sem p f b =
    let l = t.semaphores in
    ap (λ s. record (ready p t) { semaphores = s })
    (map-set (semaphore_without p) l sem (f (semaphore_at t sem))
    ∙ ap (set (waits_without p l) sem) (b.without p (semaphore_at t sem) ∙ ap f (sym (semaphore_at_without p sem l))))

ready_all_changed : (ps : List ℕ) (t : Tables) (sem : ℕ) (f : Semaphore → Semaphore) → IsBlind f
    → ready_all ps (changed sem f t) ≡ changed sem f (ready_all ps t)
ready_all_changed [] t sem f b = refl
ready_all_changed (p ∷ ps) t sem f b = ap (ready_all ps) (ready_changed t sem p f b) ∙ ready_all_changed ps (ready p t) sem f b

-- those who wait on a semaphore become ready, and it becomes another
abbrev pub released_to : ℕ → (Semaphore → Semaphore) → Tables → Tables
released_to sem f t = changed sem f (ready_all (semaphore_at t sem).waiters t)

-- another semaphore is as it was
pub changed_other : (t : Tables) (a b : ℕ) (f : Semaphore → Semaphore) → a ≢ b → semaphore_at (changed a f t) b ≡ semaphore_at t b
changed_other t a b f n = get_or-set_other t.semaphores a b (f (semaphore_at t a)) no_semaphore (λ e. n (sym e))

pub in_turn : (t : Tables) (a b : ℕ) (f g : Semaphore → Semaphore) → IsBlind f → a ≢ b
    → (let u = ready_all (semaphore_at t a).waiters t in
    released_to b g (released_to a f t) ≡ changed b g (changed a f (ready_all (semaphore_at u b).waiters u)))
in_turn t a b f g blind n =
    let u = ready_all (semaphore_at t a).waiters t in
    let v = changed a f u in
    ap (λ (x : Semaphore). changed b g (ready_all x.waiters v)) (changed_other u a b f n)
    ∙ ap (changed b g) (ready_all_changed (semaphore_at u b).waiters u a f blind)
