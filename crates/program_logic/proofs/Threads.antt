-- What is said of a process stays so as others act.
use Rattle.std.proofs.Common.{Bool, List, None, Option, ap, false, get_or, inl, inr, refl, set, subst, sym, true, ℕ, ⊎_elim, ◌+◌, ◌∙◌, ◌≡◌, ◌≤◌, ◌⊎◌}
use Rattle.xinu_base.specs.declared.processes.Process.{Process}
use Rattle.xinu_base.specs.declared.processes.State.{State}
use Rattle.xinu_base.specs.declared.processes.State.TheVariants.{Current, Free, Ready, Sleeping, Waiting}
use Rattle.xinu_base.specs.declared.registers.Hart.{Hart}
use Rattle.xinu_model.specs.Machine.{Xinu, no_hart}
use Rattle.xinu_model.specs.Memory.{number_at}
use Rattle.xinu_model.specs.Semaphores.Counts.{is_images}
use Rattle.xinu_model.specs.Sound.Tables.{CanRun}
use Rattle.xinu_model.specs.Tables.{Semaphore, Tables, process_at, semaphore_at}
use Rattle.program_logic.proofs.Turns.{Turned, Turns}
use Rattle.program_logic.specs.Images.{Lie}
use Rattle.program_logic.specs.Outlines.{Row, Rule, Says, System, has, no_row, says, words_of}
use Rattle.program_logic.specs.Running.{AreRunning, IsMade, IsThread, IsUnmade, Stands}

-- What is said of a place stays so: who hasn't the token knows nothing of what others may change.
pub says_kept : (b c : Bool) (r : Row) (n v m w : ℕ) (regs : List ℕ) → c ≡ b → (b ≡ true → (m ≡ n) × (w ≡ v)) → says b r n v regs → says c r m w regs
says_kept false false r n v m w regs same if_has may = may
says_kept false true r n v m w regs same if_has may = absurd (cc)
says_kept true false r n v m w regs same if_has may = absurd (cc)
says_kept true true r n v m w regs same if_has may =
    let e = if_has refl in subst (λ k. Says r.held k w regs) (sym e.0) (subst (λ k. Says r.held n k regs) (sym e.1) may)

-- who waits can't run
pub cant_run : (x : State) → CanRun x → x ≡ Waiting → ⊥
cant_run x can is = ⊎_elim (λ (e : x ≡ Current). absurd (cc)) (λ (e : x ≡ Ready). absurd (cc)) can

-- nor can who sleeps
pub cant_sleep : (x : State) → CanRun x → x ≡ Sleeping → ⊥
cant_sleep x can is = ⊎_elim (λ (e : x ≡ Current). absurd (cc)) (λ (e : x ≡ Ready). absurd (cc)) can

stands_kept : (y : System) (p : ℕ) (b c : Bool) (k n v m w : ℕ) (regs : List ℕ) (old new : Process) → c ≡ b → (b ≡ true → (m ≡ n) × (w ≡ v))
    → Turned old new → Stands y p b k n v regs old.state → Stands y p c k m w regs new.state
stands_kept y p b c k n v m w regs old new same if_has turned stands = by_cases turned.state stands
  where
    by_cases : (new.state ≡ old.state) ⊎ (CanRun old.state × CanRun new.state) → Stands y p b k n v regs old.state → Stands y p c k m w regs new.state
    by_cases (inl e) (inl (can, at)) = inl (subst CanRun (sym e) can, says_kept b c (get_or (y.code p) k no_row) n v m w regs same if_has at)
    by_cases (inl e) (inr (inl (waits, rest))) = inr (inl (e ∙ waits, (same ∙ rest.0, rest.1)))
    by_cases (inl e) (inr (inr (sleeps, at))) = inr (inr (e ∙ sleeps, says_kept b c (get_or (y.code p) k no_row) n v m w (set regs 10 0) same if_has at))
    by_cases (inr (can, can_now)) (inl (still, at)) = inl (can_now, says_kept b c (get_or (y.code p) k no_row) n v m w regs same if_has at)
    by_cases (inr (can, can_now)) (inr (inl (waits, rest))) = absurd (cant_run old.state can waits)
    by_cases (inr (can, can_now)) (inr (inr (sleeps, at))) = absurd (cant_sleep old.state can sleeps)

-- A process whose registers stay is within its program as it was.
pub thread_kept : (y : System) (holder new_holder : Option ℕ) (n v m w : ℕ) (t u : Tables) (p : ℕ) (h g : Hart) → g ≡ h
    → has new_holder p ≡ has holder p → (has holder p ≡ true → (m ≡ n) × (w ≡ v)) → Turned (process_at t p) (process_at u p)
    → IsThread y holder n v t p h → IsThread y new_holder m w u p g
thread_kept y holder new_holder n v m w t u p h g is same if_has turned k =
    subst (IsThread y new_holder m w u p) (sym is) (record {
      place = k.place;
      pc = k.pc;
      regs = k.regs;
      rest = turned.rest ∙ k.rest;
      stands = stands_kept y p (has holder p) (has new_holder p) k.place n v m w h.regs (process_at t p) (process_at u p) same if_has turned k.stands;
    })

-- who is free stays so
pub free_kept : (x y : Process) → Turned x y → x.state ≡ Free → y.state ≡ Free
free_kept x y turned free =
    ⊎_elim (λ (e : y.state ≡ x.state). e ∙ free)
    (λ (c : CanRun x.state × CanRun y.state). ⊎_elim (λ (e : x.state ≡ Current). absurd (cc)) (λ (e : x.state ≡ Ready). absurd (cc)) c.0) turned.state

-- The lock stays as its semaphore does.
pub lock_kept : (y : System) (holder : Option ℕ) (n v m w : ℕ) (t u : Tables) → semaphore_at u y.sem ≡ semaphore_at t y.sem
    → u.last_semaphore ≡ t.last_semaphore → (holder ≡ None → (m ≡ n) × (w ≡ v))
    → IsMade y holder n v t ⊎ IsUnmade y holder n v t → IsMade y holder m w u ⊎ IsUnmade y holder m w u
lock_kept y holder n v m w t u same last if_none (inl k) = inl (record {
  good = ap (λ (x : Semaphore). is_images x.owner) same ∙ k.good;
  tokens = ap (λ (x : Semaphore). x.tokens) same ∙ k.tokens;
  rule = λ e. let f = if_none e in subst (λ i. Rule y i w) (sym f.0) (subst (λ i. Rule y n i) (sym f.1) (k.rule e));
  one = k.one;
})
lock_kept y holder n v m w t u same last if_none (inr k) = inr (record {
  free = ap (λ (x : Semaphore). x.owner) same ∙ k.free;
  next = ap (λ i. i + 1) last ∙ k.next;
  nobody = k.nobody;
  rule = let f = if_none k.nobody in subst (λ i. Rule y i w) (sym f.0) (subst (λ i. Rule y n i) (sym f.1) k.rule);
})

-- A state in which nothing changed but whose turn it is, the console, and semaphores of devices.
pub record IsIdle (s u : Xinu) : Type 0 where
  pub turns : Turns s.tables u.tables
  pub harts : u.harts ≡ s.harts
  pub memory : u.memory ≡ s.memory
  pub disk : u.parts.devices.disk.requests ≡ s.parts.devices.disk.requests
  pub files : u.parts.devices.files.calls ≡ s.parts.devices.files.calls

-- The frame rule: the programs run on.
pub idle_runs : (y : System) (holder : Option ℕ) (n : ℕ) (s u : Xinu) → 4 ≤ y.sem → IsIdle s u → AreRunning y holder n s → AreRunning y holder n u
idle_runs y holder n s u sem idle k =
    let word : number_at u.memory y.word 4 ≡ number_at s.memory y.word 4 = ap (λ m. number_at m y.word 4) idle.memory in
    record {
      threads = λ p some few.
          thread_kept y holder holder n (number_at s.memory y.word 4) n (number_at u.memory y.word 4) s.tables u.tables p (get_or s.harts p no_hart)
          (get_or u.harts p no_hart) (ap (λ l. get_or l p no_hart) idle.harts) refl (λ _. (refl, word)) (idle.turns.entries p) (k.threads p some few);
      others = λ p more. free_kept (process_at s.tables p) (process_at u.tables p) (idle.turns.entries p) (k.others p more);
      lock = lock_kept y holder n (number_at s.memory y.word 4) n (number_at u.memory y.word 4) s.tables u.tables (idle.turns.semaphores y.sem sem) idle.turns.last
          (λ _. (refl, word)) k.lock;
      loaded = λ p some few. subst (λ m. Lie m (y.first p) (words_of (y.code p))) (sym idle.memory) (k.loaded p some few);
      disk = idle.disk ∙ k.disk;
      files = idle.files ∙ k.files;
    }
