-- States in which the programs of a system run, and all that their outlines say holds.
use Rattle.std.specs.Prelude.{◌≡◌, ◌⊎◌, ◌≤◌, ◌<◌, ◌+◌, ◌*◌, ℕ, Bool, true, false, List, [], length, slice_index_or, slice_set, Option, Some, None}
use Rattle.xinu_base.specs.declared.processes.Rest.TheVariants.{Nothing}
use Rattle.xinu_base.specs.declared.processes.State.{State}
use Rattle.xinu_base.specs.declared.processes.State.TheVariants.{Free, Sleeping, Waiting}
use Rattle.xinu_base.specs.declared.registers.Hart.{Hart}
use Rattle.xinu_model.specs.Machine.{Xinu, no_hart}
use Rattle.xinu_model.specs.Memory.{number_at}
use Rattle.xinu_model.specs.Semaphores.Counts.{is_good}
use Rattle.xinu_model.specs.Sound.State.{IsSound}
use Rattle.xinu_model.specs.Sound.Tables.{CanRun}
use Rattle.xinu_model.specs.Tables.{Tables, process_at, semaphore_at, state_at}
use Rattle.program_logic.specs.Images.{Lie}
use Rattle.program_logic.specs.Outlines.{At, EachOf, Rule, System, has, tokens_for, words_of}

-- Process p can run, and what its outline says of its place holds. Or it waits for the token: once it gets it and the rule holds that holds, and
-- what is said without the token would hold after a refusal. Or it sleeps, and that holds with the answer 0.
abbrev pub Stands : System → ℕ → Bool → ℕ → ℕ → ℕ → List ℕ → State → Type 0
Stands y p b k n v regs state =
    (CanRun state × At y p b k n v regs)
    ⊎ (((state ≡ Waiting) × ((b ≡ false) × (((m w : ℕ) → Rule y m w → At y p true k m w (slice_set regs 10 0)) × At y p false k 0 0 (slice_set regs 10 4294967295))))
    ⊎ ((state ≡ Sleeping) × At y p b k n v (slice_set regs 10 0)))

-- Process p is at a place of its program, and between two instructions.
pub record IsThread (y : System) (holder : Option ℕ) (n v : ℕ) (t : Tables) (p : ℕ) (h : Hart) : Type 0 where
  pub place : ℕ
  pub pc : h.pc ≡ y.first p + 4 * place
  pub regs : length h.regs ≡ 32
  pub rest : (process_at t p).rest ≡ Nothing
  pub stands : Stands y p (has holder p) place n v h.regs (state_at t p)

-- The semaphore is made, and one process has its token, or nobody and the rule holds.
pub record IsMade (y : System) (holder : Option ℕ) (n v : ℕ) (t : Tables) : Type 0 where
  pub good : is_good y.sem t ≡ true
  pub tokens : (semaphore_at t y.sem).tokens ≡ tokens_for holder
  pub rule : holder ≡ None → Rule y n v
  pub one : (z : ℕ) → holder ≡ Some z → (1 ≤ z) × (z ≤ y.many)

-- Or it is the next that is made.
pub record IsUnmade (y : System) (holder : Option ℕ) (n v : ℕ) (t : Tables) : Type 0 where
  pub free : (semaphore_at t y.sem).owner ≡ None
  pub next : t.last_semaphore + 1 ≡ y.sem
  pub nobody : holder ≡ None
  pub rule : Rule y n v

-- The processes of a system run, and no others: each is within its program, which lies in RAM; nothing was asked of disks.
pub record AreRunning (y : System) (holder : Option ℕ) (n : ℕ) (s : Xinu) : Type 0 where
  pub threads : EachOf y.many (λ p. IsThread y holder n (number_at s.memory y.word 4) s.tables p (slice_index_or s.harts p no_hart))
  pub others : (p : ℕ) → y.many < p → state_at s.tables p ≡ Free
  pub lock : IsMade y holder n (number_at s.memory y.word 4) s.tables ⊎ IsUnmade y holder n (number_at s.memory y.word 4) s.tables
  pub loaded : EachOf y.many (λ p. Lie s.memory (y.first p) (words_of (y.code p)))
  pub disk : s.parts.devices.disk.requests ≡ []
  pub files : s.parts.devices.files.calls ≡ []

-- The same in a sound state.
pub record Runs (y : System) (holder : Option ℕ) (n : ℕ) (s : Xinu) : Type 0 where
  pub sound : IsSound s
  pub running : AreRunning y holder n s
