-- States in which the two programs run, and all that is said of their places holds.
use Rattle.std.specs.Prelude.{◌≡◌, ◌≢◌, ◌⊎◌, ◌≤◌, ◌<◌, ◌+◌, ◌*◌, ◌%◌, ◌^◌, ℕ, true, List, [], length, slice_index_or, slice_set, Option, None}
use Rattle.xinu_base.specs.declared.processes.Rest.TheVariants.{Nothing}
use Rattle.xinu_base.specs.declared.processes.State.{State}
use Rattle.xinu_base.specs.declared.processes.State.TheVariants.{Free, Waiting}
use Rattle.xinu_base.specs.declared.registers.Hart.{Hart}
use Rattle.xinu_base.specs.declared.semaphores.Owner.{Owner}
use Rattle.xinu_model.specs.Machine.{Xinu, no_hart}
use Rattle.xinu_model.specs.Memory.{number_at}
use Rattle.xinu_model.specs.Semaphores.Counts.{is_images}
use Rattle.xinu_model.specs.Sound.State.{IsSound}
use Rattle.xinu_model.specs.Sound.Tables.{CanRun}
use Rattle.xinu_model.specs.Tables.{Semaphore, Tables, process_at, semaphore_at, state_at}
use Rattle.program_logic.specs.Images.{Lie}
use Rattle.bounded_buffer.specs.Buffer.{At, code, first, slot_of}
use Rattle.bounded_buffer.specs.Places.{Holding, Outside, Phase, words_in}
use Rattle.bounded_buffer.proofs.Obeying.{Neither, One, Stage, Two, held, stage_of, stored}

-- Process p can run, and what is said of its place holds; or it waits for a token, and that holds once it gets it.
abbrev pub Stands : ℕ → Phase → ℕ → ℕ → List ℕ → State → Type 0
Stands p f k c regs state = (CanRun state × At p f k c regs) ⊎ ((state ≡ Waiting) × ((f ≡ Outside) × At p Holding k c (slice_set regs 10 0)))

-- Process p is at a place of its program in a phase, after c rounds, and between two instructions.
pub record IsThread (p : ℕ) (f : Phase) (c : ℕ) (t : Tables) (h : Hart) : Type 0 where
  pub place : ℕ
  pub pc : h.pc ≡ first p + 4 * place
  pub regs : length h.regs ≡ 32
  pub rest : (process_at t p).rest ≡ Nothing
  pub stands : Stands p f place c h.regs (state_at t p)

-- A semaphore is made and has these tokens; or it isn't, and these are what it gets.
abbrev pub IsSemaphore : Semaphore → ℕ → ℕ → Type 0
IsSemaphore x tokens gets = ((is_images x.owner ≡ true) × (x.tokens ≡ tokens)) ⊎ ((x.owner ≡ None) × (tokens ≡ gets))

abbrev pub owner_of : Tables → ℕ → Option Owner
owner_of t sem = (semaphore_at t sem).owner

-- which semaphores are made, and which number is the next
abbrev pub IsStage : Stage → Tables → Type 0
IsStage Neither t = (owner_of t 4 ≡ None) × ((owner_of t 5 ≡ None) × ((owner_of t 6 ≡ None) × (t.last_semaphore + 1 ≡ 4)))
IsStage One t = (is_images (owner_of t 4) ≡ true) × ((owner_of t 5 ≡ None) × ((owner_of t 6 ≡ None) × (t.last_semaphore + 1 ≡ 5)))
IsStage Two t = (is_images (owner_of t 4) ≡ true) × ((is_images (owner_of t 5) ≡ true) × ((owner_of t 6 ≡ None) × (t.last_semaphore + 1 ≡ 6)))

-- Processes p and q, of which p waits on semaphore a and signals b, and q waits on b and signals a. A token of a is there, or p has it, or p has given
-- it back as one of b, for each that a got at first and each that q gave; and likewise for b.
pub record IsPair (p q a b n m : ℕ) (stage : Stage) (f g : Phase) (i j : ℕ) (t : Tables) (harts : List Hart) : Type 0 where
  pub mine : IsThread p f i t (slice_index_or harts p no_hart)
  pub other : IsThread q g j t (slice_index_or harts q no_hart)
  pub free : (r : ℕ) → r ≢ 0 → r ≢ p → r ≢ q → state_at t r ≡ Free
  pub a_tokens : ℕ
  pub b_tokens : ℕ
  pub own : IsSemaphore (semaphore_at t a) a_tokens n
  pub own_sum : a_tokens + (held f + i) ≡ n + j
  pub their : IsSemaphore (semaphore_at t b) b_tokens m
  pub their_sum : b_tokens + (held g + j) ≡ m + i
  pub made : IsStage stage t

-- The producer has put i items and the consumer has taken j, and the rest of them is in the buffer.
pub record AreRunning (f g : Phase) (i j : ℕ) (s : Xinu) : Type 0 where
  pub pair : IsPair 1 2 4 5 2 0 (stage_of f) f g i j s.tables s.harts
  pub items : (k : ℕ) → j ≤ k → k < i + stored 1 f → number_at s.memory (slot_of k) 4 ≡ k % 2 ^ 32
  pub loaded : (p : ℕ) → 1 ≤ p → p ≤ 2 → Lie s.memory (first p) (words_in (code p))
  pub disk : s.parts.devices.disk.requests ≡ []
  pub files : s.parts.devices.files.calls ≡ []

-- The same in a sound state.
pub record Runs (f g : Phase) (i j : ℕ) (s : Xinu) : Type 0 where
  pub sound : IsSound s
  pub running : AreRunning f g i j s
