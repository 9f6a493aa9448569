-- What is to be shown of each word of the two programs: that it leads to places at which what is said of them holds.
use Rattle.std.specs.Prelude.{◌≡◌, ◌⊎◌, ℕ, suc, zero, ◌+◌, ◌*◌, ◌%◌, ◌^◌, List, [], ◌∷◌, length, slice_index, slice_set}
use Rattle.xinu_base.specs.declared.registers.Hart.{Hart}
use Rattle.xinu_base.specs.declared.registers.Outcome.TheVariants.{Went, Call}
use Rattle.xinu_model.specs.Isa.Effects.{Executed, following}
use Rattle.xinu_model.specs.Isa.Exec.{perform}
use Rattle.xinu_model.specs.Memory.{number_at, with_number}
use Rattle.bounded_buffer.specs.Buffer.{At, first, slot_of}
use Rattle.bounded_buffer.specs.Places.{Bare, Done, Holding, Outside, Phase, Row, Single, says}

-- how many tokens a process has in a phase
abbrev pub held : Phase → ℕ
held Bare = 0
held Single = 0
held Outside = 0
held Holding = 1
held Done = 1

-- whether the producer has stored its item and is still to call `signal`
abbrev pub stored : ℕ → Phase → ℕ
stored (suc zero) Done = 1
stored _ _ = 0

-- the semaphores on which a process waits, and which it signals
abbrev pub waits_on : ℕ → ℕ
waits_on (suc zero) = 4
waits_on _ = 5

abbrev pub signals : ℕ → ℕ
signals (suc zero) = 5
signals _ = 4

-- whether the semaphores are made when the producer is in a phase: none, one, or both
pub data Stage : Type 0 where
  Neither : Stage
  One : Stage
  Two : Stage

abbrev pub stage_of : Phase → Stage
stage_of Bare = Neither
stage_of Single = One
stage_of Outside = Two
stage_of Holding = Two
stage_of Done = Two

-- a store of the producer's next item in its slot
pub record Puts (p : ℕ) (f to : Phase) (c : ℕ) (memory new : List ℕ) : Type 0 where
  pub producer : p ≡ 1
  pub holding : f ≡ Holding
  pub done : to ≡ Done
  pub is : new ≡ with_number memory (slot_of c) 4 (c % 2 ^ 32)

-- A plain instruction leads to a place at which what holds there holds.
pub record Goes (p : ℕ) (f : Phase) (c : ℕ) (memory : List ℕ) (did : Executed) : Type 0 where
  pub outcome : did.outcome ≡ Went
  pub next : ℕ
  pub to : Phase
  pub pc : did.hart.pc ≡ first p + 4 * next
  pub regs : length did.hart.regs ≡ 32
  pub tokens : held to ≡ held f
  pub stage : stage_of to ≡ stage_of f
  pub ram : ((did.memory ≡ memory) × (stored p to ≡ stored p f)) ⊎ Puts p f to c memory did.memory
  pub holds : At p to next c did.hart.regs

-- An `ecall`, after which the next place is the one that follows.
pub record Asks (p k : ℕ) (h : Hart) (memory : List ℕ) (did : Executed) : Type 0 where
  pub does : did ≡ record { outcome = Call; hart = record h { pc = following h }; memory = memory }
  pub pc : following h ≡ first p + 4 * suc k

-- `wait`: the process gets a token, or it is refused while the semaphore isn't made, which never happens to the producer.
pub record Waits (p : ℕ) (f : Phase) (k c : ℕ) (h : Hart) (memory : List ℕ) (did : Executed) : Type 0 where
  pub asks : Asks p k h memory did
  pub number : slice_index h.regs 17 ≡ 18
  pub sem : slice_index h.regs 10 ≡ waits_on p
  pub outside : f ≡ Outside
  pub granted : At p Holding (suc k) c (slice_set h.regs 10 0)
  pub refused : (p ≡ 1) ⊎ At p Outside (suc k) c (slice_set h.regs 10 4294967295)

-- `signal`: a round is over.
pub record Signals (p : ℕ) (f : Phase) (k c : ℕ) (h : Hart) (memory : List ℕ) (did : Executed) : Type 0 where
  pub asks : Asks p k h memory did
  pub number : slice_index h.regs 17 ≡ 19
  pub sem : slice_index h.regs 10 ≡ signals p
  pub done : f ≡ Done
  pub after : At p Outside (suc k) (c + 1) (slice_set h.regs 10 0)

-- `semcreate`, by the producer: with a count of two, and then of none.
pub record Makes (p : ℕ) (f : Phase) (k c : ℕ) (h : Hart) (memory : List ℕ) (did : Executed) : Type 0 where
  pub asks : Asks p k h memory did
  pub number : slice_index h.regs 17 ≡ 14
  pub producer : p ≡ 1
  pub which : ((f ≡ Bare) × ((slice_index h.regs 10 ≡ 2) × ((x : ℕ) → At p Single (suc k) c (slice_set h.regs 10 x))))
      ⊎ ((f ≡ Single) × ((slice_index h.regs 10 ≡ 0) × ((x : ℕ) → At p Outside (suc k) c (slice_set h.regs 10 x))))

abbrev pub Obeys : ℕ → Phase → ℕ → ℕ → Hart → List ℕ → Executed → Type 0
Obeys p f k c h memory did = Goes p f c memory did ⊎ (Waits p f k c h memory did ⊎ (Signals p f k c h memory did ⊎ Makes p f k c h memory did))

-- The word of a place obeys, if the item of the consumer's round is in its slot whenever it has a token.
pub record IsObeyed (p k : ℕ) (r : Row) : Type 0 where
  pub obeys : (f : Phase) (c : ℕ) (h : Hart) (memory : List ℕ) → h.pc ≡ first p + 4 * k → length h.regs ≡ 32
      → (p ≡ 2 → f ≡ Holding → number_at memory (slot_of c) 4 ≡ c % 2 ^ 32) → says f r c h.regs → Obeys p f k c h memory (perform r.word h memory)

-- So do the words of a program, from place k on.
abbrev pub AreObeyed : ℕ → ℕ → List Row → Type 0
AreObeyed p k [] = Unit {0}
AreObeyed p k (r ∷ rows) = IsObeyed p k r × AreObeyed p (suc k) rows
