-- What is to be shown of each word of a program: that it leads to places at which what is said of them holds.
use Rattle.std.specs.Prelude.{◌≡◌, ◌⊎◌, ◌≤◌, ◌<◌, ℕ, suc, ◌+◌, ◌*◌, ◌%◌, Bool, true, false, List, [], ◌∷◌, length, slice_index, slice_set, pos}
use Rattle.xinu_base.specs.declared.registers.Hart.{Hart}
use Rattle.xinu_base.specs.declared.registers.Outcome.TheVariants.{Went, Call}
use Rattle.xinu_model.specs.Isa.Effects.{Executed, following}
use Rattle.xinu_model.specs.Isa.Exec.{perform}
use Rattle.xinu_model.specs.Memory.{number_at, ram_size, with_number}
use Rattle.xinu_model.specs.Words.{signed}
use Rattle.program_logic.specs.Outlines.{At, EachOf, Row, Rule, System, says, words_of}

-- RAM after a store behind the guarded word, where no program lies.
pub record IsBehind (y : System) (memory new : List ℕ) : Type 0 where
  pub address : ℕ
  pub bytes : ℕ
  pub value : ℕ
  pub behind : y.word + 4 ≤ address
  pub is : new ≡ with_number memory address bytes value

-- A plain instruction leads to a place at which what holds there holds. Only who has the token writes the guarded word, and else what is written
-- lies behind it.
pub record Goes (y : System) (p : ℕ) (b : Bool) (n : ℕ) (memory : List ℕ) (did : Executed) : Type 0 where
  pub outcome : did.outcome ≡ Went
  pub next : ℕ
  pub pc : did.hart.pc ≡ y.first p + 4 * next
  pub regs : length did.hart.regs ≡ 32
  pub ram : (did.memory ≡ memory) ⊎ (((b ≡ true) × ((x : ℕ) × (did.memory ≡ with_number memory y.word 4 x))) ⊎ IsBehind y memory did.memory)
  pub holds : At y p b next n (number_at did.memory y.word 4) did.hart.regs

-- An `ecall`, after which the next place is the one that follows.
pub record Asks (y : System) (p : ℕ) (k : ℕ) (h : Hart) (memory : List ℕ) (did : Executed) : Type 0 where
  pub does : did ≡ record { outcome = Call; hart = record h { pc = following h }; memory = memory }
  pub pc : following h ≡ y.first p + 4 * suc k

-- `wait` on the semaphore: whoever gets the token finds that the rule holds. While the semaphore isn't made yet the call is refused.
pub record Waits (y : System) (p : ℕ) (b : Bool) (k n : ℕ) (h : Hart) (memory : List ℕ) (did : Executed) : Type 0 where
  pub asks : Asks y p k h memory did
  pub number : slice_index h.regs 17 ≡ 18
  pub sem : slice_index h.regs 10 ≡ y.sem
  pub outside : b ≡ false
  pub granted : (m w : ℕ) → Rule y m w → At y p true (suc k) m w (slice_set h.regs 10 0)
  pub refused : (m w : ℕ) → At y p false (suc k) m w (slice_set h.regs 10 4294967295)

-- `signal`: the rule holds again.
pub record Signals (y : System) (p : ℕ) (b : Bool) (k n : ℕ) (h : Hart) (memory : List ℕ) (did : Executed) : Type 0 where
  pub asks : Asks y p k h memory did
  pub number : slice_index h.regs 17 ≡ 19
  pub sem : slice_index h.regs 10 ≡ y.sem
  pub inside : b ≡ true
  pub rule : Rule y (n + 1) (number_at memory y.word 4)
  pub after : (m w : ℕ) → At y p false (suc k) m w (slice_set h.regs 10 0)

-- `semcreate` with a count of one.
pub record Creates (y : System) (p : ℕ) (b : Bool) (k n : ℕ) (h : Hart) (memory : List ℕ) (did : Executed) : Type 0 where
  pub asks : Asks y p k h memory did
  pub number : slice_index h.regs 17 ≡ 14
  pub count : slice_index h.regs 10 ≡ 1
  pub outside : b ≡ false
  pub after : (m w value : ℕ) → At y p false (suc k) m w (slice_set h.regs 10 value)

-- `yield`, or `sleepms` for some ticks: others run, with the token or without.
pub record Pauses (y : System) (p : ℕ) (b : Bool) (k n : ℕ) (h : Hart) (memory : List ℕ) (did : Executed) : Type 0 where
  pub asks : Asks y p k h memory did
  pub number : (slice_index h.regs 17 ≡ 6) ⊎ ((slice_index h.regs 17 ≡ 26) × ((m : ℕ) × (signed (slice_index h.regs 10) ≡ pos (suc m))))
  pub after : At y p b (suc k) n (number_at memory y.word 4) (slice_set h.regs 10 0)

-- A call that only answers: `getpid`, `getprio`, `semcount` or `clktime`.
pub record Answers (y : System) (p : ℕ) (b : Bool) (k n : ℕ) (h : Hart) (memory : List ℕ) (did : Executed) : Type 0 where
  pub asks : Asks y p k h memory did
  pub number : (slice_index h.regs 17 ≡ 1) ⊎ ((slice_index h.regs 17 ≡ 8) ⊎ ((slice_index h.regs 17 ≡ 17) ⊎ (slice_index h.regs 17 ≡ 27)))
  pub after : (value : ℕ) → At y p b (suc k) n (number_at memory y.word 4) (slice_set h.regs 10 value)

abbrev pub Obeys : System → ℕ → Bool → ℕ → ℕ → Hart → List ℕ → Executed → Type 0
Obeys y p b k n h memory did =
    Goes y p b n memory did
    ⊎ (Waits y p b k n h memory did ⊎ (Signals y p b k n h memory did ⊎ (Creates y p b k n h memory did ⊎ (Pauses y p b k n h memory did ⊎ Answers y p b k n h memory did))))

-- The word of a place obeys, whatever is in RAM besides the guarded word.
pub record IsObeyed (y : System) (p k : ℕ) (r : Row) : Type 0 where
  pub obeys : (b : Bool) (n : ℕ) (h : Hart) (memory : List ℕ) → h.pc ≡ y.first p + 4 * k → length h.regs ≡ 32 → length memory ≡ ram_size
      → says b r n (number_at memory y.word 4) h.regs → Obeys y p b k n h memory (perform r.word h memory)

-- So do the words of a program, from place k on.
abbrev pub AreObeyed : System → ℕ → ℕ → List Row → Type 0
AreObeyed y p k [] = Unit {0}
AreObeyed y p k (r ∷ rows) = IsObeyed y p k r × AreObeyed y p (suc k) rows

-- So do those of each process, and the programs lie below the guarded word.
pub record IsSystem (y : System) : Type 0 where
  pub each : EachOf y.many (λ p. AreObeyed y p 0 (y.code p))
  pub whole : EachOf y.many (λ p. y.first p % 4 ≡ 0)
  pub below : EachOf y.many (λ p. y.first p + 4 * length (words_of (y.code p)) ≤ y.word)
  pub ram : y.word + 4 ≤ ram_size
  pub few : y.many < 64
  pub no_device : 4 ≤ y.sem
  pub within : y.sem < 128
