-- The code of the programs: words that load registers, then the number of a call in a7 and `ecall`, over and over, and a jump back to the first.
use Rattle.std.specs.Prelude.{◌≡◌, ◌≤◌, ◌<◌, ◌⊎◌, ℕ, suc, ◌+◌, ◌*◌, ◌%◌, ◌^◌, Bool, true, false, List, [], ◌∷◌, length, drop, slice_index, slice_index_or}
use Rattle.xinu_base.specs.declared.registers.Hart.{Hart}
use Rattle.xinu_base.specs.declared.registers.Outcome.TheVariants.{Went, Call}
use Rattle.xinu_model.specs.Isa.Effects.{Executed, following}
use Rattle.xinu_model.specs.Isa.Exec.{perform}
use Rattle.xinu_model.specs.Memory.{number_at, ram_size}

-- A plain instruction: the process goes on at the next one, and RAM stays as it is.
pub record IsPlain (h : Hart) (memory : List ℕ) (did : Executed) : Type 0 where
  pub outcome : did.outcome ≡ Went
  pub pc : did.hart.pc ≡ following h
  pub regs : length did.hart.regs ≡ 32
  pub ram : did.memory ≡ memory

-- a word that gives a register a value
abbrev pub LoadsRegister : ℕ → Type 0
LoadsRegister w = (h : Hart) (memory : List ℕ) → length h.regs ≡ 32 → IsPlain h memory (perform w h memory)

-- the numbers of the calls that programs make: getpid, yield, sleepms, recvtime, send, signal, getmem, putc, semcreate, chprio, wait, receive,
-- getbuf, mkbufpool, open and write
abbrev pub made_calls : List ℕ
made_calls = 1 ∷ 6 ∷ 26 ∷ 24 ∷ 21 ∷ 19 ∷ 10 ∷ 41 ∷ 14 ∷ 7 ∷ 18 ∷ 22 ∷ 29 ∷ 28 ∷ 36 ∷ 39 ∷ []

-- one of them
abbrev pub IsNumber : ℕ → Type 0
IsNumber n = (i : ℕ) × (n ≡ slice_index_or made_calls i 1)

-- a word that puts such a number into a7
pub record PutsNumber (w : ℕ) : Type 0 where
  pub plain : LoadsRegister w
  pub number : (h : Hart) (memory : List ℕ) → length h.regs ≡ 32 → IsNumber (slice_index (perform w h memory).hart.regs 17)

-- a word that makes a call
abbrev pub MakesCall : ℕ → Type 0
MakesCall w = (h : Hart) (memory : List ℕ) → perform w h memory ≡ record { outcome = Call; hart = record h { pc = following h }; memory = memory }

-- a word after n others that jumps back to the first of them
abbrev pub JumpsBack : ℕ → ℕ → Type 0
JumpsBack n w =
    (h : Hart) (memory : List ℕ) (first : ℕ) → h.pc ≡ first + 4 * n → first % 4 ≡ 0 → h.pc < 2 ^ 32
    → perform w h memory ≡ record { outcome = Went; hart = record h { pc = first }; memory = memory }

-- Words after n others, in a program: whether a7 holds the number of a call now says which may come next.
abbrev pub IsCode : Bool → ℕ → List ℕ → Type 0
IsCode ready n [] = ⊥
IsCode true n (w ∷ words) = MakesCall w × IsCode false (suc n) words
IsCode false n (w ∷ words) =
    (LoadsRegister w × IsCode false (suc n) words) ⊎ ((PutsNumber w × IsCode true (suc n) words) ⊎ (JumpsBack n w × (words ≡ [])))

-- a7 holds the number of a call, if it is to
abbrev pub HoldsNumber : Bool → List ℕ → Type 0
HoldsNumber true regs = IsNumber (slice_index regs 17)
HoldsNumber false regs = Unit {0}

-- Registers of a process in the middle of a program whose first word lies at an address: the pc is at one of its words, and a7 is as that word wants it.
pub record IsWithin (first : ℕ) (words : List ℕ) (h : Hart) : Type 0 where
  pub place : ℕ
  pub ready : Bool
  pub pc : h.pc ≡ first + 4 * place
  pub regs : length h.regs ≡ 32
  pub code : IsCode ready place (drop place words)
  pub number : HoldsNumber ready h.regs

-- these words lie in RAM from an address on
abbrev pub Lie : List ℕ → ℕ → List ℕ → Type 0
Lie memory a [] = Unit {0}
Lie memory a (w ∷ words) = (a + 4 ≤ length memory) × ((number_at memory a 4 ≡ w) × Lie memory (a + 4) words)

-- A program whose first word lies at an address, below another one.
pub record IsLoaded (first : ℕ) (words : List ℕ) (low : ℕ) (memory : List ℕ) : Type 0 where
  pub code : IsCode false 0 words
  pub lie : Lie memory first words
  pub below : first + 4 * length words ≤ low
  pub ram : first + 4 * length words ≤ ram_size
  pub whole : first % 4 ≡ 0
