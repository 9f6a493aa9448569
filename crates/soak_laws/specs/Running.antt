-- Machines on which four programs run that neither end nor are written over.
use Rattle.std.specs.Prelude.{◌≡◌, ◌≤◌, false, ℕ, ◌+◌, ◌-◌, ◌*◌, List, Option, Some, None, slice_index_or}
use Rattle.std.specs.List.{AllByRecursion}
use Rattle.soak_laws.specs.Code.{IsLoaded, IsWithin}
use Rattle.soak_laws.specs.Four.{AreFour}
use Rattle.xinu_model.specs.Files.Calls.{FileCall, Open, Write, Putc}
use Rattle.xinu_model.specs.Files.Work.{FileRequest}
use Rattle.xinu_model.specs.Machine.{CallResult, Xinu, is_panic, no_hart}
use Rattle.xinu_model.specs.Pools.Buffers.{BufferPool, pool_at}

-- the address of the first word of program p, after its texts
abbrev pub first_of : ℕ → ℕ
first_of p = 32768 * (p - 1) + 8

-- each of the programs 1 to 4
abbrev pub EachProgram : (ℕ → Type 0) → Type 0
EachProgram P = (p : ℕ) → 1 ≤ p → p ≤ 4 → P p

-- the free buffers of a pool lie at an address or above it, after the words that say whose they are
abbrev pub LiesAbove : ℕ → BufferPool → Type 0
LiesAbove low pool = AllByRecursion (λ a. low + 4 ≤ a) pool.free

-- the callers that may wait for files
abbrev pub MayWait : Option ℕ → Type 0
MayWait None = Unit {0}
MayWait (Some p) = p ≤ 4

-- a call on files that brings nothing to RAM
abbrev pub BringsNothing : FileCall → Type 0
BringsNothing (Open name mode) = Unit {0}
BringsNothing (Write d n) = Unit {0}
BringsNothing (Putc d b) = Unit {0}
BringsNothing _ = ⊥

-- a call on files that a program made
pub record IsQuiet (a : FileRequest) : Type 0 where
  pub caller : MayWait a.caller
  pub call : BringsNothing a.call

-- Programs with these words run: the four are alive, each within its program, which lies in RAM below the heap; the pools lie in the heap, and
-- the calls on files bring nothing to RAM.
pub record AreRunning (words : ℕ → List ℕ) (s : Xinu) : Type 0 where
  pub tables : AreFour s.tables
  pub harts : EachProgram (λ p. IsWithin (first_of p) (words p) (slice_index_or s.harts p no_hart))
  pub loaded : EachProgram (λ p. IsLoaded (first_of p) (words p) s.parts.heap.low s.memory)
  pub pools : (i : ℕ) → LiesAbove s.parts.heap.low (pool_at s.parts.pools i)
  pub calls : AllByRecursion IsQuiet s.parts.devices.files.calls

-- After a call the programs still run, and the kernel doesn't panic.
pub record KeepRunning (words : ℕ → List ℕ) (result : CallResult) : Type 0 where
  pub running : AreRunning words result.call.state
  pub calm : is_panic result.answer ≡ false
