-- Why a line of assembler is refused.
use Rattle.std.specs.Prelude.{ℕ, ℤ, List}
use Rattle.asm_syntax.specs.Meanings.{Meaning}

-- why a line is refused, with the words and numbers that say it
pub data Cause : Type 0 where
  NoContent : Cause
  NoForm : Cause
  Takes : List ℕ → Meaning → Cause
  Repeated : List ℕ → Cause
  Late : Cause
  LabelTwice : List ℕ → ℕ → Cause
  NoWord : List ℕ → Cause
  NoRegister : List ℕ → Cause
  NoCall : List ℕ → Cause
  NoLabel : List ℕ → Cause
  NameForNumber : List ℕ → Cause
  NameForOffset : Cause
  Exceeds : ℤ → ℤ → ℤ → Cause
  NoPlace : ℤ → Cause
  Misaligned : ℕ → Cause
  BeyondRam : ℕ → ℕ → Cause
  Far : List ℕ → ℤ → ℕ → Cause
  NoEntry : List ℕ → Cause
