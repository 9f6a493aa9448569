-- The second pass of the code.
use Rattle.std.specs.Prelude.{◌≡◌, Option, Some}
use Rattle.rv_asm.specs.declared.faults.AsmFault.{AsmFault}
use Rattle.rv_asm.specs.declared.faults.AsmFault.TheVariants.{BadLine, UnknownName, OutOfRange, DoubleLabel, NoMemory}

-- a fault is the one that there may be; out of memory says nothing of it
abbrev pub IsFirst : AsmFault → Option AsmFault → Type 0
IsFirst (BadLine k) o = o ≡ Some (BadLine k)
IsFirst (UnknownName k) o = o ≡ Some (UnknownName k)
IsFirst (OutOfRange k) o = o ≡ Some (OutOfRange k)
IsFirst (DoubleLabel k) o = o ≡ Some (DoubleLabel k)
IsFirst NoMemory o = Unit {0}
