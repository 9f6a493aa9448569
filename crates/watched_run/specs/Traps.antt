-- The trap that an event prints.
use Rattle.std.specs.Prelude.{◌==◌, ℕ, if◌then◌else◌, List, [], ◌∷◌, Option, Some, None}
use Rattle.xinu_base.specs.declared.lines.TranscriptLine.{TranscriptLine}
use Rattle.xinu_base.specs.declared.lines.TranscriptLine.TheVariants as line
use Rattle.xinu_base.specs.declared.registers.Cause.{Cause}
use Rattle.xinu_base.specs.declared.registers.Cause.TheVariants.{Fetch, Illegal, Break, Target, Load, Store}

-- the cause of the trap that is the first of these lines, if it is one
abbrev pub trap_in : List TranscriptLine → Option Cause
trap_in (line.Trap p cause ∷ lines) = Some cause
trap_in _ = None

-- what comes after the first blank
abbrev pub after_blank : List ℕ → List ℕ
after_blank [] = []
after_blank (b ∷ bytes) = if b == 32 then bytes else after_blank bytes

-- the cause whose word begins with this letter
abbrev pub cause_by : ℕ → Option Cause
cause_by b =
    if b == 102 then Some Fetch
    else (if b == 105 then Some Illegal
    else (if b == 98 then Some Break
    else (if b == 116 then Some Target
    else (if b == 108 then Some Load
    else (if b == 115 then Some Store
    else None)))))

-- the cause with whose word bytes begin
abbrev pub cause_of : List ℕ → Option Cause
cause_of [] = None
cause_of (b ∷ bytes) = cause_by b
