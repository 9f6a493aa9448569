-- The values of operands: registers by their names, calls by theirs, texts by their bytes.
use Rattle.std.specs.Prelude.{ℕ, ◌+◌, ◌-◌, ◌*◌, ◌==◌, nat_lt, if◌then◌else◌, ◌&&◌, ℤ, List, [], ◌∷◌, Option, Some, None, codes}
use Rattle.std.specs.Str.{bytes_eq}
use Rattle.xinu_base.specs.Syscalls.{Syscall, syscalls}
use Rattle.asm_syntax.specs.Numbers.{is_between}
use Rattle.asm_syntax.specs.Operands.{Operand, Name, Number, Offset, NamedOffset, Text}
use Rattle.asm_syntax.specs.Texts.{text_bytes}
use Rattle.asm_syntax.specs.Meanings.{named_in, Slot, RegisterSlot, NumberSlot, OffsetSlot, LabelSlot, CallSlot, TextSlot, WordSlot}

-- the registers by their names in the calling convention
abbrev pub registers : List (List ℕ × ℕ)
registers =
    (codes "zero", 0) ∷ (codes "ra", 1) ∷ (codes "sp", 2) ∷ (codes "gp", 3) ∷ (codes "tp", 4) ∷ (codes "t0", 5) ∷
    (codes "t1", 6) ∷ (codes "t2", 7) ∷ (codes "s0", 8) ∷ (codes "s1", 9) ∷ (codes "a0", 10) ∷ (codes "a1", 11) ∷
    (codes "a2", 12) ∷ (codes "a3", 13) ∷ (codes "a4", 14) ∷ (codes "a5", 15) ∷ (codes "a6", 16) ∷ (codes "a7", 17) ∷
    (codes "s2", 18) ∷ (codes "s3", 19) ∷ (codes "s4", 20) ∷ (codes "s5", 21) ∷ (codes "s6", 22) ∷ (codes "s7", 23) ∷
    (codes "s8", 24) ∷ (codes "s9", 25) ∷ (codes "s10", 26) ∷ (codes "s11", 27) ∷ (codes "t3", 28) ∷ (codes "t4", 29) ∷
    (codes "t5", 30) ∷ (codes "t6", 31) ∷ []

-- the register of a name in the calling convention
unfoldable pub register_named : List ℕ → Option ℕ
register_named name = named_in registers name

-- the register of a name: `x` and its number without a leading zero, or its name in the calling convention
abbrev pub register_of : List ℕ → Option ℕ
register_of (x ∷ d ∷ []) = if (x == 120) && is_between 48 57 d then Some (d - 48) else register_named (x ∷ d ∷ [])
register_of (x ∷ d ∷ e ∷ []) =
    if (x == 120) && is_between 49 51 d && is_between 48 57 e && nat_lt ((d - 48) * 10 + (e - 48)) 32 then Some ((d - 48) * 10 + (e - 48))
    else register_named (x ∷ d ∷ e ∷ [])
register_of name = register_named name

-- the number of the first of these calls that has a name
abbrev pub call_among : List Syscall → List ℕ → Option ℕ
call_among [] name = None
call_among (call ∷ calls) name = if bytes_eq call.name name then Some call.number else call_among calls name

-- the number of the call of a name
unfoldable pub call_of : List ℕ → Option ℕ
call_of name = call_among syscalls name

-- the value of an operand
pub data Value : Type 0 where
  RegisterValue : ℕ → Value
  NumberValue : ℤ → Value
  OffsetValue : ℤ → ℕ → Value
  LabelValue : List ℕ → Value
  CallValue : ℕ → Value
  TextValue : List ℕ → Value

-- whether an operand may be written in a place: it hasn't the form, it has a name that isn't known, or it has a value
pub data Fit : Type 0 where
  Wrong : Fit
  Unknown : Fit
  Fits : Value → Fit

-- a name of which something may be known
abbrev pub known : (ℕ → Value) → Option ℕ → Fit
known value None = Unknown
known value (Some n) = Fits (value n)

-- a text, if it stands for bytes
abbrev pub text_fit : Option (List ℕ) → Fit
text_fit None = Wrong
text_fit (Some bytes) = Fits (TextValue bytes)

-- what an operand is in a place; a name where a number has to be is one that isn't known
abbrev pub fit : Slot → Operand → Fit
fit RegisterSlot (Name w) = known RegisterValue (register_of w)
fit NumberSlot (Number n) = Fits (NumberValue n)
fit NumberSlot (Name w) = Unknown
fit OffsetSlot (Offset n w) = known (OffsetValue n) (register_of w)
fit OffsetSlot NamedOffset = Unknown
fit LabelSlot (Name w) = Fits (LabelValue w)
fit CallSlot (Name w) = known CallValue (call_of w)
fit TextSlot (Text t) = text_fit (text_bytes t)
fit WordSlot (Number n) = Fits (NumberValue n)
fit WordSlot (Name w) = Fits (LabelValue w)
fit slot operand = Wrong

-- whether operands may be written in some places: one hasn't the form, one has a name that isn't known, or they have values
pub data Fitting : Type 0 where
  AnyWrong : Fitting
  AnyUnknown : Fitting
  AllFit : List Value → Fitting

-- an operand before others
abbrev pub both : Fit → Fitting → Fitting
both Wrong rest = AnyWrong
both Unknown AnyWrong = AnyWrong
both Unknown AnyUnknown = AnyUnknown
both Unknown (AllFit vs) = AnyUnknown
both (Fits v) AnyWrong = AnyWrong
both (Fits v) AnyUnknown = AnyUnknown
both (Fits v) (AllFit vs) = AllFit (v ∷ vs)

-- operands in places; a wrong number of operands hasn't the form
abbrev pub fitting : List Slot → List Operand → Fitting
fitting [] [] = AllFit []
fitting [] (o ∷ os) = AnyWrong
fitting (s ∷ ss) [] = AnyWrong
fitting (s ∷ ss) (o ∷ os) = both (fit s o) (fitting ss os)
