-- The operands of a statement: names, numbers, a number before a register in parentheses, quoted texts.
use Rattle.std.specs.Prelude.{ℕ, ◌+◌, ◌-◌, ◌==◌, nat_lt, if◌then◌else◌, ◌&&◌, ℤ, List, [], ◌∷◌, length, take, drop, slice_index, Option}
use Rattle.std.specs.Prelude.{is_some, Some, None}
use Rattle.std.specs.List.{position}
use Rattle.asm_syntax.specs.Numbers.{is_name, number_in}
use Rattle.asm_syntax.specs.Texts.{text_bytes}
use Rattle.asm_syntax.specs.Tokens.{Token, Blank, Colon, Comma, Word, Quoted, Unclosed}

-- an operand; a name where the number before a register has to be is an operand too, but stands for nothing
pub data Operand : Type 0 where
  Name : List ℕ → Operand
  Number : ℤ → Operand
  Offset : ℤ → List ℕ → Operand
  NamedOffset : Operand
  Text : List ℕ → Operand

-- a number, or else a name, before parentheses
abbrev pub offset_before : Option ℤ → List ℕ → List ℕ → Option Operand
offset_before (Some n) front name = Some (Offset n name)
offset_before None front name = if is_name front then Some NamedOffset else None

-- what is written before parentheses, and the name in them
abbrev pub offset_of : List ℕ → List ℕ → Option Operand
offset_of front name = if is_name name then offset_before (number_in front) front name else None

-- a word whose first parenthesis is at this place, and whose last byte closes it
abbrev pub offset_at : List ℕ → Option ℕ → Option Operand
offset_at word None = None
offset_at word (Some i) =
    if nat_lt (i + 1) (length word) && (slice_index word (length word - 1) == 41)
    then offset_of (take i word) (take (length word - 1 - (i + 1)) (drop (i + 1) word))
    else None

-- a word with parentheses
abbrev pub offset_in : List ℕ → Option Operand
offset_in word = offset_at word (position (λ b. b == 40) word)

-- a word that is a number, or else has parentheses
abbrev pub number_or_offset : Option ℤ → List ℕ → Option Operand
number_or_offset (Some n) word = Some (Number n)
number_or_offset None word = offset_in word

-- the operand that a word is
abbrev pub operand_in : List ℕ → Option Operand
operand_in word = if is_name word then Some (Name word) else number_or_offset (number_in word) word

-- the operand that a token is: what is between quotes is one if it stands for bytes
abbrev pub operand_of : Token → Option Operand
operand_of (Word word) = operand_in word
operand_of (Quoted text) = if is_some (text_bytes text) then Some (Text text) else None
operand_of Blank = None
operand_of Colon = None
operand_of Comma = None
operand_of Unclosed = None

-- an operand before others, if all of them are operands
abbrev pub before : Option Operand → Option (List Operand) → Option (List Operand)
before (Some o) (Some os) = Some (o ∷ os)
before (Some o) None = None
before None os = None

-- the operands between commas, of tokens without blanks
abbrev pub separated : List Token → Option (List Operand)
separated [] = None
separated (t ∷ []) = before (operand_of t) (Some [])
separated (t ∷ Comma ∷ ts) = before (operand_of t) (separated ts)
separated (t ∷ u ∷ ts) = None

-- the operands that follow the word of a statement; there may be none
abbrev pub operands_of : List Token → Option (List Operand)
operands_of [] = Some []
operands_of (t ∷ ts) = separated (t ∷ ts)
