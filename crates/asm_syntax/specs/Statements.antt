-- The statements: what a line asks for after its labels.
use Rattle.std.specs.Prelude.{ℕ, ◌+◌, ◌-◌, ◌*◌, ◌/◌, ◌%◌, ◌==◌, int_le, Bool, false, if◌then◌else◌, ◌&&◌, ◌||◌, ℤ, pos, negsuc, List, []}
use Rattle.std.specs.Prelude.{◌∷◌, Option, Some, None}
use Rattle.xinu_model.specs.Isa.Instructions.{Form, FormU, FormJ, FormI, FormB, FormS, FormShift, FormR, FormFence, FormWhole}
use Rattle.rv_isa.specs.Encoding.{placed}
use Rattle.asm_syntax.specs.declared.statements.HeaderField.{HeaderField}
use Rattle.asm_syntax.specs.declared.statements.HeaderField.TheVariants.{PlaceField, PriorityField, StackField}
use Rattle.asm_syntax.specs.Tokens.{Token, Blank, Colon, Word, tokens_of, solid}
use Rattle.asm_syntax.specs.Numbers.{is_name}
use Rattle.asm_syntax.specs.Operands.{Operand, operands_of}
use Rattle.asm_syntax.specs.Meanings.{Meaning, Instruction, Li, La, Mv, Nop, Jump, Ret, Sys, DotWord, DotByte, DotZero, DotAscii, DotAlign}
use Rattle.asm_syntax.specs.Meanings.{DotPlace, DotEntry, DotPriority, DotStack, meaning_of, slots_of}
use Rattle.asm_syntax.specs.Values.{Value, RegisterValue, NumberValue, OffsetValue, LabelValue, CallValue, TextValue, Fitting, AnyWrong}
use Rattle.asm_syntax.specs.Values.{AnyUnknown, AllFit, fitting}

-- A statement. The first six put nothing: there is none, it hasn't the form, it has a name that isn't known, a number doesn't fit, and
-- a directive that sets a field of the header has a name, or a negative number, in place of its number. Those that follow put
-- instructions, those after them other bytes, and the last four set fields of the image's header.
pub data Statement : Type 0 where
  Empty : Statement
  Malformed : Statement
  Unresolved : Statement
  Excessive : Statement
  NameFor : HeaderField → Statement
  NegativeFor : HeaderField → Statement
  Code : List ℕ → Statement
  Branch : ℕ → ℕ → ℕ → List ℕ → Statement
  JumpTo : ℕ → List ℕ → Statement
  AddressOf : ℕ → List ℕ → Statement
  Bytes : List ℕ → Statement
  WordAt : List ℕ → Statement
  Zeros : ℕ → Statement
  Align : Statement
  Place : ℕ → Statement
  Entry : List ℕ → Statement
  Priority : ℕ → Statement
  Stack : ℕ → Statement

-- a number as a word, in two's complement
abbrev pub word_of : ℤ → ℕ
word_of (pos n) = n % 4294967296
word_of (negsuc n) = 4294967295 - n % 4294967296

-- a number that isn't negative
abbrev pub magnitude : ℤ → ℕ
magnitude (pos n) = n
magnitude (negsuc n) = 0

-- a number has to be between two others
abbrev pub within : ℤ → ℤ → ℤ → Statement → Statement
within low n high statement = if int_le low n && int_le n high then statement else Excessive

-- the statement that sets a field of the header
abbrev pub setting : HeaderField → ℕ → Statement
setting PlaceField = Place
setting PriorityField = Priority
setting StackField = Stack

-- a number for a field of the header, which may not be negative; whether it fits is judged where it is used
abbrev pub unsigned : ℤ → HeaderField → Statement
unsigned (pos n) field = setting field n
unsigned (negsuc n) field = NegativeFor field

-- one instruction
abbrev pub one : ℕ → Form → ℕ → ℕ → ℕ → ℕ → Statement
one bits form rd rs1 rs2 imm = Code ((bits + placed form rd rs1 rs2 imm) ∷ [])

-- an instruction of the table with the values of its operands
abbrev pub instruction : ℕ → Form → List Value → Statement
instruction bits FormU (RegisterValue rd ∷ NumberValue n ∷ []) = within (pos 0) n (pos 1048575) (one bits FormU rd 0 0 (magnitude n * 4096))
instruction bits FormJ (RegisterValue rd ∷ LabelValue l ∷ []) = JumpTo rd l
instruction bits FormI (RegisterValue rd ∷ RegisterValue rs1 ∷ NumberValue n ∷ []) =
    within (negsuc 2047) n (pos 2047) (one bits FormI rd rs1 0 (word_of n))
instruction bits FormI (RegisterValue rd ∷ OffsetValue n rs1 ∷ []) = within (negsuc 2047) n (pos 2047) (one bits FormI rd rs1 0 (word_of n))
instruction bits FormB (RegisterValue rs1 ∷ RegisterValue rs2 ∷ LabelValue l ∷ []) = Branch bits rs1 rs2 l
instruction bits FormS (RegisterValue rs2 ∷ OffsetValue n rs1 ∷ []) =
    within (negsuc 2047) n (pos 2047) (one bits FormS 0 rs1 rs2 (word_of n))
instruction bits FormShift (RegisterValue rd ∷ RegisterValue rs1 ∷ NumberValue n ∷ []) =
    within (pos 0) n (pos 31) (one bits FormShift rd rs1 0 (word_of n))
instruction bits FormR (RegisterValue rd ∷ RegisterValue rs1 ∷ RegisterValue rs2 ∷ []) = one bits FormR rd rs1 rs2 0
instruction bits FormFence [] = one bits FormFence 0 0 0 0
instruction bits FormWhole [] = one bits FormWhole 0 0 0 0
instruction bits form values = Malformed

-- the two words that load a number: `lui` of its upper 20 bits, rounded, and `addi` of the lower 12 as a signed number
abbrev pub load : ℕ → ℕ → List ℕ
load rd n = (0x37 + placed FormU rd 0 0 ((n + 0x800) / 0x1000 % 0x100000 * 0x1000)) ∷ (0x13 + placed FormI rd rd 0 n) ∷ []

-- the bytes of a word, the lowest first
abbrev pub word_bytes : ℕ → List ℕ
word_bytes w = w % 256 ∷ w / 256 % 256 ∷ w / 65536 % 256 ∷ w / 16777216 % 256 ∷ []

-- the statement of a word with the values of its operands
abbrev pub made : Meaning → List Value → Statement
made (Instruction bits form) values = instruction bits form values
made Li (RegisterValue rd ∷ NumberValue n ∷ []) = within (negsuc 2147483647) n (pos 4294967295) (Code (load rd (word_of n)))
made La (RegisterValue rd ∷ LabelValue l ∷ []) = AddressOf rd l
made Mv (RegisterValue rd ∷ RegisterValue rs ∷ []) = one 0x13 FormI rd rs 0 0
made Nop [] = one 0x13 FormI 0 0 0 0
made Jump (LabelValue l ∷ []) = JumpTo 0 l
made Ret [] = one 0x67 FormI 0 1 0 0
made Sys (CallValue n ∷ []) = Code ((0x13 + placed FormI 17 0 0 n) ∷ 0x73 ∷ [])
made DotWord (NumberValue n ∷ []) = within (negsuc 2147483647) n (pos 4294967295) (Bytes (word_bytes (word_of n)))
made DotWord (LabelValue l ∷ []) = WordAt l
made DotByte (NumberValue n ∷ []) = within (negsuc 127) n (pos 255) (Bytes (word_of n % 256 ∷ []))
made DotZero (NumberValue n ∷ []) = within (pos 0) n (pos 1048576) (Zeros (magnitude n))
made DotAscii (TextValue bytes ∷ []) = Bytes bytes
made DotAlign [] = Align
made DotPlace (NumberValue n ∷ []) = unsigned n PlaceField
made DotEntry (LabelValue l ∷ []) = Entry l
made DotPriority (NumberValue n ∷ []) = unsigned n PriorityField
made DotStack (NumberValue n ∷ []) = unsigned n StackField
made meaning values = Malformed

-- the statement of a word with an operand that has a name which isn't known; a directive of the header keeps its field, since a repeated
-- or late one is a wrong form whatever its operand is
abbrev pub unresolved : Meaning → Statement
unresolved DotPlace = NameFor PlaceField
unresolved DotPriority = NameFor PriorityField
unresolved DotStack = NameFor StackField
unresolved meaning = Unresolved

-- the statement of a word whose operands fit, or don't
abbrev pub made_of : Meaning → Fitting → Statement
made_of meaning AnyWrong = Malformed
made_of meaning AnyUnknown = unresolved meaning
made_of meaning (AllFit values) = made meaning values

-- the statement of a word that may be known, with its operands
abbrev pub stated : Option Meaning → Option (List Operand) → Statement
stated meaning None = Malformed
stated None (Some operands) = Unresolved
stated (Some meaning) (Some operands) = made_of meaning (fitting (slots_of meaning) operands)

-- whether a word can name an instruction or a directive
abbrev pub can_name : List ℕ → Bool
can_name [] = false
can_name (b ∷ word) = is_name (b ∷ word) || ((b == 46) && is_name word)

-- the statement of the tokens after the labels; a blank separates the word from its operands
abbrev pub statement_of : List Token → Statement
statement_of [] = Empty
statement_of (Blank ∷ ts) = statement_of ts
statement_of (Word w ∷ []) = if can_name w then stated (meaning_of w) (Some []) else Malformed
statement_of (Word w ∷ Blank ∷ ts) = if can_name w then stated (meaning_of w) (operands_of (solid ts)) else Malformed
statement_of (t ∷ ts) = Malformed

-- what follows a word, if a blank or nothing separates them
abbrev pub after_word : List Token → Option (List Token)
after_word [] = Some []
after_word (Blank ∷ ts) = Some ts
after_word (t ∷ ts) = None

-- a word with what follows it
abbrev pub word_with : List ℕ → Option (List Token) → Option (List ℕ × List Token)
word_with w None = None
word_with w (Some ts) = Some (w, ts)

-- the word of the tokens after the labels, and the tokens of its operands
abbrev pub said : List Token → Option (List ℕ × List Token)
said (Blank ∷ ts) = said ts
said (Word w ∷ ts) = if can_name w then word_with w (after_word ts) else None
said ts = None

-- the word of a line after its labels, and the tokens of its operands
abbrev pub said_line : List Token → Option (List ℕ × List Token)
said_line (Blank ∷ ts) = said_line ts
said_line (Word w ∷ Colon ∷ ts) = if is_name w then said_line ts else said (Word w ∷ Colon ∷ ts)
said_line ts = said ts

-- a line: the labels that begin it, and the statement after them
pub record Line : Type 0 where
  pub labels : List (List ℕ)
  pub statement : Statement

-- a label before the others of a line
abbrev pub with_label : List ℕ → Line → Line
with_label name line = record { labels = name ∷ line.labels; statement = line.statement }

-- a line without labels
abbrev pub unlabelled : List Token → Line
unlabelled ts = record { labels = []; statement = statement_of ts }

-- the line of some tokens; there is no blank between a label and its colon
abbrev pub line_in : List Token → Line
line_in (Blank ∷ ts) = line_in ts
line_in (Word w ∷ Colon ∷ ts) = if is_name w then with_label w (line_in ts) else unlabelled (Word w ∷ Colon ∷ ts)
line_in ts = unlabelled ts

-- the line that bytes write
abbrev pub line_of : List ℕ → Line
line_of bytes = line_in (tokens_of bytes)
