-- The words of statements: the instructions of the table, and the assembler's own.
use Rattle.std.specs.Prelude.{ℕ, ◌%◌, ◌==◌, if◌then◌else◌, List, [], ◌∷◌, Option, Some, None, codes}
use Rattle.std.specs.Str.{bytes_eq}
use Rattle.xinu_model.specs.Isa.Instructions.{Form, FormU, FormJ, FormI, FormB, FormS, FormShift, FormR, FormFence, FormWhole}
use Rattle.rv_isa.specs.Table.{Seen, row_named}

-- what a word asks for: an instruction with these fixed bits and this form, a shorthand for instructions, or a directive
pub data Meaning : Type 0 where
  Instruction : ℕ → Form → Meaning
  Li : Meaning
  La : Meaning
  Mv : Meaning
  Nop : Meaning
  Jump : Meaning
  Ret : Meaning
  Sys : Meaning
  DotWord : Meaning
  DotByte : Meaning
  DotZero : Meaning
  DotAscii : Meaning
  DotAlign : Meaning
  DotPlace : Meaning
  DotEntry : Meaning
  DotPriority : Meaning
  DotStack : Meaning

-- the directives
abbrev pub directives : List (List ℕ × Meaning)
directives =
    (codes ".word", DotWord) ∷
    (codes ".byte", DotByte) ∷
    (codes ".zero", DotZero) ∷
    (codes ".ascii", DotAscii) ∷
    (codes ".align", DotAlign) ∷
    (codes ".place", DotPlace) ∷
    (codes ".entry", DotEntry) ∷
    (codes ".priority", DotPriority) ∷
    (codes ".stack", DotStack) ∷
    []

-- the shorthands, and then the directives
abbrev pub own_words : List (List ℕ × Meaning)
own_words =
    (codes "li", Li) ∷
    (codes "la", La) ∷
    (codes "mv", Mv) ∷
    (codes "nop", Nop) ∷
    (codes "j", Jump) ∷
    (codes "ret", Ret) ∷
    (codes "sys", Sys) ∷
    directives

-- what is named so in a list of names
abbrev pub named_in : {X : Type 0} → List (List ℕ × X) → List ℕ → Option X
named_in [] name = None
named_in (row ∷ more) name = if bytes_eq name row.0 then Some row.1 else named_in more name

-- an instruction of the table, or else one of the own words
abbrev pub instruction_or_own : Option Seen → List ℕ → Option Meaning
instruction_or_own (Some row) word = Some (Instruction row.bits row.form)
instruction_or_own None word = named_in own_words word

-- the meaning of a word
unfoldable pub meaning_of : List ℕ → Option Meaning
meaning_of word = instruction_or_own (row_named word) word

-- what has to be written as an operand
pub data Slot : Type 0 where
  RegisterSlot : Slot
  NumberSlot : Slot
  OffsetSlot : Slot
  LabelSlot : Slot
  CallSlot : Slot
  TextSlot : Slot
  WordSlot : Slot

-- the operands of an instruction; of form I those that compute take a number, and those that load or jump a number before a register
abbrev pub slots_of_form : Form → ℕ → List Slot
slots_of_form FormU bits = RegisterSlot ∷ NumberSlot ∷ []
slots_of_form FormJ bits = RegisterSlot ∷ LabelSlot ∷ []
slots_of_form FormI bits = if bits % 128 == 0x13 then RegisterSlot ∷ RegisterSlot ∷ NumberSlot ∷ [] else RegisterSlot ∷ OffsetSlot ∷ []
slots_of_form FormB bits = RegisterSlot ∷ RegisterSlot ∷ LabelSlot ∷ []
slots_of_form FormS bits = RegisterSlot ∷ OffsetSlot ∷ []
slots_of_form FormShift bits = RegisterSlot ∷ RegisterSlot ∷ NumberSlot ∷ []
slots_of_form FormR bits = RegisterSlot ∷ RegisterSlot ∷ RegisterSlot ∷ []
slots_of_form FormFence bits = []
slots_of_form FormWhole bits = []

-- the operands that a word takes
abbrev pub slots_of : Meaning → List Slot
slots_of (Instruction bits form) = slots_of_form form bits
slots_of Li = RegisterSlot ∷ NumberSlot ∷ []
slots_of La = RegisterSlot ∷ LabelSlot ∷ []
slots_of Mv = RegisterSlot ∷ RegisterSlot ∷ []
slots_of Nop = []
slots_of Jump = LabelSlot ∷ []
slots_of Ret = []
slots_of Sys = CallSlot ∷ []
slots_of DotWord = WordSlot ∷ []
slots_of DotByte = NumberSlot ∷ []
slots_of DotZero = NumberSlot ∷ []
slots_of DotAscii = TextSlot ∷ []
slots_of DotAlign = []
slots_of DotPlace = NumberSlot ∷ []
slots_of DotEntry = LabelSlot ∷ []
slots_of DotPriority = NumberSlot ∷ []
slots_of DotStack = NumberSlot ∷ []
