-- Causes as text.
use Rattle.std.specs.Prelude.{ℕ, ◌-◌, ◌==◌, int_le, if◌then◌else◌, ℤ, pos, negsuc, List, [], ◌∷◌, ◌++◌, codes}
use Rattle.std.specs.Fmt.{decimal, signed_decimal}
use Rattle.asm_syntax.specs.Meanings.{Meaning, slots_of, Slot, RegisterSlot, NumberSlot, OffsetSlot, LabelSlot, CallSlot, TextSlot, WordSlot}
use Rattle.rv_asm.specs.declared.faults.AsmFault.{AsmFault}
use Rattle.rv_asm.specs.declared.faults.AsmFault.TheVariants as fault
use Rattle.fault_words.specs.Causes.{Cause, NoContent, NoForm, Takes, Repeated, Late, LabelTwice, NoWord, NoRegister, NoCall, NoLabel}
use Rattle.fault_words.specs.Causes.{NameForNumber, NameForOffset, Exceeds, NoPlace, Misaligned, BeyondRam, Far, NoEntry}
use Rattle.fault_words.specs.Reasons.{cause_of_fault}

-- what has to be written in a place
abbrev pub slot_text : Slot → List ℕ
slot_text RegisterSlot = codes "a register"
slot_text NumberSlot = codes "a number"
slot_text OffsetSlot = codes "a number and a register in parentheses"
slot_text LabelSlot = codes "a label"
slot_text CallSlot = codes "a call"
slot_text TextSlot = codes "a text in quotes"
slot_text WordSlot = codes "a number or a label"

-- what has to be written in further places
abbrev pub more_slots : List Slot → List ℕ
more_slots [] = []
more_slots (slot ∷ slots) = codes ", " ++ slot_text slot ++ more_slots slots

-- what has to be written in some places
abbrev pub slots_text : List Slot → List ℕ
slots_text [] = codes "nothing"
slots_text (slot ∷ slots) = slot_text slot ++ more_slots slots

-- a number as it is shown: those of a magnitude of 4294967296 or more are read as one
unfoldable pub number_text : ℤ → List ℕ
number_text n =
    if int_le (pos 4294967296) n then codes "a number over 4294967295"
    else if int_le n (negsuc 4294967295) then codes "a number under -4294967295"
    else signed_decimal n

-- a word in a sentence
abbrev pub around : List ℕ → List ℕ → List ℕ → List ℕ
around before word after = before ++ word ++ after

-- what a word takes
abbrev pub takes_text : List ℕ → List Slot → List ℕ
takes_text w slots = w ++ codes " takes " ++ slots_text slots

-- a label that is there twice, and the line where it is first
abbrev pub twice_text : List ℕ → ℕ → List ℕ
twice_text l k = codes "the label " ++ l ++ codes " is there twice, first at line " ++ decimal k

-- a number after a text
unfoldable pub signed_after : List ℕ → ℤ → List ℕ
signed_after before n = before ++ signed_decimal n

-- from one number to another
unfoldable pub range_text : ℤ → ℤ → List ℕ
range_text low high = signed_after (codes " doesn't fit: ") low ++ signed_after (codes " to ") high

-- a number that isn't between two others
abbrev pub limits_text : ℤ → ℤ → ℤ → List ℕ
limits_text n low high = number_text n ++ range_text low high

-- a number that is no place
abbrev pub place_text : ℤ → List ℕ
place_text n = number_text n ++ codes " is no place: it is a multiple of 4 from 0 to 1048576"

-- where an instruction is that isn't at a multiple of 4
abbrev pub misaligned_text : ℕ → List ℕ
misaligned_text at = around (codes "the instruction is at ") (decimal at) (codes ", not at a multiple of 4: write .align before it")

-- bytes that don't fit RAM
abbrev pub beyond_text : ℕ → ℕ → List ℕ
beyond_text at n = decimal n ++ codes " bytes at " ++ decimal at ++ codes " don't fit RAM, which ends at 1048576"

-- a label that is too far away
abbrev pub far_text : List ℕ → ℤ → ℕ → List ℕ
far_text l n reach =
    codes "the label " ++ l ++ codes " is " ++ signed_decimal n ++ codes " bytes away, not an even number from -" ++ decimal reach
    ++ codes " to " ++ decimal (reach - 2)

-- a cause as text
unfoldable pub cause_text : Cause → List ℕ
cause_text NoContent = codes "there is too little content: without .entry the process begins at its first word"
cause_text NoForm = codes "that is no instruction or directive with operands between commas"
cause_text (Takes w meaning) = takes_text w (slots_of meaning)
cause_text (Repeated w) = around [] w (codes " is there twice")
cause_text Late = codes ".place comes before labels, instructions and content"
cause_text (LabelTwice l k) = twice_text l k
cause_text (NoWord w) = around (codes "there is no instruction or directive named ") w []
cause_text (NoRegister w) = around (codes "there is no register named ") w []
cause_text (NoCall w) = around (codes "there is no call named ") w []
cause_text (NoLabel w) = around (codes "there is no label named ") w []
cause_text (NameForNumber w) = around [] w (codes " is a name where a number has to be")
cause_text NameForOffset = codes "a name is where the number before the parentheses has to be"
cause_text (Exceeds n low high) = limits_text n low high
cause_text (NoPlace n) = place_text n
cause_text (Misaligned at) = misaligned_text at
cause_text (BeyondRam at n) = beyond_text at n
cause_text (Far l n reach) = far_text l n reach
cause_text (NoEntry l) = around (codes "the label ") l (codes " is no word of the content, at a multiple of 4")

-- the line that says a cause, after the number of the line that has it; line 0 is none
abbrev pub told_line : ℕ → List ℕ → List ℕ
told_line k text = if k == 0 then text ++ codes "\n" else codes "line " ++ decimal k ++ codes ": " ++ text ++ codes "\n"

-- the line of a fault
abbrev pub line_of_fault : AsmFault → ℕ
line_of_fault (fault.BadLine k) = k
line_of_fault (fault.DoubleLabel k) = k
line_of_fault (fault.UnknownName k) = k
line_of_fault (fault.OutOfRange k) = k
line_of_fault fault.NoMemory = 0

-- a fault of a text in words
abbrev pub told : AsmFault → List ℕ → List ℕ
told f text = told_line (line_of_fault f) (cause_text (cause_of_fault f text))
