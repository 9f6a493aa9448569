-- The cause of a fault, by the text that has it.
use Rattle.std.specs.Prelude.{ℕ, zero, suc, ◌+◌, ◌%◌, ◌==◌, not, if◌then◌else◌, ◌&&◌, ℤ, pos, negsuc, List, [], ◌∷◌, codes, Option, Some}
use Rattle.std.specs.Prelude.{None, is_some}
use Rattle.std.specs.List.{list_any}
use Rattle.std.specs.Str.{bytes_eq}
use Rattle.text_lines.specs.Lines.{lines_of}
use Rattle.xinu_model.specs.Isa.Instructions.{Form, FormU, FormShift}
use Rattle.asm_syntax.specs.CodeOperands.{first_four}
use Rattle.asm_syntax.specs.Meanings as m
use Rattle.asm_syntax.specs.Meanings.{Meaning, meaning_of, slots_of, Slot, RegisterSlot, NumberSlot, OffsetSlot, CallSlot}
use Rattle.asm_syntax.specs.Operands as o
use Rattle.asm_syntax.specs.Operands.{Operand, operands_of}
use Rattle.asm_syntax.specs.Statements as st
use Rattle.asm_syntax.specs.Statements.{Statement, Line, line_of, said_line}
use Rattle.asm_syntax.specs.Tokens.{Token, solid, tokens_of}
use Rattle.asm_syntax.specs.Values.{register_of, call_of}
use Rattle.asm_syntax.specs.declared.statements.HeaderField.{HeaderField}
use Rattle.asm_syntax.specs.declared.statements.HeaderField.TheVariants.{PlaceField, PriorityField, StackField}
use Rattle.rv_asm.specs.Assembly.{lines_in}
use Rattle.rv_asm.specs.Faults.{is_excessive, offset_to}
use Rattle.rv_asm.specs.Layouts.{Labels, Layout, labelled, used_label, is_code, size_at, start, after, after_all}
use Rattle.rv_asm.specs.declared.faults.AsmFault.{AsmFault}
use Rattle.rv_asm.specs.declared.faults.AsmFault.TheVariants as fault
use Rattle.fault_words.specs.declared.kinds.Kind.{Kind}
use Rattle.fault_words.specs.declared.kinds.Kind.TheVariants.{Bad, Double, Unknown, Excess}
use Rattle.fault_words.specs.Causes.{Cause, NoContent, NoForm, Takes, Repeated, Late, LabelTwice, NoWord, NoRegister, NoCall, NoLabel}
use Rattle.fault_words.specs.Causes.{NameForNumber, NameForOffset, Exceeds, NoPlace, Misaligned, BeyondRam, Far, NoEntry}

-- what there is, or else something
abbrev pub or_else : Option Cause → Option Cause → Option Cause
or_else (Some cause) other = Some cause
or_else None other = other

-- a cause if something isn't known
abbrev pub unless_known : Option ℕ → Cause → Option Cause
unless_known None cause = Some cause
unless_known (Some n) cause = None

-- the name in an operand that isn't known where it is written
abbrev pub unknown_in : Slot → Operand → Option Cause
unknown_in RegisterSlot (o.Name w) = unless_known (register_of w) (NoRegister w)
unknown_in NumberSlot (o.Name w) = Some (NameForNumber w)
unknown_in OffsetSlot (o.Offset n w) = unless_known (register_of w) (NoRegister w)
unknown_in OffsetSlot o.NamedOffset = Some NameForOffset
unknown_in CallSlot (o.Name w) = unless_known (call_of w) (NoCall w)
unknown_in slot operand = None

-- the first of these names
abbrev pub first_unknown : List Slot → List Operand → Option Cause
first_unknown [] os = None
first_unknown (s ∷ ss) [] = None
first_unknown (s ∷ ss) (o ∷ os) = or_else (unknown_in s o) (first_unknown ss os)

-- a cause, or else that the line has no form
abbrev pub or_no_form : Option Cause → Cause
or_no_form (Some cause) = cause
or_no_form None = NoForm

-- the first number of some operands
abbrev pub number_in : List Operand → Option ℤ
number_in [] = None
number_in (o.Number n ∷ os) = Some n
number_in (o.Offset n w ∷ os) = Some n
number_in (operand ∷ os) = number_in os

-- the numbers that an instruction takes
abbrev pub limits_of_form : Form → ℤ × ℤ
limits_of_form FormU = (pos 0, pos 1048575)
limits_of_form FormShift = (pos 0, pos 31)
limits_of_form form = (negsuc 2047, pos 2047)

-- the numbers that a word takes
abbrev pub limits_of : Meaning → ℤ × ℤ
limits_of (m.Instruction bits form) = limits_of_form form
limits_of m.DotByte = (negsuc 127, pos 255)
limits_of m.DotZero = (pos 0, pos 1048576)
limits_of m.DotPriority = (pos 1, pos 32767)
limits_of m.DotStack = (pos 0, pos 4294967295)
limits_of meaning = (negsuc 2147483647, pos 4294967295)

-- a number that doesn't fit a word
abbrev pub exceeding : Meaning → ℤ → Cause
exceeding m.DotPlace n = NoPlace n
exceeding meaning n = Exceeds n (limits_of meaning).0 (limits_of meaning).1

-- the same of a number that there may be
abbrev pub exceeding_if : Meaning → Option ℤ → Cause
exceeding_if meaning None = NoForm
exceeding_if meaning (Some n) = exceeding meaning n

-- what is looked for in a word with its operands
pub data Question : Type 0 where
  WhichForm : Question
  WhichName : Question
  WhichNumber : Question

-- the answer, of a word that is known
abbrev pub answer : Question → List ℕ → Meaning → List Operand → Cause
answer WhichForm w meaning operands = Takes w meaning
answer WhichName w meaning operands = or_no_form (first_unknown (slots_of meaning) operands)
answer WhichNumber w meaning operands = exceeding_if meaning (number_in operands)

-- the answer, of a word that may be known, with operands that there may be
abbrev pub answer_of : Question → List ℕ → Option Meaning → Option (List Operand) → Cause
answer_of question w None None = NoForm
answer_of question w None (Some operands) = NoWord w
answer_of question w (Some meaning) None = Takes w meaning
answer_of question w (Some meaning) (Some operands) = answer question w meaning operands

-- the answer, of a word and the tokens of its operands; no word takes more than three operands, so four tell
abbrev pub answer_said : Question → Option (List ℕ × List Token) → Cause
answer_said question None = NoForm
answer_said question (Some cut) = answer_of question cut.0 (meaning_of cut.0) (first_four (operands_of (solid cut.1)))

-- why a directive that sets a field may not stand where it is
abbrev pub settled : HeaderField → Layout → Cause
settled PlaceField s = if is_some s.place then Repeated (codes ".place") else Late
settled PriorityField s = Repeated (codes ".priority")
settled StackField s = Repeated (codes ".stack")

-- why a line hasn't the form of any, by its statement, its word and what the lines before it have set
abbrev pub bad_cause : Statement → Option (List ℕ × List Token) → Layout → Cause
bad_cause (st.NameFor field) cut s = settled field s
bad_cause (st.NegativeFor field) cut s = settled field s
bad_cause (st.Place n) cut s = settled PlaceField s
bad_cause (st.Priority n) cut s = settled PriorityField s
bad_cause (st.Stack n) cut s = settled StackField s
bad_cause (st.Entry l) cut s = Repeated (codes ".entry")
bad_cause statement cut s = answer_said WhichForm cut

-- which label isn't there, or else which other name isn't known
abbrev pub missing : Option (List ℕ) → Option (List ℕ × List Token) → Cause
missing (Some l) cut = NoLabel l
missing None cut = answer_said WhichName cut

-- which name isn't known
abbrev pub unknown_cause : Statement → Option (List ℕ × List Token) → Cause
unknown_cause statement cut = missing (used_label statement) cut

-- why a statement can't be put at an address
abbrev pub unput : Statement → ℕ → Cause
unput statement at = if is_code statement && not (at % 4 == 0) then Misaligned at else BeyondRam at (size_at at statement)

-- which number of a line by itself doesn't fit
abbrev pub own_excess : Statement → Option (List ℕ × List Token) → ℕ → Cause
own_excess st.Excessive cut at = answer_said WhichNumber cut
own_excess (st.NegativeFor field) cut at = answer_said WhichNumber cut
own_excess (st.Place n) cut at = answer_said WhichNumber cut
own_excess (st.Priority n) cut at = answer_said WhichNumber cut
own_excess (st.Stack n) cut at = answer_said WhichNumber cut
own_excess statement cut at = unput statement at

-- which label is too far away, or is no entry
abbrev pub astray_cause : Labels → ℕ → Statement → Cause
astray_cause labels at (st.Branch bits rs1 rs2 l) = Far l (offset_to labels at l) 4096
astray_cause labels at (st.JumpTo rd l) = Far l (offset_to labels at l) 1048576
astray_cause labels at (st.Entry l) = NoEntry l
astray_cause labels at statement = NoForm

-- which number doesn't fit
abbrev pub excess_cause : Labels → Statement → Option (List ℕ × List Token) → ℕ → Cause
excess_cause labels statement cut at =
    if is_excessive statement at then own_excess statement cut at else astray_cause labels at statement

-- the first of a line's labels that is a label already, or is here twice
abbrev pub first_double : List (List ℕ) → ℕ → Labels → Option (List ℕ)
first_double [] at labels = None
first_double (name ∷ names) at labels = if is_some (labels name) then Some name else first_double names at (labelled name at labels)

-- the number of the first line that begins with a label; the lines are numbered from k on
abbrev pub line_with : List ℕ → ℕ → List Line → ℕ
line_with name k [] = 0
line_with name k (line ∷ lines) = if list_any (λ n. bytes_eq name n) line.labels then k else line_with name (k + 1) lines

-- which label is there twice, and on which line first
abbrev pub double_cause : List Line → Option (List ℕ) → Cause
double_cause lines None = NoForm
double_cause lines (Some name) = LabelTwice name (line_with name 1 lines)

-- why a line is refused, given all lines with what they set, and what the lines before it have set
abbrev pub cause_of : Kind → List Line → Labels → List ℕ → Layout → Cause
cause_of Bad lines labels bytes s = bad_cause (line_of bytes).statement (said_line (tokens_of bytes)) s
cause_of Double lines labels bytes s = double_cause lines (first_double (line_of bytes).labels s.at s.labels)
cause_of Unknown lines labels bytes s = unknown_cause (line_of bytes).statement (said_line (tokens_of bytes))
cause_of Excess lines labels bytes s = excess_cause labels (line_of bytes).statement (said_line (tokens_of bytes)) s.at

-- why the line after n others is refused; a text without that line has too little content
abbrev pub cause_after : ℕ → Kind → List Line → Labels → List (List ℕ) → Layout → Cause
cause_after n kind lines labels [] s = NoContent
cause_after zero kind lines labels (bytes ∷ rest) s = cause_of kind lines labels bytes s
cause_after (suc n) kind lines labels (bytes ∷ rest) s = cause_after n kind lines labels rest (after (line_of bytes) s)

-- why line k of a text is refused; line 0 is none
unfoldable pub cause_at : ℕ → Kind → List ℕ → Cause
cause_at zero kind text = NoContent
cause_at (suc n) kind text = cause_after n kind (lines_in text) (after_all (lines_in text) start).labels (lines_of text) start

-- why a text has a fault
abbrev pub cause_of_fault : AsmFault → List ℕ → Cause
cause_of_fault (fault.BadLine k) text = cause_at k Bad text
cause_of_fault (fault.DoubleLabel k) text = cause_at k Double text
cause_of_fault (fault.UnknownName k) text = cause_at k Unknown text
cause_of_fault (fault.OutOfRange k) text = cause_at k Excess text
cause_of_fault fault.NoMemory text = NoForm
