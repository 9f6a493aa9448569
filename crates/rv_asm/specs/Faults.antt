-- The faults of a text: those of a line by itself in their order, and those of offsets and addresses that labels give.
use Rattle.std.specs.Prelude.{ℕ, ◌+◌, ◌-◌, ◌%◌, ◌==◌, nat_le, nat_lt, int_le, Bool, true, false, not, if◌then◌else◌, ◌&&◌, ◌||◌, ℤ, pos}
use Rattle.std.specs.Prelude.{negsuc, ◌-ℤ◌, List, [], ◌∷◌, Option, Some, None, is_some, is_none, unwrap_or}
use Rattle.asm_syntax.specs.Statements.{Statement, Malformed, Unresolved, Excessive, NameFor, NegativeFor, Branch, JumpTo, Place, Entry}
use Rattle.asm_syntax.specs.Statements.{Priority, Stack, Line, word_of}
use Rattle.asm_syntax.specs.declared.statements.HeaderField.{HeaderField}
use Rattle.asm_syntax.specs.declared.statements.HeaderField.TheVariants.{PlaceField, PriorityField, StackField}
use Rattle.rv_asm.specs.Layouts.{size_at, is_code, used_label, Labels, labelled, Layout, after_labels, after}
use Rattle.rv_asm.specs.declared.faults.AsmFault.{AsmFault}
use Rattle.rv_asm.specs.declared.faults.AsmFault.TheVariants.{BadLine, UnknownName, OutOfRange, DoubleLabel}

-- whether a directive that sets a field is repeated, or is a `.place` after a label or content
abbrev pub is_settled : HeaderField → Layout → Bool
is_settled PlaceField s = is_some s.place || s.begun
is_settled PriorityField s = is_some s.priority
is_settled StackField s = is_some s.stack

-- a statement without a form, or a directive that is repeated or late, whatever its operand is
abbrev pub is_bad : Statement → Layout → Bool
is_bad Malformed s = true
is_bad (NameFor field) s = is_settled field s
is_bad (NegativeFor field) s = is_settled field s
is_bad (Place n) s = is_settled PlaceField s
is_bad (Entry l) s = is_some s.entry
is_bad (Priority n) s = is_settled PriorityField s
is_bad (Stack n) s = is_settled StackField s
is_bad statement s = false

-- one of these names is a label already, or is here twice
abbrev pub is_double : List (List ℕ) → ℕ → Labels → Bool
is_double [] at labels = false
is_double (name ∷ names) at labels = is_some (labels name) || is_double names at (labelled name at labels)

-- a name that has to be a label and isn't
abbrev pub is_missing : Labels → Option (List ℕ) → Bool
is_missing labels None = false
is_missing labels (Some name) = is_none (labels name)

-- a name that isn't known, given all labels of the text
abbrev pub is_unknown : Labels → Statement → Bool
is_unknown labels Unresolved = true
is_unknown labels (NameFor field) = true
is_unknown labels statement = is_missing labels (used_label statement)

-- a number that doesn't fit, a misaligned instruction, or bytes that leave RAM
abbrev pub is_excessive : Statement → ℕ → Bool
is_excessive Excessive at = true
is_excessive (NegativeFor field) at = true
is_excessive (Place n) at = not ((n % 4 == 0) && nat_le n 1048576)
is_excessive (Priority n) at = not (nat_le 1 n && nat_le n 32767)
is_excessive (Stack n) at = nat_lt 4294967295 n
is_excessive statement at =
    (is_code statement && not (at % 4 == 0)) || (nat_lt 0 (size_at at statement) && nat_lt 1048576 (at + size_at at statement))

-- the first of a line's faults that is there
abbrev pub fault_by : Bool → Bool → Bool → Bool → ℕ → Option AsmFault
fault_by bad double unknown excessive k =
    if bad then Some (BadLine k)
    else if double then Some (DoubleLabel k)
    else if unknown then Some (UnknownName k)
    else if excessive then Some (OutOfRange k)
    else None

-- the fault of line k by itself, given all labels of the text and what the lines before it have set
abbrev pub fault_of : Labels → ℕ → Line → Layout → Option AsmFault
fault_of labels k line s =
    fault_by (is_bad line.statement (after_labels line.labels s)) (is_double line.labels s.at s.labels) (is_unknown labels line.statement)
    (is_excessive line.statement s.at) k

-- a fault, or else another
abbrev pub fault_or : Option AsmFault → Option AsmFault → Option AsmFault
fault_or (Some fault) other = Some fault
fault_or None other = other

-- the fault of the first line that has one; the lines are numbered from k on
abbrev pub first_fault : Labels → ℕ → List Line → Layout → Option AsmFault
first_fault labels k [] s = None
first_fault labels k (line ∷ lines) s = fault_or (fault_of labels k line s) (first_fault labels (k + 1) lines (after line s))

-- the address of a label that is there
abbrev pub address : Labels → List ℕ → ℕ
address labels name = unwrap_or (labels name) 0

-- how far a label is from an address
abbrev pub offset_to : Labels → ℕ → List ℕ → ℤ
offset_to labels at name = pos (address labels name) -ℤ pos at

-- an offset that is odd, or isn't from -reach to reach - 2
abbrev pub is_far : ℤ → ℕ → Bool
is_far offset reach = not (int_le (negsuc (reach - 1)) offset && int_le offset (pos (reach - 2)) && (word_of offset % 2 == 0))

-- an offset or an entry that a label gives and that doesn't fit, if the content goes from a place to an end
abbrev pub is_astray : Labels → ℕ → ℕ → ℕ → Statement → Bool
is_astray labels place end at (Branch bits rs1 rs2 l) = is_far (offset_to labels at l) 4096
is_astray labels place end at (JumpTo rd l) = is_far (offset_to labels at l) 1048576
is_astray labels place end at (Entry l) =
    not ((address labels l % 4 == 0) && nat_le place (address labels l) && nat_le (address labels l + 4) end)
is_astray labels place end at statement = false

-- the fault of an offset or an entry on line k
abbrev pub astray_at : Labels → ℕ → ℕ → ℕ → ℕ → Statement → Option AsmFault
astray_at labels place end k at statement = if is_astray labels place end at statement then Some (OutOfRange k) else None

-- the first of these faults; the lines are numbered from k on
abbrev pub first_astray : Labels → ℕ → ℕ → ℕ → List Line → Layout → Option AsmFault
first_astray labels place end k [] s = None
first_astray labels place end k (line ∷ lines) s =
    fault_or (astray_at labels place end k s.at line.statement) (first_astray labels place end (k + 1) lines (after line s))
