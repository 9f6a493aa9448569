-- The statements of the code.
use Rattle.std.specs.Prelude.{◌≡◌, ◌≤◌, ◌<◌, true, is_some, [], ◌∷◌}
use Rattle.rv_isa.specs.Encoding.{fixed}
use Rattle.xinu_model.specs.Isa.Instructions.{FormB}
use Rattle.asm_syntax.specs.Statements as spec
use Rattle.asm_syntax.specs.Texts.{bytes_of, text_bytes}
use Rattle.asm_syntax.specs.declared.statements.Statement.{Statement}
use Rattle.asm_syntax.specs.declared.statements.Statement.TheVariants.{Empty, Malformed, Unresolved, Excessive, One, Two, Branch, JumpTo}
use Rattle.asm_syntax.specs.declared.statements.Statement.TheVariants.{AddressOf, Word, Byte, Text, WordAt, Zeros, Align, Place, Entry}
use Rattle.asm_syntax.specs.declared.statements.Statement.TheVariants.{Priority, Stack, NameFor, NegativeFor}

-- the statement that the code has
abbrev pub seen_statement : Statement → spec.Statement
seen_statement Empty = spec.Empty
seen_statement Malformed = spec.Malformed
seen_statement Unresolved = spec.Unresolved
seen_statement Excessive = spec.Excessive
seen_statement (NameFor field) = spec.NameFor field
seen_statement (NegativeFor field) = spec.NegativeFor field
seen_statement (One word) = spec.Code (word ∷ [])
seen_statement (Two first second) = spec.Code (first ∷ second ∷ [])
seen_statement (Branch bits rs1 rs2 l) = spec.Branch bits rs1 rs2 l.now
seen_statement (JumpTo rd l) = spec.JumpTo rd l.now
seen_statement (AddressOf rd l) = spec.AddressOf rd l.now
seen_statement (Word word) = spec.Bytes (spec.word_bytes word)
seen_statement (Byte b) = spec.Bytes (b ∷ [])
seen_statement (Text text) = spec.Bytes (bytes_of text.now)
seen_statement (WordAt l) = spec.WordAt l.now
seen_statement (Zeros n) = spec.Zeros n
seen_statement Align = spec.Align
seen_statement (Place n) = spec.Place n
seen_statement (Entry l) = spec.Entry l.now
seen_statement (Priority n) = spec.Priority n
seen_statement (Stack n) = spec.Stack n

-- What is true of every statement: registers have numbers below 32, the fixed bits of a branch leave room for its fields, a text stands
-- for bytes, and zeros fit RAM.
abbrev pub IsProper : Statement → Type 0
IsProper (Branch bits rs1 rs2 l) = (bits ≤ fixed FormB) × ((rs1 < 32) × (rs2 < 32))
IsProper (JumpTo rd l) = rd < 32
IsProper (AddressOf rd l) = rd < 32
IsProper (Text text) = is_some (text_bytes text.now) ≡ true
IsProper (Zeros n) = n ≤ 1048576
IsProper statement = Unit {0}
