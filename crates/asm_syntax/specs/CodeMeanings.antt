-- The meanings of the code.
use Rattle.std.specs.Prelude.{◌≤◌}
use Rattle.rv_isa.specs.Encoding.{fixed}
use Rattle.rv_isa.specs.Table.{form_of}
use Rattle.asm_syntax.specs.Meanings as spec
use Rattle.asm_syntax.specs.declared.statements.HeaderField.{HeaderField}
use Rattle.asm_syntax.specs.declared.statements.HeaderField.TheVariants.{PlaceField, PriorityField, StackField}
use Rattle.asm_syntax.specs.declared.meanings.Meaning.{Meaning}
use Rattle.asm_syntax.specs.declared.meanings.Meaning.TheVariants.{Instruction, Li, La, Mv, Nop, Jump, Ret, Sys, DotWord, DotByte, DotZero}
use Rattle.asm_syntax.specs.declared.meanings.Meaning.TheVariants.{DotAscii, DotAlign, DotPlace, DotEntry, DotPriority, DotStack}

-- the meaning that the code has
abbrev pub seen_meaning : Meaning → spec.Meaning
seen_meaning (Instruction row) = spec.Instruction row.bits (form_of row.form)
seen_meaning Li = spec.Li
seen_meaning La = spec.La
seen_meaning Mv = spec.Mv
seen_meaning Nop = spec.Nop
seen_meaning Jump = spec.Jump
seen_meaning Ret = spec.Ret
seen_meaning Sys = spec.Sys
seen_meaning DotWord = spec.DotWord
seen_meaning DotByte = spec.DotByte
seen_meaning DotZero = spec.DotZero
seen_meaning DotAscii = spec.DotAscii
seen_meaning DotAlign = spec.DotAlign
seen_meaning DotPlace = spec.DotPlace
seen_meaning DotEntry = spec.DotEntry
seen_meaning DotPriority = spec.DotPriority
seen_meaning DotStack = spec.DotStack

-- the fixed bits of an instruction leave room for its fields
abbrev pub HasRoom : Meaning → Type 0
HasRoom (Instruction row) = row.bits ≤ fixed (form_of row.form)
HasRoom meaning = Unit {0}

-- the directive that sets a field of the header
abbrev pub directive_of : HeaderField → spec.Meaning
directive_of PlaceField = spec.DotPlace
directive_of PriorityField = spec.DotPriority
directive_of StackField = spec.DotStack
