-- The operands of the code.
use Rattle.std.specs.Prelude.{List, take, Option, Some, None}
use Rattle.asm_syntax.specs.Operands as spec
use Rattle.asm_syntax.specs.declared.operands.Operand.{Operand}
use Rattle.asm_syntax.specs.declared.operands.Operand.TheVariants.{NamedOffset, Name, Number, Offset, Text}

-- the operand that the code has
abbrev pub seen_operand : Operand → spec.Operand
seen_operand (Name w) = spec.Name w.now
seen_operand (Number n) = spec.Number n
seen_operand (Offset n w) = spec.Offset n w.now
seen_operand NamedOffset = spec.NamedOffset
seen_operand (Text t) = spec.Text t.now

-- the first four of some operands: no statement takes more than three
abbrev pub first_four : Option (List spec.Operand) → Option (List spec.Operand)
first_four None = None
first_four (Some operands) = Some (take 4 operands)
