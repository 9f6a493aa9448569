-- Operations on two words, and what is known of their results.
use Rattle.std.specs.Prelude.{ℕ, Option, None, Some, bit_and, bit_or, bit_xor}
use Rattle.xinu_model.specs.Isa.Effects.{less, less_unsigned, truth}
use Rattle.program_logic.specs.Terms.{constant, number_in}
use Rattle.program_logic.specs.declared.operations.Operation.{Operation}
use Rattle.program_logic.specs.declared.operations.Operation.TheVariants.{Less, Below, Xor, Or, And}
use Rattle.program_logic.specs.declared.values.Slot.{Slot}
use Rattle.program_logic.specs.declared.values.Slot.TheVariants.{Known, Unknown}

-- the result of an operation
abbrev pub result_of : Operation → ℕ → ℕ → ℕ
result_of Less a b = truth (less a b)
result_of Below a b = truth (less_unsigned a b)
result_of Xor a b = bit_xor a b
result_of Or a b = bit_or a b
result_of And a b = bit_and a b

-- what is known of it: the number, if both are known to be numbers
abbrev pub folded_of : Operation → Option ℕ → Option ℕ → Slot
folded_of operation (Some a) (Some b) = Known (constant (result_of operation a b))
folded_of operation (Some a) None = Unknown
folded_of operation None b = Unknown

abbrev pub folded : Operation → Slot → Slot → Slot
folded operation a b = folded_of operation (number_in a) (number_in b)
