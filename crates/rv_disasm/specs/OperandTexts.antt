-- How operands are written.
use Rattle.std.specs.Prelude.{ℕ, ◌/◌, ◌%◌, ◌<◌, List, [], ◌∷◌, ◌++◌, map, slice_index_or, codes}
use Rattle.std.specs.Fmt.{signed_decimal}
use Rattle.xinu_base.specs.Hexadecimal.{hex_digit}
use Rattle.asm_syntax.specs.Values.{registers}
use Rattle.rv_disasm.specs.declared.operands.Operand.{Operand}
use Rattle.rv_disasm.specs.declared.operands.Operand.TheVariants.{Register, Number, Offset, Target}

-- the name of a register in the calling convention
unfoldable pub register_name : ℕ → List ℕ
register_name n = slice_index_or (map (λ row. row.0) registers) n []

-- a word as eight hexadecimal digits
abbrev pub hex_word : ℕ → List ℕ
hex_word n =
    hex_digit (n / 0x10000000 % 16) ∷ hex_digit (n / 0x1000000 % 16) ∷ hex_digit (n / 0x100000 % 16) ∷ hex_digit (n / 0x10000 % 16) ∷
    hex_digit (n / 0x1000 % 16) ∷ hex_digit (n / 0x100 % 16) ∷ hex_digit (n / 0x10 % 16) ∷ hex_digit (n % 16) ∷ []

-- the label of an address: its name says the address
abbrev pub label_of : ℕ → List ℕ
label_of address = codes "at_" ++ hex_word address

-- how an operand is written: a register by its name, a number in decimal digits, an address by its label
abbrev pub operand_text : Operand → List ℕ
operand_text (Register n) = register_name n
operand_text (Number z) = signed_decimal z
operand_text (Offset z n) = signed_decimal z ++ 40 ∷ [] ++ register_name n ++ 41 ∷ []
operand_text (Target address) = label_of address

-- operands with a comma and a blank between them
abbrev pub listed : List Operand → List ℕ
listed [] = []
listed (o ∷ []) = operand_text o
listed (o ∷ p ∷ os) = operand_text o ++ 44 ∷ 32 ∷ [] ++ listed (p ∷ os)

-- a register of an operand has a number below 32
abbrev pub IsProper : Operand → Type 0
IsProper (Register n) = n < 32
IsProper (Offset z n) = n < 32
IsProper operand = Unit {0}
