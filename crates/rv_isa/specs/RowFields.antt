-- The row of a word by its opcode, funct3 and funct7, the fields that the table's masks keep.
use Rattle.std.specs.Prelude.{ℕ, ◌/◌, ◌%◌, Bool, ◌&&◌, ◌==◌, if◌then◌else◌, List, [], ◌∷◌, Option, Some, None}
use Rattle.xinu_model.specs.Isa.Instructions.{Row}

-- the opcode of a word
abbrev pub opcode_of : ℕ → ℕ
opcode_of word = word % 128

-- its funct3
abbrev pub funct3_of : ℕ → ℕ
funct3_of word = word / 4096 % 8

-- its funct7
abbrev pub funct7_of : ℕ → ℕ
funct7_of word = word / 33554432 % 128

-- whether a word with this opcode, funct3, funct7 and whole has these bits under a mask that is one of the table's four
abbrev pub has_parts : ℕ → ℕ → ℕ → ℕ → ℕ → ℕ → Bool
has_parts opcode funct3 funct7 whole mask bits =
    if mask == 0x7f then opcode == bits
    else (if mask == 0x707f then (opcode == bits % 128) && (funct3 == bits / 4096)
    else (if mask == 0xfe00707f then (opcode == bits % 128) && (funct3 == bits / 4096 % 8) && (funct7 == bits / 33554432)
    else (opcode == bits % 128) && (whole == bits)))

-- the first of these rows with these parts
abbrev pub row_by : List Row → ℕ → ℕ → ℕ → ℕ → Option Row
row_by [] opcode funct3 funct7 whole = None
row_by (r ∷ rs) opcode funct3 funct7 whole =
    if has_parts opcode funct3 funct7 whole r.mask r.bits then Some r else row_by rs opcode funct3 funct7 whole
