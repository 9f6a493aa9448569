-- The table of the code beside that of the definition.
use Rattle.std.specs.Prelude.{◌≡◌, ℕ, true, List, [], ◌∷◌, map, if◌then◌else◌, Option, None, Some, codes}
use Rattle.std.specs.Str.{bytes_eq}
use Rattle.xinu_model.specs.Isa.Instructions.{Name, Row, Form, has_bits, rows, FormU, FormJ, FormI, FormB, FormS, FormShift, FormR, FormFence, FormWhole, Lui, Auipc, Jal, Jalr, Beq, Bne, Blt, Bge, Bltu, Bgeu, Lb, Lh, Lw, Lbu, Lhu, Sb, Sh, Sw, Addi, Slti, Sltiu, Xori, Ori, Andi, Slli, Srli, Srai, Add, Sub, Sll, Slt, Sltu, Xor, Srl, Sra, Or, And, Fence, Ecall, Ebreak}
use Rattle.rv_isa.specs.declared.rows.Row.{Row as CodeRow}
use Rattle.rv_isa.specs.declared.rows.Form.{Form as CodeForm}
use Rattle.rv_isa.specs.declared.rows.Form.TheVariants.{U, J, I, B, S, Shift, R, Fence as FenceForm, Whole}

-- the mnemonic of each instruction
abbrev pub mnemonic : Name → List ℕ
mnemonic Lui = codes "lui"
mnemonic Auipc = codes "auipc"
mnemonic Jal = codes "jal"
mnemonic Jalr = codes "jalr"
mnemonic Beq = codes "beq"
mnemonic Bne = codes "bne"
mnemonic Blt = codes "blt"
mnemonic Bge = codes "bge"
mnemonic Bltu = codes "bltu"
mnemonic Bgeu = codes "bgeu"
mnemonic Lb = codes "lb"
mnemonic Lh = codes "lh"
mnemonic Lw = codes "lw"
mnemonic Lbu = codes "lbu"
mnemonic Lhu = codes "lhu"
mnemonic Sb = codes "sb"
mnemonic Sh = codes "sh"
mnemonic Sw = codes "sw"
mnemonic Addi = codes "addi"
mnemonic Slti = codes "slti"
mnemonic Sltiu = codes "sltiu"
mnemonic Xori = codes "xori"
mnemonic Ori = codes "ori"
mnemonic Andi = codes "andi"
mnemonic Slli = codes "slli"
mnemonic Srli = codes "srli"
mnemonic Srai = codes "srai"
mnemonic Add = codes "add"
mnemonic Sub = codes "sub"
mnemonic Sll = codes "sll"
mnemonic Slt = codes "slt"
mnemonic Sltu = codes "sltu"
mnemonic Xor = codes "xor"
mnemonic Srl = codes "srl"
mnemonic Sra = codes "sra"
mnemonic Or = codes "or"
mnemonic And = codes "and"
mnemonic Fence = codes "fence"
mnemonic Ecall = codes "ecall"
mnemonic Ebreak = codes "ebreak"

-- what is seen of a row
pub record Seen : Type 0 where
  pub mnemonic : List ℕ
  pub mask : ℕ
  pub bits : ℕ
  pub form : Form

-- the form that the code names
abbrev pub form_of : CodeForm → Form
form_of U = FormU
form_of J = FormJ
form_of I = FormI
form_of B = FormB
form_of S = FormS
form_of Shift = FormShift
form_of R = FormR
form_of FenceForm = FormFence
form_of Whole = FormWhole

-- a row of the code
abbrev pub seen : CodeRow → Seen
seen r = record { mnemonic = r.name.now; mask = r.mask; bits = r.bits; form = form_of r.form }

-- a row of the definition
abbrev pub defined : Row → Seen
defined r = record { mnemonic = mnemonic r.name; mask = r.mask; bits = r.bits; form = r.form }

-- no word has the bits of both rows
abbrev pub NoWordHasBoth : Row → Row → Type 0
NoWordHasBoth r s = (word : ℕ) → has_bits word r ≡ true → has_bits word s ≡ true → ⊥

-- the first of these rows with this mnemonic
abbrev pub row_among : List Seen → List ℕ → Option Seen
row_among [] name = None
row_among (row ∷ more) name = if bytes_eq row.mnemonic name then Some row else row_among more name

-- the row of a mnemonic
unfoldable pub row_named : List ℕ → Option Seen
row_named name = row_among (map defined rows) name
