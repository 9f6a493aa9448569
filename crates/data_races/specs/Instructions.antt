-- Bytes that are loaded and stored, and those of an instruction.
use Rattle.std.specs.Prelude.{ℕ, zero, suc, ◌+◌, ◌==◌, Bool, true, false, if◌then◌else◌, List, [], ◌∷◌, ◌++◌, Option, Some, None}
use Rattle.xinu_base.specs.Constants.{INITRET}
use Rattle.xinu_base.specs.declared.registers.Hart.{Hart}
use Rattle.xinu_model.specs.Isa.Effects.{register, wrapped}
use Rattle.xinu_model.specs.Isa.Instructions.{Name, Row, fields, row_of, Lb, Lh, Lw, Lbu, Lhu, Sb, Sh, Sw}
use Rattle.xinu_model.specs.Memory.{may_access, number_at}
use Rattle.happens_before.specs.Histories.{Deed, Accessed}

-- process p, at this place, loads or stores n bytes from an address on
abbrev pub touches : Bool → ℕ → ℕ → ℕ → ℕ → List Deed
touches stores p place address zero = []
touches stores p place address (suc n) =
    Accessed (record { process = p; byte = address; stores = stores; place = place }) ∷ touches stores p place (address + 1) n

abbrev pub loads : ℕ → ℕ → ℕ → ℕ → List Deed
loads = touches false

abbrev pub stores : ℕ → ℕ → ℕ → ℕ → List Deed
stores = touches true

-- how many bytes an instruction loads, and how many it stores
abbrev pub load_width : Name → ℕ
load_width Lb = 1
load_width Lbu = 1
load_width Lh = 2
load_width Lhu = 2
load_width Lw = 4
load_width _ = 0

abbrev pub store_width : Name → ℕ
store_width Sb = 1
store_width Sh = 2
store_width Sw = 4
store_width _ = 0

-- a transfer that traps touches nothing
abbrev pub allowed : ℕ → ℕ → ℕ
allowed address width = if may_access address width then width else 0

-- the bytes of an instruction at its address, if it is one of the table
abbrev pub obeyed_by : Option Row → ℕ → ℕ → Hart → List Deed
obeyed_by None word p h = []
obeyed_by (Some row) word p h =
    let f = fields row.form word in
    let address = wrapped (register h.regs f.rs1 + f.imm) in
    loads p h.pc address (allowed address (load_width row.name)) ++ stores p h.pc address (allowed address (store_width row.name))

-- What the next instruction of process p loads and stores; it is fetched without a deed.
unfoldable pub instruction_deeds : ℕ → Hart → List ℕ → List Deed
instruction_deeds p h memory =
    if h.pc == INITRET then []
    else (if may_access h.pc 4 then (let word = number_at memory h.pc 4 in obeyed_by (row_of word) word p h) else [])
