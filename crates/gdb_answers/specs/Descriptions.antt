-- The description of the registers, and texts that are read in parts.
use Rattle.std.specs.Prelude.{ℕ, nat_le, zero, suc, if◌then◌else◌, List, [], ◌∷◌, ◌++◌, length, take, drop, codes}
use Rattle.std.specs.Fmt.{decimal}

-- a register in the description
abbrev pub register_entry : List ℕ → List ℕ
register_entry name = codes "<reg name='" ++ name ++ codes "' bitsize='32' type='int'/>"

-- the registers x0, x1 .. below a number
unfoldable pub registers_below : ℕ → List ℕ
registers_below zero = []
registers_below (suc n) = registers_below n ++ register_entry (codes "x" ++ decimal n)

-- the registers of the machine, RV32I
unfoldable pub features : List ℕ
features =
    codes "<?xml version='1.0'?><!DOCTYPE target SYSTEM 'gdb-target.dtd'><target><architecture>riscv:rv32</architecture><feature name='org.gnu.gdb.riscv.cpu'>"
    ++ registers_below 32
    ++ register_entry (codes "pc")
    ++ codes "</feature></target>"

-- so many bytes of a text from a place on: `l` before them if they are the last, else `m`
abbrev pub part : List ℕ → ℕ → ℕ → List ℕ
part text at count = (if nat_le (length (drop at text)) count then 108 else 109) ∷ take count (drop at text)
