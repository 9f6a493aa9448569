-- Registers and RAM as hexadecimal texts.
use Rattle.std.specs.Prelude.{ℕ, ◌==◌, nat_lt, if◌then◌else◌, List, [], ◌∷◌, ◌++◌, take, drop, slice_index, slice_index_or, codes}
use Rattle.std.specs.Int.{to_le_bytes, w32}
use Rattle.xinu_base.specs.Hexadecimal.{hex_of}
use Rattle.xinu_base.specs.declared.registers.Hart.{Hart}
use Rattle.xinu_model.specs.Machine.{Xinu, no_hart}

-- the registers of process p
abbrev pub hart_of : Xinu → ℕ → Hart
hart_of s p = slice_index_or s.harts p no_hart

-- a word as eight digits, its lowest byte first
abbrev pub word_text : ℕ → List ℕ
word_text word = hex_of (to_le_bytes w32 word)

-- words as digits, one after another
abbrev pub words_text : List ℕ → List ℕ
words_text [] = []
words_text (word ∷ words) = word_text word ++ words_text words

-- all registers: x0 to x31, and the pc
abbrev pub registers_text : Hart → List ℕ
registers_text hart = words_text hart.regs ++ word_text hart.pc

-- the register of a number: 32 is the pc, and there is none after it
abbrev pub register_text : Hart → ℕ → List ℕ
register_text hart n =
    if nat_lt n 32 then word_text (slice_index hart.regs n)
    else if n == 32 then word_text hart.pc
    else codes "E01"

-- bytes as digits; a fault if there are none
abbrev pub bytes_text : List ℕ → List ℕ
bytes_text [] = codes "E14"
bytes_text (b ∷ bytes) = hex_of (b ∷ bytes)

-- so many bytes of RAM from an address on: those that there are
abbrev pub memory_text : List ℕ → ℕ → ℕ → List ℕ
memory_text memory address count = bytes_text (take count (drop address memory))
