-- The programs: each is two texts, 64 groups and a jump back to the first of them.
use Rattle.std.specs.Prelude.{ℕ, zero, suc, ◌+◌, ◌-◌, ◌*◌, ◌%◌, ◌==◌, if◌then◌else◌, List, [], ◌∷◌, ◌++◌, length, pos}
use Rattle.std.specs.List.{flat_map}
use Rattle.xinu_model.specs.Boot.{Loaded}
use Rattle.xinu_model.specs.Isa.Instructions.{FormJ}
use Rattle.rv_isa.specs.Encoding.{placed}
use Rattle.asm_syntax.specs.Statements.{word_bytes}
use Rattle.workload.specs.Groups.{groups, after_groups}

-- the address at which program i lies; the first has number 1
abbrev pub place_of : ℕ → ℕ
place_of i = 32768 * (i - 1)

-- how many of the shapes the groups of program i are drawn from
abbrev pub kinds_of : ℕ → ℕ
kinds_of i = if i == 1 then 10 else 16

-- the texts of program i: the name of a file, `a` to `d`, and the mode `rw`
abbrev pub texts : ℕ → List ℕ
texts i = (96 + i) ∷ 0 ∷ 0 ∷ 0 ∷ 114 ∷ 119 ∷ 0 ∷ 0 ∷ []

-- instructions with a jump back to the first of them, whose offset is in two's complement
abbrev pub repeated : List ℕ → List ℕ
repeated words = words ++ (0x6f + placed FormJ 0 0 0 ((4294967296 - 4 * length words) % 4294967296)) ∷ []

-- the bytes of program i: its texts, and its instructions
unfoldable pub content : ℕ → ℕ → List ℕ
content i x = texts i ++ flat_map word_bytes (repeated (groups (place_of i) (kinds_of i) 64 x))

-- the program that has these bytes at a place; its first instruction comes after the texts
abbrev pub program_at : ℕ → List ℕ → Loaded
program_at place bytes = record {
  parts = (record { place = place; bytes = bytes; size = length bytes }) ∷ [];
  entry = place + 8;
  priority = pos 20;
  stack = 4096;
}

-- program i
abbrev pub program : ℕ → ℕ → Loaded
program i x = program_at (place_of i) (content i x)

-- the state after program i
abbrev pub after_program : ℕ → ℕ → ℕ
after_program i x = after_groups (kinds_of i) 64 x

-- n programs, the first of which has number i
abbrev pub programs_from : ℕ → ℕ → ℕ → List Loaded
programs_from i zero x = []
programs_from i (suc n) x = program i x ∷ programs_from (i + 1) n (after_program i x)

-- the state after them
abbrev pub after_programs : ℕ → ℕ → ℕ → ℕ
after_programs i zero x = x
after_programs i (suc n) x = after_programs (i + 1) n (after_program i x)

-- the four programs that a number gives
abbrev pub programs : ℕ → List Loaded
programs seed = programs_from 1 4 seed
