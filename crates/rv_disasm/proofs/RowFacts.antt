-- What is true of each row of the table.
use Rattle.std.proofs.Common.{◌≡◌, ℕ, Bool, true, false, cond, List, [], ◌∷◌, Option, Some, refl, subst}
use Rattle.xinu_model.specs.Isa.Instructions.{Row, rows, has_bits, row_in, row_of}
use Rattle.rv_isa.specs.Table.{mnemonic, row_named}
use Rattle.asm_syntax.specs.Meanings.{Instruction, meaning_of}
use Rattle.asm_syntax.specs.Statements.{can_name}
use Rattle.rv_disasm.proofs.Words.{is_plain_word}
use Rattle.rv_disasm.proofs.Encoded.{suits}

-- the mnemonic of a row is a word that means the row's instruction, and the row's mask and bits are those of its form
abbrev pub IsKnown : Row → Type 0
IsKnown row =
    (is_plain_word (mnemonic row.name) ≡ true) × (can_name (mnemonic row.name) ≡ true)
    × (meaning_of (mnemonic row.name) ≡ Some (Instruction row.bits row.form)) × (suits row.form row.mask row.bits ≡ true)

-- each of these rows is known
abbrev AreKnown : List Row → Type 0
AreKnown [] = Unit {0}
AreKnown (row ∷ more) = IsKnown row × AreKnown more

known_step : (x : Bool) (q r : Row) (rest : Option Row) → IsKnown q → (rest ≡ Some r → IsKnown r) → cond x (Some q) rest ≡ Some r → IsKnown r
known_step true q r rest here more is = let same : q ≡ r = cc in subst IsKnown same here
known_step false q r rest here more is = more is

known_in : (rs : List Row) (word : ℕ) (r : Row) → AreKnown rs → row_in rs word ≡ Some r → IsKnown r
known_in [] word r all is = cc
known_in (q ∷ rs) word r all is = known_step (has_bits word q) q r (row_in rs word) all.0 (known_in rs word r all.1) is

all_known : AreKnown rows
unfolding meaning_of row_named
all_known = ((refl, refl, refl, refl), ((refl, refl, refl, refl), ((refl, refl, refl, refl), ((refl, refl, refl, refl), ((refl, refl, refl, refl), ((refl, refl, refl, refl), ((refl, refl, refl, refl), ((refl, refl, refl, refl), ((refl, refl, refl, refl), ((refl, refl, refl, refl), ((refl, refl, refl, refl), ((refl, refl, refl, refl), ((refl, refl, refl, refl), ((refl, refl, refl, refl), ((refl, refl, refl, refl), ((refl, refl, refl, refl), ((refl, refl, refl, refl), ((refl, refl, refl, refl), ((refl, refl, refl, refl), ((refl, refl, refl, refl), ((refl, refl, refl, refl), ((refl, refl, refl, refl), ((refl, refl, refl, refl), ((refl, refl, refl, refl), ((refl, refl, refl, refl), ((refl, refl, refl, refl), ((refl, refl, refl, refl), ((refl, refl, refl, refl), ((refl, refl, refl, refl), ((refl, refl, refl, refl), ((refl, refl, refl, refl), ((refl, refl, refl, refl), ((refl, refl, refl, refl), ((refl, refl, refl, refl), ((refl, refl, refl, refl), ((refl, refl, refl, refl), ((refl, refl, refl, refl), ((refl, refl, refl, refl), ((refl, refl, refl, refl), ((refl, refl, refl, refl), tt))))))))))))))))))))))))))))))))))))))))

-- so is the row of a word
pub known : (word : ℕ) (row : Row) → row_of word ≡ Some row → IsKnown row
known word row is = known_in rows word row all_known is
