-- The meaning of a word, by the table and else by the own words.
use Rattle.std.proofs.Common.{◌≡◌, ℕ, List, Option, Some, None, ap}
use Rattle.rv_isa.specs.Table.{Seen, row_named}
use Rattle.asm_syntax.specs.Meanings.{Instruction, meaning_of, instruction_or_own, named_in, own_words}

pub meaning_of-row : (word : List ℕ) (row : Seen) → row_named word ≡ Some row → meaning_of word ≡ Some (Instruction row.bits row.form)
unfolding meaning_of
meaning_of-row word row is = ap (λ (o : Option Seen). instruction_or_own o word) is

pub meaning_of-own : (word : List ℕ) → row_named word ≡ None → meaning_of word ≡ named_in own_words word
unfolding meaning_of
meaning_of-own word is = ap (λ (o : Option Seen). instruction_or_own o word) is
