-- The rows of the code, searched for the bits of a word.
use Rattle.std.proofs.Common.{◌≡◌, ℕ, suc, ◌+◌, ◌<◌, ◌≤◌, Bool, true, false, cond, List, [], ◌∷◌, length, drop, map, get_or, Option, Some, None, refl, sym, ap, ◌∙◌, arith, leb-true}
use Rattle.std.specs.Prelude.{◌==◌, nat_le, if◌then◌else◌, bit_and}
use Rattle.std.specs.List.{list_all}
use Rattle.std.proofs.lemmas.Bool.{and_parts}
use Rattle.std.proofs.lemmas.List.{length-map}
use Rattle.std.proofs.Math.Seq.{drop-cons}
use Rattle.std.proofs.Math.ListN.{drop_of_length-le}
use Rattle.xinu_model.specs.Isa.Instructions.{Row, rows, has_bits, row_in}
use Rattle.rv_isa.specs.Table.{Seen, seen, defined}
use Rattle.rv_isa.specs.declared.rows.Row.{Row as CodeRow}
use Rattle.rv_disasm.specs.Disassembly.{with_mnemonic, row_seen}

-- the first of these rows whose bits a word has
abbrev pub row_from : List Seen → ℕ → Option Seen
row_from [] word = None
row_from (row ∷ more) word = if bit_and word row.mask == row.bits then Some row else row_from more word

row_step : (x : Bool) (r : Row) (rest : Option Row) (more : Option Seen) → with_mnemonic rest ≡ more
    → with_mnemonic (cond x (Some r) rest) ≡ cond x (Some (defined r)) more
row_step true r rest more is = refl
row_step false r rest more is = is

row_from-rows : (rs : List Row) (word : ℕ) → with_mnemonic (row_in rs word) ≡ row_from (map defined rs) word
row_from-rows [] word = refl
row_from-rows (r ∷ rs) word = row_step (has_bits word r) r (row_in rs word) (row_from (map defined rs) word) (row_from-rows rs word)

-- the search over all rows
pub row_from-start : (items : List CodeRow) (word : ℕ) → map seen items ≡ map defined rows → row_seen word ≡ row_from (map seen items) word
unfolding row_seen
row_from-start items word is = row_from-rows rows word ∙ ap (λ (l : List Seen). row_from l word) (sym is)

-- a row with other bits is passed by
pub row_from-next : (items : List CodeRow) (i word : ℕ) (d : CodeRow) → i < length items
    → (bit_and word (get_or items i d).mask == (get_or items i d).bits) ≡ false
    → row_from (map seen (drop i items)) word ≡ row_from (map seen (drop (i + 1) items)) word
row_from-next items i word d within other =
    let step : i + 1 ≡ suc i = omega arith in
    let here : drop i items ≡ get_or items i d ∷ drop (suc i) items = drop-cons items i d within in
    rw (here, step, other) refl

-- the row with these bits is found
pub row_from-here : (items : List CodeRow) (i word : ℕ) (d : CodeRow) → i < length items
    → (bit_and word (get_or items i d).mask == (get_or items i d).bits) ≡ true
    → row_from (map seen (drop i items)) word ≡ Some (seen (get_or items i d))
row_from-here items i word d within same =
    let here : drop i items ≡ get_or items i d ∷ drop (suc i) items = drop-cons items i d within in
    rw (here, same) refl

-- no row is left
pub row_from-end : (items : List CodeRow) (i word : ℕ) → length items ≤ i → row_from (map seen (drop i items)) word ≡ None
row_from-end items i word all =
    let none : drop i items ≡ [] = drop_of_length-le items all in
    rw none refl

-- there are forty rows
pub rows_are : (items : List CodeRow) → map seen items ≡ map defined rows → length items ≡ 40
rows_are items is = sym (length-map items seen) ∙ ap length is

-- a mnemonic has at most six letters
abbrev is_short : Seen → Bool
is_short row = nat_le (length row.mnemonic) 6

short_step : (x : Bool) (r row : Seen) (rest : Option Seen) → is_short r ≡ true → (rest ≡ Some row → is_short row ≡ true)
    → cond x (Some r) rest ≡ Some row → is_short row ≡ true
short_step true r row rest here more is =
    let same : r ≡ row = cc in
    ap is_short (sym same) ∙ here
short_step false r row rest here more is = more is

row_from-short : (items : List Seen) (word : ℕ) (row : Seen) → list_all is_short items ≡ true → row_from items word ≡ Some row → is_short row ≡ true
row_from-short [] word row all is = cc
row_from-short (r ∷ rs) word row all is =
    let parts = and_parts (is_short r) (list_all is_short rs) all in
    short_step (bit_and word r.mask == r.bits) r row (row_from rs word) parts.0 (row_from-short rs word row parts.1) is

pub row_seen-short : (word : ℕ) (row : Seen) → row_seen word ≡ Some row → length row.mnemonic ≤ 6
unfolding row_seen
row_seen-short word row is =
    leb-true (length row.mnemonic) 6 (row_from-short (map defined rows) word row refl (sym (row_from-rows rows word) ∙ is))
