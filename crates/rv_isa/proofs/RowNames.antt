-- The rows of the code, searched for a mnemonic.
use Rattle.std.proofs.Common.{◌≡◌, ℕ, suc, ◌+◌, ◌<◌, ◌≤◌, Bool, true, false, cond, List, [], ◌∷◌, length, drop, map, get_or, Option, Some, refl, sym, ap, ◌∙◌, arith}
use Rattle.std.specs.Prelude.{nat_le}
use Rattle.std.specs.List.{list_all}
use Rattle.std.specs.Str.{bytes_eq}
use Rattle.std.proofs.lemmas.Bool.{and_parts, leb-true}
use Rattle.std.proofs.lemmas.List.{length-map}
use Rattle.std.proofs.Math.Seq.{drop-cons}
use Rattle.xinu_model.specs.Isa.Instructions.{rows}
use Rattle.rv_isa.specs.Encoding.{fixed}
use Rattle.rv_isa.specs.Table.{Seen, seen, defined, row_among, row_named}
use Rattle.rv_isa.specs.declared.rows.Row.{Row}

-- the search over all rows
pub row_named-start : (items : List Row) (name : List ℕ) → map seen items ≡ map defined rows → row_named name ≡ row_among (map seen items) name
unfolding row_named
row_named-start items name is = ap (λ (l : List Seen). row_among l name) (sym is)

-- a row of another name is passed by
pub row_among-next : (items : List Row) (i : ℕ) (name : List ℕ) (d : Row) → i < length items → bytes_eq (get_or items i d).name.now name ≡ false → row_among (map seen (drop i items)) name ≡ row_among (map seen (drop (i + 1) items)) name
row_among-next items i name d within other =
    let step : i + 1 ≡ suc i = omega arith in
    let here : drop i items ≡ get_or items i d ∷ drop (suc i) items = drop-cons items i d within in
    rw (here, step, other) refl

-- the row of this name is found
pub row_among-here : (items : List Row) (i : ℕ) (name : List ℕ) (d : Row) → i < length items → bytes_eq (get_or items i d).name.now name ≡ true → row_among (map seen (drop i items)) name ≡ Some (seen (get_or items i d))
row_among-here items i name d within same =
    let here : drop i items ≡ get_or items i d ∷ drop (suc i) items = drop-cons items i d within in
    rw (here, same) refl

-- there are forty rows
pub rows_are : (items : List Row) → map seen items ≡ map defined rows → length items ≡ 40
rows_are items is = sym (length-map items seen) ∙ ap length is

-- the fixed bits of a row leave room for its fields
abbrev leaves_room : Seen → Bool
leaves_room row = nat_le row.bits (fixed row.form)

room_step : (x : Bool) (r row : Seen) (rest : Option Seen) → leaves_room r ≡ true → (rest ≡ Some row → leaves_room row ≡ true) → cond x (Some r) rest ≡ Some row → leaves_room row ≡ true
room_step true r row rest here more is =
    let same : r ≡ row = cc in
    ap leaves_room (sym same) ∙ here
room_step false r row rest here more is = more is

row_among-room : (items : List Seen) (name : List ℕ) (row : Seen) → list_all leaves_room items ≡ true → row_among items name ≡ Some row → leaves_room row ≡ true
row_among-room [] name row all is = cc
row_among-room (r ∷ rs) name row all is =
    let parts = and_parts (leaves_room r) (list_all leaves_room rs) all in
    room_step (bytes_eq r.mnemonic name) r row (row_among rs name) parts.0 (row_among-room rs name row parts.1) is

-- so do those of the row that is found
pub row_named-room : (name : List ℕ) (row : Row) → row_named name ≡ Some (seen row) → (seen row).bits ≤ fixed (seen row).form
unfolding row_named
row_named-room name row is =
    leb-true (seen row).bits (fixed (seen row).form) (row_among-room (map defined rows) name (seen row) refl is)
