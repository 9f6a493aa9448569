-- Mounting a prefix (book, chapter 21, `mount.c`).
use Rattle.std.specs.Prelude.{ℕ, nat_lt, nat_le, Bool, ◌&&◌, if◌then◌else◌, List, [], ◌∷◌, ◌++◌, length, Option, Some, None}
use Rattle.xinu_model.specs.Names.Constants.{NNAMES, NM_PRELEN, NM_REPLLEN}

-- A mounted prefix: what takes its place in a name, and the device that gets the name.
pub record NameRow : Type 0 where
  pub prefix : List ℕ
  pub replacement : List ℕ
  pub device : ℕ

-- whether there is room for one more row, and its texts aren't too long
abbrev pub may_mount : NameRow → List NameRow → Bool
may_mount row rows =
    nat_lt (length rows) NNAMES && (nat_le (length row.prefix) NM_PRELEN && nat_le (length row.replacement) NM_REPLLEN)

-- The rows with one more, which is the last.
abbrev pub mounted : NameRow → List NameRow → Option (List NameRow)
mounted row rows = if may_mount row rows then Some (rows ++ row ∷ []) else None
