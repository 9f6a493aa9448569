-- What always holds of the mounted prefixes.
use Rattle.std.specs.Prelude.{◌<◌, ◌≤◌, List, length}
use Rattle.std.specs.List.{AllByRecursion}
use Rattle.xinu_model.specs.Names.Constants.{NNAMES, NM_PRELEN, NM_REPLLEN}
use Rattle.xinu_model.specs.Names.Mounting.{NameRow}

-- A row's texts aren't too long, and there is its device.
pub record IsNameRow (row : NameRow) : Type 0 where
  pub prefix : length row.prefix ≤ NM_PRELEN
  pub replacement : length row.replacement ≤ NM_REPLLEN
  pub device : row.device < 10

-- There aren't too many rows, and each is one.
pub record AreSoundNames (rows : List NameRow) : Type 0 where
  pub few : length rows ≤ NNAMES
  pub row : AllByRecursion IsNameRow rows
