-- Whose the blocks of a disk are, as its own fields give it.
use Rattle.std.specs.Prelude.{ℕ, ◌≡◌, ◌<◌, cond, List, [], length, map, take, None}
use Rattle.std.specs.List.{flat_map}
use Rattle.lfs_format.specs.declared.Entry.{Entry}
use Rattle.lfs_format.specs.declared.Index.{Index}
use Rattle.lfs_check.specs.declared.geometry.Geometry.{Geometry}
use Rattle.lfs_check.specs.Geometries.{index_count, first_data}
use Rattle.lfs_check.specs.Rules.{entry_is_used}
use Rattle.lfs_check.specs.Laid.{Shape, Places, Laid}
use Rattle.lfs_check.specs.Checks.{met_of, need_data, data_row, free_index_of, free_data_of, rule_4, rule_5, rule_6, rule_7}

-- the index blocks of the file of an entry: an unused one has none
abbrev pub chain_in : Geometry → List Index → Entry → List ℕ
chain_in g indexes e = cond (entry_is_used e) (met_of g indexes e) []

-- the data blocks of the file of an entry, as many as its size needs
abbrev pub data_in : Geometry → List Index → Entry → List ℕ
data_in g indexes e = cond (entry_is_used e) (take (need_data e) (flat_map (data_row indexes) (met_of g indexes e))) []

-- whose the blocks of a disk are, as they are read off it
abbrev pub places_of : Geometry → Shape → Places
places_of g d = record {
  chains = map (chain_in g d.indexes) d.entries;
  datas = map (data_in g d.indexes) d.entries;
  free_index = free_index_of g d;
  free_data = free_data_of g d;
  held_index = [];
  held_data = [];
}

-- the lists are as long as the geometry says
pub record IsShape (g : Geometry) (d : Shape) : Type 0 where
  pub indexes : length d.indexes ≡ index_count g
  pub links : length d.links ≡ g.blocks
  pub rows : (i : ℕ) → i < index_count g → length (data_row d.indexes i) ≡ 16

-- no rule from 4 to 7 is broken
pub record Passes (g : Geometry) (d : Shape) : Type 0 where
  pub four : rule_4 g d ≡ None
  pub five : rule_5 g d ≡ None
  pub six : rule_6 g d ≡ None
  pub seven : rule_7 g d ≡ None

-- files lie on a disk of this geometry
abbrev pub LaidIn : Geometry → Shape → Places → Type 0
LaidIn g d p = Laid (index_count g) (first_data g) g.blocks d p
