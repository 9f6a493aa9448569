-- A disk on which each file takes the lowest free blocks, in the order of the entries.
use Rattle.std.specs.Prelude.{ℕ, ◌≡◌, ◌+◌, ◌-◌, ◌≤◌, ◌<◌, true, cond, nat_lt, List, [], ◌∷◌, slice_index}
use Rattle.lfs_format.specs.declared.Entry.{Entry}
use Rattle.lfs_check.specs.declared.geometry.Geometry.{Geometry}
use Rattle.lfs_check.specs.Geometries.{index_count, first_data}
use Rattle.lfs_check.specs.Rules.{entry_is_used}
use Rattle.lfs_check.specs.Meets.{null}
use Rattle.lfs_check.specs.Laid.{Shape, Places, FileLies, index_in}
use Rattle.lfs_check.specs.Checks.{need_index, need_data}
use Rattle.lfs_check.specs.Empty.{upwards, next_upwards}

-- how many index blocks an entry needs: an unused one none
abbrev pub index_need : Entry → ℕ
index_need e = cond (entry_is_used e) (need_index e) 0

-- how many data blocks an entry needs: an unused one none
abbrev pub data_need : Entry → ℕ
data_need e = cond (entry_is_used e) (need_data e) 0

-- the numbers of the files one after another, from a number on
abbrev pub runs : (Entry → ℕ) → ℕ → List Entry → List (List ℕ)
runs need a [] = []
runs need a (e ∷ es) = upwards a (need e) ∷ runs need (a + need e) es

-- the number after the last
abbrev pub run_end : (Entry → ℕ) → ℕ → List Entry → ℕ
run_end need a [] = a
run_end need a (e ∷ es) = run_end need (a + need e) es

-- the files of entries lie one after another, the first from these index and data blocks on
abbrev pub LieFrom : Shape → ℕ → ℕ → List Entry → Type 0
LieFrom d a b [] = Unit {0}
LieFrom d a b (e ∷ es) = (entry_is_used e ≡ true → FileLies d e (upwards a (need_index e)) (upwards b (need_data e))) × LieFrom d (a + index_need e) (b + data_need e) es

-- the first number of a chain upwards, or null if it is empty
abbrev pub chain_head : ℕ → ℕ → ℕ
chain_head n end = cond (nat_lt n end) n null

-- each file takes the lowest free blocks in the order of the entries, and the rest is chained upwards
pub record IsBuilt (g : Geometry) (d : Shape) : Type 0 where
  pub files : LieFrom d 0 (first_data g) d.entries
  pub index_room : run_end index_need 0 d.entries ≤ index_count g
  pub data_room : run_end data_need (first_data g) d.entries ≤ g.blocks
  pub index_head : d.header.free_index ≡ chain_head (run_end index_need 0 d.entries) (index_count g)
  pub data_head : d.header.free_data ≡ chain_head (run_end data_need (first_data g) d.entries) g.blocks
  pub nexts : (i : ℕ) → run_end index_need 0 d.entries ≤ i → i < index_count g → (index_in d i).next ≡ next_upwards (index_count g) i
  pub links : (b : ℕ) → run_end data_need (first_data g) d.entries ≤ b → b < g.blocks → slice_index d.links b ≡ next_upwards g.blocks b

-- whose the blocks are on such a disk
abbrev pub built_places : Geometry → Shape → Places
built_places g d = record {
  chains = runs index_need 0 d.entries;
  datas = runs data_need (first_data g) d.entries;
  free_index = upwards (run_end index_need 0 d.entries) (index_count g - run_end index_need 0 d.entries);
  free_data = upwards (run_end data_need (first_data g) d.entries) (g.blocks - run_end data_need (first_data g) d.entries);
  held_index = [];
  held_data = [];
}
