-- A disk with no file.
use Rattle.std.specs.Prelude.{ℕ, zero, suc, ◌≡◌, ◌-◌, ◌≤◌, ◌<◌, false, cond, nat_lt, List, [], ◌∷◌, length, replicate, slice_index}
use Rattle.lfs_check.specs.declared.geometry.Geometry.{Geometry}
use Rattle.lfs_check.specs.Geometries.{index_count, first_data}
use Rattle.lfs_check.specs.Rules.{entry_is_used}
use Rattle.lfs_check.specs.Meets.{null}
use Rattle.lfs_check.specs.Laid.{Shape, Places, index_in, entry_in}

-- as many numbers from low on
abbrev pub upwards : ℕ → ℕ → List ℕ
upwards low zero = []
upwards low (suc many) = low ∷ upwards (suc low) many

-- the number after another in a chain that goes upwards
abbrev pub next_upwards : ℕ → ℕ → ℕ
next_upwards end n = cond (nat_lt (suc n) end) (suc n) null

-- no entry is used, and both free chains go upwards over all numbers
pub record IsEmpty (g : Geometry) (d : Shape) : Type 0 where
  pub unused : (e : ℕ) → e < length d.entries → entry_is_used (entry_in d e) ≡ false
  pub index_head : d.header.free_index ≡ 0
  pub data_head : d.header.free_data ≡ first_data g
  pub nexts : (i : ℕ) → i < index_count g → (index_in d i).next ≡ next_upwards (index_count g) i
  pub links : (b : ℕ) → first_data g ≤ b → b < g.blocks → slice_index d.links b ≡ next_upwards g.blocks b

-- whose the blocks of a disk without files are: all are free
abbrev pub empty_places : Geometry → Shape → Places
empty_places g d = record {
  chains = replicate (length d.entries) [];
  datas = replicate (length d.entries) [];
  free_index = upwards 0 (index_count g);
  free_data = upwards (first_data g) (g.blocks - first_data g);
  held_index = [];
  held_data = [];
}
