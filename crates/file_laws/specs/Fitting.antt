-- When a call that puts bytes has put as many as there is room for.
use Rattle.std.specs.Prelude.{ℕ, ◌≡◌, ◌%◌, [], ◌⊎◌}
use Rattle.lfs_check.specs.Laid.{Places}

-- a file of this size ends with its last data block, and no data block is free or held
pub record IsDataFull (p : Places) (size : ℕ) : Type 0 where
  pub free : p.free_data ≡ []
  pub held : p.held_data ≡ []
  pub whole : size % 512 ≡ 0

-- a file of this size ends with its last index block, and no index block is free or held
pub record IsIndexFull (p : Places) (size : ℕ) : Type 0 where
  pub free : p.free_index ≡ []
  pub held : p.held_index ≡ []
  pub whole : size % 8192 ≡ 0

-- not one byte more can be put at the end of a file of this size
abbrev pub IsFull : Places → ℕ → Type 0
IsFull p size = IsDataFull p size ⊎ IsIndexFull p size
