-- Which blocks were written since the call in hand began.
use Rattle.std.specs.Prelude.{ℕ, ◌≡◌, ◌≢◌, ◌<◌, ◌*◌, List, length}
use Rattle.std.specs.List.{AllByRecursion}
use Rattle.lfs_check.specs.Rules.{block_in}

-- A disk is another one of its size in at most these blocks.
pub record DiffersIn (blocks base disk : List ℕ) : Type 0 where
  pub many : ℕ
  pub base_long : length base ≡ 512 * many
  pub long : length disk ≡ 512 * many
  pub within : AllByRecursion (λ (n : ℕ). n < many) blocks
  pub others : (m : ℕ) → AllByRecursion (λ (n : ℕ). n ≢ m) blocks → block_in disk m ≡ block_in base m

-- The blocks in which the disk differs are remembered, unless 256 are, which may be too few.
pub record Follows (written base disk : List ℕ) : Type 0 where
  pub differs : length written < 256 → DiffersIn written base disk
