-- Where the headers of segments are that are still to be read.
use Rattle.std.specs.Prelude.{ℕ, ◌≤◌, ◌<◌, ◌+◌, ◌*◌, List, length}

-- n headers at a place are in the file, unless there are none
pub record HasTable (bytes : List ℕ) (at n : ℕ) : Type 0 where
  pub inside : 0 < n → at + 32 * n ≤ length bytes
