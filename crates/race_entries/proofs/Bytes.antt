-- The entries of all bytes, one byte after another.
use Rattle.std.proofs.Common.{◌≡◌, ◌<◌, ◌≤◌, ℕ, List, [], length}
use Rattle.race_entries.specs.Entries.{entries_of}
use Rattle.race_entries.specs.declared.entry.Entry.{Entry}

-- there are n bytes, and none has an entry
pub record Empty (n : ℕ) (bytes : List (List Entry)) : Type 0 where
  pub size : length bytes ≡ n
  pub none : (b : ℕ) → entries_of bytes b ≡ []

-- the bytes from the first up to the next are given: they have no entries, and the others those of before
pub record Cleared (first next : ℕ) (old new : List (List Entry)) : Type 0 where
  pub size : length new ≡ length old
  pub given : (b : ℕ) → first ≤ b → b < next → entries_of new b ≡ []
  pub below : (b : ℕ) → b < first → entries_of new b ≡ entries_of old b
  pub above : (b : ℕ) → next ≤ b → entries_of new b ≡ entries_of old b
