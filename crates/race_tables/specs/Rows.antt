-- Runs of placements, and the table of their outcomes.
use Rattle.std.specs.Prelude.{◌≡◌, ℕ, zero, suc, ◌+◌, not, List, [], ◌∷◌}
use Rattle.std.specs.List.{Contains, count_by, filter, position_or_len}
use Rattle.race_tables.specs.Outcomes.{Outcome, are_equal}

-- a run: the placement of its quantum ends, and its outcome
pub record Run : Type 0 where
  pub places : List ℕ
  pub outcome : Outcome

-- a row: an outcome, how many runs had it, and the placement of the first of them
pub record Row : Type 0 where
  pub outcome : Outcome
  pub count : ℕ
  pub first : List ℕ

-- the row that a run begins, if these runs come after it
abbrev pub row_of : Run → List Run → Row
row_of run later = record {
  outcome = run.outcome;
  count = 1 + count_by (λ other. are_equal run.outcome other.outcome) later;
  first = run.places;
}

-- the table of runs: the first run begins the first row, which counts all runs with its outcome; the other rows are those of the later runs
-- without that outcome
unfoldable pub rows : List Run → List Row
rows [] = []
rows (run ∷ runs) = row_of run runs ∷ filter (λ row. not (are_equal run.outcome row.outcome)) (rows runs)

-- A row of the table has the outcome of this run.
pub record HasRow (table : List Row) (run : Run) : Type 0 where
  pub row : Row
  pub among : Contains table row
  pub is : row.outcome ≡ run.outcome

-- a row that counts one run more
abbrev pub counted : Row → Row
counted row = record { outcome = row.outcome; count = row.count + 1; first = row.first }

-- a table of which the row at this place counts one run more
abbrev pub counted_at : ℕ → List Row → List Row
counted_at place [] = []
counted_at zero (row ∷ table) = counted row ∷ table
counted_at (suc place) (row ∷ table) = row ∷ counted_at place table

-- the place of the first row with this outcome, or the number of rows if there is none
abbrev pub place_of : Outcome → List Row → ℕ
place_of outcome table = position_or_len (λ row. are_equal row.outcome outcome) table
