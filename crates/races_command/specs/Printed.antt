-- The table as it is printed.
use Rattle.std.specs.Prelude.{◌+◌, ◌==◌, ℕ, Bool, if◌then◌else◌, List, [], ◌∷◌, ◌++◌, length, map, codes}
use Rattle.std.specs.List.{sum}
use Rattle.std.specs.Fmt.{decimal}
use Rattle.preemptions.specs.declared.stretches.Stretch.{Stretch}
use Rattle.race_tables.specs.Outcomes.{Outcome}
use Rattle.race_tables.specs.Rows.{Row}
use Rattle.races_command.specs.Shown.{listed, moments_text, number_of, places_text, shown_console}
use Rattle.races_command.specs.Stuck.{is_stuck}
use Rattle.xinu_base.specs.Names.{end_name}
use Rattle.xinu_base.specs.declared.events.Event.{Event}

-- what is added to the end of a run that can't go on
abbrev pub stuck_text : Bool → List ℕ
stuck_text stuck = if stuck then codes ", stuck" else []

-- an outcome: what the console sent, how the run ended, the traps, and the processes that are left with what they wait for
unfoldable pub outcome_text : Outcome → List ℕ
outcome_text o =
    codes "  \"" ++ shown_console o.console ++ codes "\" end " ++ end_name o.end ++ stuck_text (is_stuck o) ++ codes "\n" ++ listed o.traps ++ listed o.left

-- the first line of a row with its number: how many schedules had the outcome, and of the first of them the places, and when its preemptions come
unfoldable pub head_text : List Event → ℕ → ℕ → List ℕ → List ℕ
head_text base number count places =
    codes "outcome " ++ decimal number ++ codes ": " ++ number_of count (codes "schedule") ++ codes ", first with preemptions after" ++ places_text places
    ++ moments_text places base ++ codes "\n"

-- a row with its number, of a base
abbrev pub row_text : List Event → ℕ → Row → List ℕ
row_text base number row = head_text base number row.count row.first ++ outcome_text row.outcome

-- rows, numbered from this number on
unfoldable pub rows_text : List Event → ℕ → List Row → List ℕ
rows_text base number [] = []
rows_text base number (row ∷ table) = row_text base number row ++ rows_text base (number + 1) table

-- whether all placements were gone through, and whether nothing was chosen, so that there are no other runs of them
abbrev pub began : Bool → Bool → List ℕ
began are_all are_forced =
    if are_all then (if are_forced then codes "every run of each of " else codes "a run of each of ") else codes "out of memory after runs of "

-- after how many steps the places begin
abbrev pub after_text : ℕ → List ℕ
after_text after = codes " after the first " ++ decimal after ++ codes " of "

-- where the places of a stretch are
abbrev pub stretch_text : Stretch → List ℕ
stretch_text s = (if s.after == 0 then codes " in the first " else after_text s.after) ++ number_of s.within (codes "step")

-- which placements are gone through
unfoldable pub bounds_text : ℕ → Stretch → List ℕ
bounds_text most stretch = codes ", with at most " ++ number_of most (codes "preemption") ++ stretch_text stretch

-- the last line: how many schedules were run, which, and how many outcomes there are
unfoldable pub last_line : Bool → Bool → ℕ → ℕ → Stretch → ℕ → List ℕ
last_line are_all are_forced runs most stretch outcomes =
    began are_all are_forced ++ number_of runs (codes "schedule") ++ bounds_text most stretch ++ codes ": " ++ number_of outcomes (codes "outcome") ++ codes "\n"

-- the table of the placements with at most so many quantum ends in a stretch of the steps of a base, or of the first of them
unfoldable pub table_text : Bool → Bool → ℕ → Stretch → List Event → List Row → List ℕ
table_text are_all are_forced most stretch base table =
    rows_text base 1 table ++ last_line are_all are_forced (sum (map (λ row. row.count) table)) most stretch (length table)
