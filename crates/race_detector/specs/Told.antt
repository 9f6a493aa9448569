-- Which entries are told as an access is made.
use Rattle.std.specs.Prelude.{◌≡◌, ◌≢◌, ℕ, Bool, ◌&&◌, ◌||◌, ◌==◌, not, nat_lt, List, [], ◌∷◌, Option, None, Some, map}
use Rattle.std.specs.List.{filter}
use Rattle.happens_before.specs.Clocks.{Clock, clock_of}
use Rattle.happens_before.specs.Histories.{Moment}
use Rattle.happens_before.specs.Races.{Made}
use Rattle.race_detector.specs.declared.pair.Pair.{Pair}
use Rattle.race_entries.specs.declared.entry.Entry.{Entry}

-- whether an access is told with an entry of its byte: it is another process's, one of them stores, and its event isn't known
abbrev pub is_told : Clock → Entry → Entry → Bool
is_told clock y e = not (e.process == y.process) && ((e.stores || y.stores) && nat_lt (clock e.process) e.event)

-- the entries that are told
abbrev pub told_of : Clock → Entry → List Entry → List Entry
told_of clock y = filter (is_told clock y)

-- an access of a byte, and an earlier one
abbrev pub pair_with : ℕ → Entry → Entry → Pair
pair_with b y e = record { byte = b; first = e; second = y }

-- what is told of the entries of a byte as an access to it is made
abbrev pub pairs_of : Clock → ℕ → Entry → List Entry → List Pair
pairs_of clock b y es = map (pair_with b y) (told_of clock y es)

-- what a process knows of the others is what its part knows in a history, to which an access belongs
pub record Knows (h : List Moment) (y : Made) (clock : Clock) : Type 0 where
  pub same : (u : ℕ) → u ≢ y.access.process → clock u ≡ clock_of h y.time.event y.access.process u

-- an entry, if there is one, as a list
abbrev pub listed : Option Entry → List Entry
listed None = []
listed (Some e) = e ∷ []
