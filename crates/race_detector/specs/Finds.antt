-- What a detector has told so far of a history.
use Rattle.std.specs.Prelude.{◌≡◌, List}
use Rattle.std.specs.List.{Contains}
use Rattle.happens_before.specs.Histories.{Moment}
use Rattle.happens_before.specs.Races.{IsEarlier, Made, Time}
use Rattle.happens_before.specs.Told.{IsTold}
use Rattle.race_detector.specs.declared.pair.Pair.{Pair}
use Rattle.race_entries.specs.Entries.{made_entry}

-- two accesses that are made, as a pair of entries; their turns in their events are left out
abbrev pub pair_of : Made → Made → Pair
pair_of x y = record { byte = y.access.byte; first = made_entry x; second = made_entry y }

-- What is told is what the history tells as the accesses before time t are made, and nothing else.
pub record Finds (h : List Moment) (t : Time) (told : List Pair) : Type 0 where
  pub sound : (p : Pair) → Contains told p → (x : Made) × (y : Made) × (IsTold h x y × (IsEarlier y.time t × (pair_of x y ≡ p)))
  pub complete : (x y : Made) → IsTold h x y → IsEarlier y.time t → Contains told (pair_of x y)

-- What is told is all that the history tells, and nothing else.
pub record FindsAll (h : List Moment) (told : List Pair) : Type 0 where
  pub sound : (p : Pair) → Contains told p → (x : Made) × (y : Made) × (IsTold h x y × (pair_of x y ≡ p))
  pub complete : (x y : Made) → IsTold h x y → Contains told (pair_of x y)
