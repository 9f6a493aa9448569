-- What a detector tells of the races of a history, while it goes through it.
use Rattle.std.specs.Prelude.{◌≡◌, ◌≢◌, ◌<◌, ℕ, zero, suc, ◌==◌, Bool, true, false, not, ◌&&◌, ◌||◌, if◌then◌else◌, List, length, Option, Some, None, slice_get}
use Rattle.happens_before.specs.Clocks.{clock_of}
use Rattle.happens_before.specs.Histories.{Access, Deed, Accessed, Given, Moment, moment_of}
use Rattle.happens_before.specs.Races.{Time, time, Made, IsMade, gives}

-- Of loads or of stores (true), of a byte and a process, the last one since the byte got its owner.
abbrev pub Entries : Type 0
Entries = Bool → ℕ → ℕ → Option Made

abbrev pub no_entries : Entries
no_entries stores b u = None

-- whether two accesses are both stores, or both loads
abbrev pub is_kind : Bool → Bool → Bool
is_kind true stores = stores
is_kind false stores = not stores

-- whether an access is of this kind, of byte b, by process u
abbrev pub is_of : Bool → ℕ → ℕ → Access → Bool
is_of stores b u a = is_kind stores a.stores && ((a.byte == b) && (a.process == u))

-- the entries after a deed, if there is one
abbrev pub entered : Time → Option Deed → Entries → Entries
entered t None last stores b u = last stores b u
entered t (Some (Accessed a)) last stores b u = if is_of stores b u a then Some (record { time = t; access = a }) else last stores b u
entered t (Some (Given first count)) last stores b u = if gives b (Given first count) then None else last stores b u

-- the entries when so many of the deeds of event n are done, from those before the event
unfoldable pub entries_in : List Deed → ℕ → Entries → ℕ → Entries
entries_in deeds n last zero = last
entries_in deeds n last (suc turn) = entered (time n turn) (slice_get deeds turn) (entries_in deeds n last turn)

-- the entries after the first n events
unfoldable pub entries_after : List Moment → ℕ → Entries
entries_after h zero = no_entries
entries_after h (suc n) = entries_in (moment_of h (suc n)).deeds (suc n) (entries_after h n) (length (moment_of h (suc n)).deeds)

-- the entries in event n, when so many of its deeds are done
unfoldable pub entries_at : List Moment → ℕ → ℕ → Entries
entries_at h zero turn = no_entries
entries_at h (suc n) turn = entries_in (moment_of h (suc n)).deeds (suc n) (entries_after h n) turn

-- The detector tells x as y is made: x has an entry, is another process's, conflicts with y, and isn't known to y's process.
pub record IsTold (h : List Moment) (x y : Made) : Type 0 where
  pub made : IsMade h y
  pub entry : entries_at h y.time.event y.time.turn x.access.stores y.access.byte x.access.process ≡ Some x
  pub others : x.access.process ≢ y.access.process
  pub store : (x.access.stores || y.access.stores) ≡ true
  pub unknown : clock_of h y.time.event y.access.process x.access.process < x.time.event
