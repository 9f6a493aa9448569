-- What holds of a detector while it goes through a history.
use Rattle.std.specs.Prelude.{◌≡◌, ◌++◌, ◌∷◌, [], ℕ, suc, List, length, Some}
use Rattle.happens_before.specs.Clocks.{Clock, clocks_after, learnt, with_parts}
use Rattle.happens_before.specs.Histories.{Access, Accessed, Edge, Moment}
use Rattle.happens_before.specs.Races.{Made, deed_at, time}
use Rattle.happens_before.specs.Told.{entries_after, entries_at}
use Rattle.race_clocks.specs.Edges.{edges_to}
use Rattle.race_clocks.specs.Rows.{Held, kept, knows}
use Rattle.race_detector.specs.Finds.{Finds}
use Rattle.race_detector.specs.Told.{Knows}
use Rattle.race_detector.specs.declared.detector.Detector.{Detector}
use Rattle.race_entries.specs.Entries.{Holds, made_entry}
use Rattle.race_entries.specs.declared.entry.Entry.{Entry}

-- access a, made as deed j of event n
abbrev pub made_at : ℕ → ℕ → Access → Made
made_at n j a = record { time = time n j; access = a }

-- The edges have come to the processes, if `before` is what these knew, and `parts` what is known of each part.
pub record HasLearnt (parts : ℕ → ℕ → Clock) (before : ℕ → Clock) (edges : List Edge) (x : Detector) : Type 0 where
  pub clocks : (v u : ℕ) → knows x.clocks v u ≡ learnt parts edges v (before v) u

-- A name is that of the clock of an edge's source.
pub record IsSource (parts : ℕ → ℕ → Clock) (e : Edge) (name : ℕ) (x : Detector) : Type 0 where
  pub clock : (u : ℕ) → kept x.clocks name u ≡ parts e.event e.source u

-- The entries are those when j deeds of event n are done, and all that the history tells until then is told, and nothing else.
pub record Reaches (h : List Moment) (n j : ℕ) (x : Detector) : Type 0 where
  pub entries : Holds x.entries (entries_at h n j)
  pub told : Finds h (time n j) x.told.items

-- Deed j of event n is access a, of which this is the byte and the entry, and its process knows what its part in the event knows.
pub record IsAccess (h : List Moment) (n j : ℕ) (a : Access) (byte : ℕ) (e : Entry) (clocks : Held) : Type 0 where
  pub deed : deed_at h (time n j) ≡ Some (Accessed a)
  pub same : byte ≡ a.byte
  pub entry : e ≡ made_entry (made_at n j a)
  pub known : Knows h (made_at n j a) (knows clocks e.process)

-- All moments of a history are done.
pub record Detects (h : List Moment) (x : Detector) : Type 0 where
  pub clocks : (v u : ℕ) → knows x.clocks v u ≡ (clocks_after h (length h)).knows v u
  pub entries : Holds x.entries (entries_after h (length h))
  pub told : Finds h (time (suc (length h)) 0) x.told.items

-- The edges of moment m to the process that steps have come, and j of its deeds are done.
pub record IsWithinMoment (h : List Moment) (m : Moment) (j : ℕ) (x : Detector) : Type 0 where
  pub learnt : HasLearnt (with_parts (suc (length h)) (clocks_after h (length h)).knows (clocks_after h (length h)).kept)
      (clocks_after h (length h)).knows (edges_to m) x
  pub reached : Reaches (h ++ m ∷ []) (suc (length h)) j x
