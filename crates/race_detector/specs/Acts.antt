-- The deeds of an event, as a detector is told of them.
use Rattle.std.specs.Prelude.{◌≡◌, ◌<◌, ◌≤◌, ◌+◌, ℕ, List, Option, Some, slice_get}
use Rattle.happens_before.specs.Histories.{Access, Accessed, Deed, Given, Moment}
use Rattle.happens_before.specs.Races.{deed_at, time}
use Rattle.race_clocks.specs.Rows.{Held}
use Rattle.race_detector.specs.declared.act.Act.{Act}
use Rattle.race_detector.specs.declared.act.Act.TheVariants.{Touch, Gift}
use Rattle.race_detector.specs.Detects.{IsAccess, made_at}
use Rattle.race_entries.specs.Entries.{made_entry}

-- its bytes are of RAM, and its process is one of 64
abbrev pub IsWithin : Act → Type 0
IsWithin (Touch byte e) = (byte < 1048576) × (e.process < 64)
IsWithin (Gift first count) = first + count ≤ 1048576

-- it is deed j of event n
abbrev pub IsAct : List Moment → ℕ → ℕ → Act → Held → Type 0
IsAct h n j (Touch byte e) clocks = (a : Access) × IsAccess h n j a byte e clocks
IsAct h n j (Gift first count) clocks = deed_at h (time n j) ≡ Some (Given first count)

pub record AllWithin (acts : List Act) : Type 0 where
  pub each : (k : ℕ) (o : Act) → slice_get acts k ≡ Some o → IsWithin o

-- They are the first deeds of event n, in their order.
pub record AreActs (h : List Moment) (n : ℕ) (acts : List Act) (clocks : Held) : Type 0 where
  pub each : (k : ℕ) (o : Act) → slice_get acts k ≡ Some o → IsAct h n k o clocks

-- It stands for a deed, as deed j of event n.
abbrev pub Stands : ℕ → ℕ → Act → Option Deed → Type 0
Stands n j (Touch byte e) d = (a : Access) × ((d ≡ Some (Accessed a)) × ((byte ≡ a.byte) × (e ≡ made_entry (made_at n j a))))
Stands n j (Gift first count) d = d ≡ Some (Given first count)

-- They stand for the deeds of event n.
pub record AllStand (n : ℕ) (acts : List Act) (deeds : List Deed) : Type 0 where
  pub each : (k : ℕ) (o : Act) → slice_get acts k ≡ Some o → Stands n k o (slice_get deeds k)
