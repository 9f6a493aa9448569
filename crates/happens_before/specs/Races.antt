-- Data races of a history: two processes touch a byte, one stores, and neither comes before the other.
use Rattle.std.specs.Prelude.{◌≡◌, ◌≢◌, ◌⊎◌, ◌<◌, ℕ, ◌+◌, nat_le, nat_lt, Bool, true, false, ◌&&◌, ◌||◌, List, Option, Some, slice_get}
use Rattle.happens_before.specs.Histories.{Access, Deed, Accessed, Given, Moment, moment_of}
use Rattle.happens_before.specs.Order.{HappensBefore, Part, part}

-- Where a deed stands: its event, and how many deeds of the event come before it.
pub record Time : Type 0 where
  pub event : ℕ
  pub turn : ℕ

abbrev pub time : ℕ → ℕ → Time
time n turn = record { event = n; turn = turn }

abbrev pub IsEarlier : Time → Time → Type 0
IsEarlier s t = (s.event < t.event) ⊎ ((s.event ≡ t.event) × (s.turn < t.turn))

abbrev pub deed_at : List Moment → Time → Option Deed
deed_at h t = slice_get (moment_of h t.event).deeds t.turn

-- An access, and when it is made.
pub record Made : Type 0 where
  pub time : Time
  pub access : Access

abbrev pub IsMade : List Moment → Made → Type 0
IsMade h x = deed_at h x.time ≡ Some (Accessed x.access)

-- whether a deed gives byte b a new owner
abbrev pub gives : ℕ → Deed → Bool
gives b (Accessed a) = false
gives b (Given first count) = nat_le first b && nat_lt b (first + count)

-- Between these times byte b gets no new owner.
abbrev pub KeepsOwner : List Moment → ℕ → Time → Time → Type 0
KeepsOwner h b s t = (r : Time) (d : Deed) → IsEarlier s r → IsEarlier r t → deed_at h r ≡ Some d → gives b d ≡ false

-- the part in which an access is made
abbrev pub part_of : Made → Part
part_of x = part x.time.event x.access.process

-- x and y are accesses of two processes to a byte, x the earlier one; one of them stores, the byte keeps its owner in between, and nothing
-- orders them.
pub record IsRace (h : List Moment) (x y : Made) : Type 0 where
  pub first : IsMade h x
  pub second : IsMade h y
  pub earlier : IsEarlier x.time y.time
  pub others : x.access.process ≢ y.access.process
  pub byte : x.access.byte ≡ y.access.byte
  pub store : (x.access.stores || y.access.stores) ≡ true
  pub owner : KeepsOwner h y.access.byte x.time y.time
  pub unordered : HappensBefore h (part_of x) (part_of y) → ⊥

-- x is the last access of its process that is made before y and conflicts with it: it is one of the same byte, and one of them stores.
pub record IsLastConflict (h : List Moment) (x y : Made) : Type 0 where
  pub made : IsMade h x
  pub earlier : IsEarlier x.time y.time
  pub byte : x.access.byte ≡ y.access.byte
  pub store : (x.access.stores || y.access.stores) ≡ true
  pub last : (z : Made) → IsMade h z → z.access.process ≡ x.access.process → z.access.byte ≡ y.access.byte →
      (z.access.stores || y.access.stores) ≡ true → IsEarlier z.time y.time → IsEarlier x.time z.time → ⊥
