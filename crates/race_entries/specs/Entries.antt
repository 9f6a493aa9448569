-- The last accesses of each byte, in lists of entries.
use Rattle.std.specs.Prelude.{◌≡◌, ◌+◌, ℕ, Bool, ◌&&◌, ◌==◌, nat_le, nat_lt, if◌then◌else◌, List, [], ◌∷◌, Option, Some, None, slice_index_or}
use Rattle.happens_before.specs.Races.{Made}
use Rattle.happens_before.specs.Told.{Entries, is_kind}
use Rattle.race_entries.specs.declared.entry.Entry.{Entry}

-- whether an entry is of this kind, by process u
abbrev pub is_by : Bool → ℕ → Entry → Bool
is_by stores u e = is_kind stores e.stores && (e.process == u)

-- the entry of this kind and process among these, if there is one
abbrev pub found : Bool → ℕ → List Entry → Option Entry
found stores u [] = None
found stores u (e ∷ rest) = if is_by stores u e then Some e else found stores u rest

-- No two of these entries are of one kind and process.
abbrev pub Apart : List Entry → Type 0
Apart [] = Unit {0}
Apart (e ∷ rest) = (found e.stores e.process rest ≡ None) × Apart rest

-- the entries of byte b, if these are those of each byte
abbrev pub entries_of : List (List Entry) → ℕ → List Entry
entries_of bytes b = slice_index_or bytes b []

-- of loads or of stores (true), of byte b and process u, the last one since the byte was given, if there is one
abbrev pub last : List (List Entry) → Bool → ℕ → ℕ → Option Entry
last bytes stores b u = found stores u (entries_of bytes b)

-- whether byte b is one of so many bytes from the first
abbrev pub is_among : ℕ → ℕ → ℕ → Bool
is_among first count b = nat_le first b && nat_lt b (first + count)

-- the entry of an access that is made; its turn in the event is left out
abbrev pub made_entry : Made → Entry
made_entry x = record { event = x.time.event; place = x.access.place; process = x.access.process; stores = x.access.stores }

abbrev pub entry_of : Option Made → Option Entry
entry_of None = None
entry_of (Some x) = Some (made_entry x)

-- The entries are those of a detector, but for the turns of the accesses in their events.
pub record Holds (bytes : List (List Entry)) (entries : Entries) : Type 0 where
  pub same : (stores : Bool) (b u : ℕ) → last bytes stores b u ≡ entry_of (entries stores b u)
