-- What a run is watched for: addresses of instructions, and bytes of RAM.
use Rattle.std.specs.Prelude.{◌≡◌, ◌-◌, ◌==◌, ◌&&◌, ℕ, Bool, not, if◌then◌else◌, List, [], ◌∷◌, ◌++◌, drop, length, map, replicate, take, Option, Some, None}
use Rattle.std.specs.List.{filter, list_any}
use Rattle.std.specs.Str.{bytes_eq}
use Rattle.watched_run.specs.declared.points.Watch.{Watch}

-- so many bytes of RAM from an address on
pub record Area : Type 0 where
  pub at : ℕ
  pub count : ℕ

-- the bytes of an area: those that there are
abbrev pub bytes_of : List ℕ → Area → List ℕ
bytes_of memory area = take area.count (drop area.at memory)

-- whether an address is one of these
abbrev pub has : List ℕ → ℕ → Bool
has addresses address = list_any (λ point. point == address) addresses

-- the first of two places that there is
abbrev pub first_of : Option ℕ → Option ℕ → Option ℕ
first_of (Some at) other = Some at
first_of None other = other

-- the address of an area, if its bytes aren't the same in two memories
abbrev pub changed_in : List ℕ → List ℕ → Area → Option ℕ
changed_in old new area = if bytes_eq (bytes_of old area) (bytes_of new area) then None else Some area.at

-- the address of the first of these areas whose bytes aren't the same in two memories
abbrev pub first_changed : List ℕ → List ℕ → List Area → Option ℕ
first_changed old new [] = None
first_changed old new (area ∷ areas) = first_of (changed_in old new area) (first_changed old new areas)

-- the area of a watch
abbrev pub area_of : Watch → Area
area_of watch = record { at = watch.at; count = watch.count }

-- the areas that are watched
abbrev pub areas_of : List Watch → List Area
areas_of watches = map area_of watches

-- eight bytes: these, and zeros after them
abbrev pub padded : List ℕ → List ℕ
padded bytes = bytes ++ replicate (8 - length bytes) 0

-- a watch that has seen the bytes of its area
abbrev pub seen : List ℕ → Watch → Watch
seen memory watch = record watch { bytes = padded (bytes_of memory (area_of watch)) }

-- the address of a watch that has seen other bytes than those of its area
abbrev pub other_in : List ℕ → Watch → Option ℕ
other_in memory watch = if bytes_eq watch.bytes (padded (bytes_of memory (area_of watch))) then None else Some watch.at

-- the address of the first watch that has seen other bytes than those of its area
abbrev pub first_other : List ℕ → List Watch → Option ℕ
first_other memory [] = None
first_other memory (watch ∷ watches) = first_of (other_in memory watch) (first_other memory watches)

-- All watches have seen the bytes of their areas in RAM.
pub record HaveSeen (memory : List ℕ) (watches : List Watch) : Type 0 where
  pub whole : length memory ≡ 1048576
  pub same : map (seen memory) watches ≡ watches

-- the addresses with one more, unless it is among them
abbrev pub with_point : ℕ → List ℕ → List ℕ
with_point address addresses = if has addresses address then addresses else addresses ++ address ∷ []

-- the addresses without one
abbrev pub without_point : ℕ → List ℕ → List ℕ
without_point address addresses = filter (λ point. not (point == address)) addresses

-- whether it is another area
abbrev pub is_other : Area → Area → Bool
is_other area other = not ((other.at == area.at) && (other.count == area.count))

-- the areas without one
abbrev pub without_area : Area → List Area → List Area
without_area area areas = filter (is_other area) areas

-- the areas with one more, which comes last, if it is so
abbrev pub with_area : Bool → Area → List Area → List Area
with_area done area areas = if done then without_area area areas ++ area ∷ [] else areas
