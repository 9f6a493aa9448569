-- What the name space makes of a name (book, chapter 21, `nammap.c`, `namrepl.c`).
use Rattle.std.specs.Prelude.{ℕ, zero, suc, ◌==◌, nat_le, Bool, if◌then◌else◌, List, ◌++◌, length, take, drop, Option, Some, None, bytes_eq}
use Rattle.std.specs.List.{find}
use Rattle.xinu_model.specs.Names.Constants.{NM_MAXLEN, NM_MAXMAPS, NAMESPACE}
use Rattle.xinu_model.specs.Names.Mounting.{NameRow}

-- A name, and the device that gets it.
pub record MappedName : Type 0 where
  pub device : ℕ
  pub name : List ℕ

-- whether a row's prefix begins a name
abbrev pub fits_row : List ℕ → NameRow → Bool
fits_row name row = bytes_eq (take (length row.prefix) name) row.prefix

-- the first row whose prefix begins a name
abbrev pub first_row : List ℕ → List NameRow → Option NameRow
first_row name rows = find (fits_row name) rows

-- the name with a row's replacement in place of its prefix
abbrev pub replaced : NameRow → List ℕ → MappedName
replaced row name = record { device = row.device; name = row.replacement ++ drop (length row.prefix) name }

-- a name that isn't too long
abbrev pub short_enough : MappedName → Option MappedName
short_enough m = if nat_le (length m.name) NM_MAXLEN then Some m else None

-- the name by the first row that fits it
abbrev pub replaced_by : Option NameRow → List ℕ → Option MappedName
replaced_by None name = None
replaced_by (Some row) name = short_enough (replaced row name)

abbrev pub replaced_once : List NameRow → List ℕ → Option MappedName
replaced_once rows name = replaced_by (first_row name rows) name

-- the name after at most n replacements, each while its device is the name space itself
abbrev pub replaced_times : ℕ → List NameRow → Option MappedName → Option MappedName
replaced_times n rows None = None
replaced_times zero rows (Some m) = if m.device == NAMESPACE then None else Some m
replaced_times (suc n) rows (Some m) = if m.device == NAMESPACE then replaced_times n rows (replaced_once rows m.name) else Some m

-- What a name is mapped to: nothing if no row fits, a name gets too long, or there are too many replacements.
abbrev pub map_name : List NameRow → List ℕ → Option MappedName
map_name rows name = replaced_times NM_MAXMAPS rows (short_enough (record { device = NAMESPACE; name = name }))
