-- The constants of the name space, by the names of the book where it has one (chapter 21, `name.h`).
use Rattle.std.specs.Prelude.{ℕ}

-- the most prefixes that can be mounted
abbrev pub NNAMES : ℕ
NNAMES = 40

-- the most bytes of a prefix
abbrev pub NM_PRELEN : ℕ
NM_PRELEN = 31

-- the most bytes of a replacement
abbrev pub NM_REPLLEN : ℕ
NM_REPLLEN = 31

-- the most bytes of a name
abbrev pub NM_MAXLEN : ℕ
NM_MAXLEN = 127

-- the most times that a name's prefix is replaced
abbrev pub NM_MAXMAPS : ℕ
NM_MAXMAPS = 40

-- the device that maps names
abbrev pub NAMESPACE : ℕ
NAMESPACE = 1
