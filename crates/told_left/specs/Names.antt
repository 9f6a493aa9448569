-- The name of a process, as it is told.
use Rattle.std.specs.Prelude.{ℕ, ◌&&◌, nat_le, if◌then◌else◌, List, [], ◌∷◌, map}
use Rattle.xinu_base.specs.Texts.{before_zero}
use Rattle.xinu_model.specs.Tables.{Tables, process_at}

-- a byte of a name: a dot for one that isn't a printable character of ASCII
abbrev pub shown_byte : ℕ → ℕ
shown_byte b = if nat_le 32 b && nat_le b 126 then b else 46

-- a name after a blank; nothing if it is empty
abbrev pub after_blank : List ℕ → List ℕ
after_blank [] = []
after_blank (b ∷ name) = 32 ∷ map shown_byte (b ∷ name)

-- the name of process p, of which an entry has the bytes before the first zero
abbrev pub name_of : Tables → ℕ → List ℕ
name_of t p = after_blank (before_zero (process_at t p).name)
