-- The names with which packets begin, and tables of them.
use Rattle.std.specs.Prelude.{ℕ, ◌==◌, if◌then◌else◌, List, [], ◌∷◌, Option, Some, None}
use Rattle.gdb_packets.specs.declared.commands.Command.{Command}

-- what follows a name, if bytes begin with it
abbrev pub rest_after : List ℕ → List ℕ → Option (List ℕ)
rest_after [] bytes = Some bytes
rest_after (n ∷ name) [] = None
rest_after (n ∷ name) (b ∷ bytes) = if b == n then rest_after name bytes else None

-- a row of a table: a name, and what a packet asks for by what follows the name
abbrev pub Row : Type 0
Row = List ℕ × (List ℕ → Command)

-- what a row says of what follows its name, if it does; else what is found otherwise
abbrev pub by_row : (List ℕ → Command) → Option (List ℕ) → Option Command → Option Command
by_row read (Some rest) otherwise = Some (read rest)
by_row read None otherwise = otherwise

-- what the first row says with whose name the bytes begin
abbrev pub by_rows : List Row → List ℕ → Option Command
by_rows [] bytes = None
by_rows (row ∷ rows) bytes = by_row row.1 (rest_after row.0 bytes) (by_rows rows bytes)

-- the first of two that is there
abbrev pub or_else : Option Command → Option Command → Option Command
or_else (Some command) other = Some command
or_else None other = other

-- what the tables say, one after another
abbrev pub by_tables : List (List Row) → List ℕ → Option Command
by_tables [] bytes = None
by_tables (rows ∷ tables) bytes = or_else (by_rows rows bytes) (by_tables tables bytes)
