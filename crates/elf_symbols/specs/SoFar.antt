-- The nearest symbol so far.
use Rattle.std.specs.Prelude.{ℕ, nat_le, Bool, ◌&&◌, if◌then◌else◌, Option, Some, None}
use Rattle.elf_symbols.specs.Symbols.{nearer}
use Rattle.elf_symbols.specs.declared.symbols.Symbol.{Symbol}

-- the nearer of what was found so far and what is found later
abbrev pub best_of : Option Symbol → Option Symbol → Option Symbol
best_of None later = later
best_of (Some s) later = nearer s later

-- the nearest after one symbol more
abbrev pub next_best : (Symbol → Bool) → ℕ → Option Symbol → Symbol → Option Symbol
next_best test address best s = if test s && nat_le s.value address then best_of best (Some s) else best
