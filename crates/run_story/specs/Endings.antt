-- The first line of a story: how a run ended; and of a state: after how many events it is told.
use Rattle.std.specs.Prelude.{ℕ, List, ◌++◌, codes}
use Rattle.std.specs.Fmt.{decimal}
use Rattle.xinu_base.specs.declared.events.End.{End}
use Rattle.xinu_base.specs.declared.events.End.TheVariants.{Schedule, Done, Panic}

-- two numbers in a text
unfoldable pub counts : List ℕ → ℕ → List ℕ → ℕ → List ℕ → List ℕ
counts before n between m after = before ++ decimal n ++ between ++ decimal m ++ after

-- the line that tells how a run ended after so many events, at this tick; if the kernel panicked, in this call
unfoldable pub ending_line : End → ℕ → ℕ → List ℕ → List ℕ
ending_line Schedule events tick call = counts (codes "The schedule ended after ") events (codes " events, at tick ") tick (codes ".\n")
ending_line Done events tick call = counts (codes "The run was done after ") events (codes " events, at tick ") tick (codes ": no process is left.\n")
ending_line Panic events tick call =
    counts (codes "The kernel panicked in event ") events (codes ", at tick ") tick (codes ": ") ++ call ++ codes " found a hundred messages in all ports.\n"

-- the line before what is told of the state after so many events, at this tick
unfoldable pub after_line : ℕ → ℕ → List ℕ
after_line events tick = counts (codes "After ") events (codes " events, at tick ") tick (codes ":\n")
