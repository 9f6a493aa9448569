-- The scheduling policy: who runs between two events (book, chapter 5).
use Rattle.std.specs.Prelude.{◌≤◌, ◌≤ℤ◌}
use Rattle.std.specs.List.{AllByRecursion}
use Rattle.xinu_base.specs.Constants.{QUANTUM}
use Rattle.xinu_model.specs.Tables.{Tables, process_at}

-- No entry of the ready list has a key above the priority of the current process.
abbrev pub IsHighest : Tables → Type 0
IsHighest t = AllByRecursion (λ e. e.1 ≤ℤ (process_at t t.current).priority) t.ready

-- The current process has a tick or two left of its quantum.
abbrev pub HasQuantum : Tables → Type 0
HasQuantum t = (1 ≤ t.quantum) × (t.quantum ≤ QUANTUM)
