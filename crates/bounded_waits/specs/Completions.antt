-- How many completions of a disk there are in a list of events.
use Rattle.std.specs.Prelude.{ℕ, ◌+◌, List, [], ◌∷◌}
use Rattle.xinu_base.specs.declared.events.Event.{Event}
use Rattle.xinu_base.specs.declared.events.Event.TheVariants.{Disk0, Disk1, Fail0}

-- a good completion of the files' disk; a failed one does nothing
abbrev pub file_completions : Event → ℕ
file_completions Disk1 = 1
file_completions _ = 0

-- a completion of the raw disk, which a failed one serves, too
abbrev pub disk_completions : Event → ℕ
disk_completions Disk0 = 1
disk_completions Fail0 = 1
disk_completions _ = 0

-- so many in all
abbrev pub in_all : (Event → ℕ) → List Event → ℕ
in_all count [] = 0
in_all count (e ∷ events) = count e + in_all count events
