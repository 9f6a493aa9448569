use Rattle.std.proofs.Common.{ℕ, ◌≡◌, List, map, take}
use Rattle.local_files.specs.Standing.{Stands}
use Rattle.local_files.specs.Steps.{shown}
use Rattle.local_files.proofs.Files.has_same_open.Given as goal

abbrev pub invariant-loop-d : goal.invariant-loop-d
invariant-loop-d l = (base disk other_base other_disk : List ℕ) → Stands l.self base disk → Stands l.other other_base other_disk
    → take l.d (map shown l.self.devices) ≡ take l.d (map shown l.other.devices)
