-- The calls under way in the middle of an event, by what the code has of them.
use Rattle.std.specs.Prelude.{ℕ, ◌+◌, ◌≤◌, List, [], ◌∷◌, length}
use Rattle.xinu_model.specs.Files.Work.{FileNote, FileStep, FileWork}
use Rattle.xinu_model.specs.Memory.{ram_size}

-- the calls, RAM, and what has happened
abbrev pub step_of : FileWork → List ℕ → List FileNote → FileStep
step_of work memory notes = record { work = work; memory = memory; notes = notes }

-- if there are bytes, they lie in RAM from an address on
abbrev pub IsPut : ℕ → List ℕ → Type 0
IsPut at [] = Unit {0}
IsPut at (b ∷ bytes) = at + length (b ∷ bytes) ≤ ram_size
