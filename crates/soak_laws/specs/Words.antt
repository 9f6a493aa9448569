-- The words of the four programs that a number gives.
use Rattle.std.specs.Prelude.{ℕ, ◌-◌, List}
use Rattle.workload.specs.Groups.{groups}
use Rattle.workload.specs.Programs.{after_programs, kinds_of, place_of, repeated}

-- the state in which program p is drawn
abbrev pub drawn_at : ℕ → ℕ → ℕ
drawn_at seed p = after_programs 1 (p - 1) seed

-- the words of program p: its groups, and the jump back
abbrev pub words_of : ℕ → ℕ → List ℕ
words_of seed p = repeated (groups (place_of p) (kinds_of p) 64 (drawn_at seed p))
