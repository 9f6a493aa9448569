-- How far a run goes: whose instructions reach a goal, and whose points, traps and changes concern it.
use Rattle.std.specs.Prelude.{ℕ, ◌==◌, Bool, true, false, if◌then◌else◌}
use Rattle.watched_run.specs.declared.goals.Goal.{Goal}
use Rattle.watched_run.specs.declared.goals.Goal.TheVariants.{Alone, Any, Instruction, Point}

-- whether an instruction of process p reaches the goal
abbrev pub is_met : Goal → ℕ → Bool
is_met (Instruction q) p = p == q
is_met Any p = true
is_met Point p = false
is_met (Alone q) p = false

-- whether a trap of process p may be told
abbrev pub tells : Goal → ℕ → Bool
tells (Instruction q) p = true
tells Any p = true
tells Point p = true
tells (Alone q) p = p == q

-- whether the points of process p stop the run
abbrev pub has_points : Goal → ℕ → Bool
has_points (Instruction q) p = false
has_points Any p = false
has_points Point p = true
has_points (Alone q) p = p == q

-- whether the goal is a point of any process
abbrev pub is_free : Goal → Bool
is_free (Instruction q) = false
is_free Any = false
is_free Point = true
is_free (Alone q) = false

-- whether the goal is a point of one process
abbrev pub is_alone : Goal → Bool
is_alone (Instruction q) = false
is_alone Any = false
is_alone Point = false
is_alone (Alone q) = true

-- the process that a change is told of, if process p made it
abbrev pub teller : Goal → ℕ → ℕ
teller (Instruction q) p = p
teller Any p = p
teller Point p = p
teller (Alone q) p = q

-- one instruction of process p; of anyone, if it is the null process, which makes none
abbrev pub one_of : ℕ → Goal
one_of p = if p == 0 then Any else Instruction p
