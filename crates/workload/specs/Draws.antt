-- The numbers that are drawn, by a linear congruential generator: the upper half of its state serves a draw (Press et al., Numerical
-- Recipes, section "Quick and dirty generators").
use Rattle.std.specs.Prelude.{ℕ, ◌+◌, ◌*◌, ◌/◌, ◌%◌}

-- the state after one more draw
unfoldable pub next : ℕ → ℕ
next x = (1664525 * x + 1013904223) % 4294967296

-- the number below a bound that is drawn in a state
abbrev pub drawn : ℕ → ℕ → ℕ
drawn bound x = next x / 65536 % bound
