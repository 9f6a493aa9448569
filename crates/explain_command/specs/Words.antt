-- What the words of the command ask to be told of a run.
use Rattle.std.specs.Prelude.{ℕ, Bool, ◌^◌, nat_lt, if◌then◌else◌, Option, Some, None, codes, option_and_then}
use Rattle.command_line.specs.Reading.{Taken, is_given, option_value}
use Rattle.command_words.specs.ValueKinds.{number_in, span_in}

-- What is asked of a run: the numbers of the first and the last event that are listed, after how many events the state is
-- told, if it is, and whether each refused call is told, or each kind once.
pub record Asked : Type 0 where
  pub steps : Option (ℕ × ℕ)
  pub at : Option ℕ
  pub each : Bool

-- a number of 32 bits
abbrev pub small : ℕ → Option ℕ
small n = if nat_lt n (2 ^ 32) then Some n else None

-- what words ask
abbrev pub asked_in : Taken → Asked
asked_in t = record {
  steps = option_and_then span_in (option_value (codes "steps") t);
  at = option_and_then small (option_and_then number_in (option_value (codes "at") t));
  each = is_given (codes "refused") t;
}
