-- What the numbers of the command are judged to be.
use Rattle.std.specs.Prelude.{◌≡◌, ℕ, ◌<◌, ◌≤◌, List, length, Result, Ok, Err}
use Rattle.run_inputs.specs.declared.causes.Cause.TheVariants as cause
use Rattle.run_inputs.specs.declared.refusals.Refusal.TheVariants as refusal
use Rattle.races_command.specs.Words.{stretch_of}
use Rattle.races_command.specs.declared.bases.Limits.{Limits}
use Rattle.races_command.specs.declared.faults.Fault.{Fault}
use Rattle.races_command.specs.declared.faults.Fault.TheVariants as fault
use Rattle.xinu_base.specs.declared.events.Event.{Event}

-- The schedule has more than a million events; or memory ran out.
abbrev pub IsLongOrMemory : List Event → Fault → Type 0
IsLongOrMemory schedule fault.TooLong = 1000000 < length schedule
IsLongOrMemory schedule e = e ≡ fault.Refused (cause.Refused refusal.NoMemory)

-- At most three quantum ends within the steps of the base are accepted as they are asked for; more than three are refused, and else those that
-- are to be within more steps than there are.
abbrev pub IsJudged : ℕ → ℕ → ℕ → ℕ → Result Limits Fault → Type 0
IsJudged most from within steps (Ok limits) = (limits.most ≡ most) × (limits.stretch ≡ stretch_of from within) × (most ≤ 3) × (within ≤ steps)
IsJudged most from within steps (Err fault.TooMany) = 3 < most
IsJudged most from within steps (Err fault.TooFar) = (most ≤ 3) × (steps < within)
IsJudged most from within steps (Err e) = ⊥
