-- The remainder of a run, and machines from which one is known.
use Rattle.std.specs.Prelude.{◌≡◌, ◌+◌, ◌++◌, ℕ, Bool, false, List, length}
use Rattle.machine.specs.Printed.{Booted}
use Rattle.race_runs.specs.Forced.{Forces}
use Rattle.race_runs.specs.Runs.{HasText}
use Rattle.race_tables.specs.Outcomes.{Outcome, outcome_in}
use Rattle.xinu_base.specs.declared.events.Event.{Event}
use Rattle.xinu_base.specs.declared.events.End.{End}
use Rattle.xinu_base.specs.declared.events.End.TheVariants.{Schedule}
use Rattle.xinu_model.specs.Machine.{Xinu}
use Rattle.xinu_model.specs.Text.{tables_of, text}

-- what the remainder of a run comes to: the text that it prints, that of the tables after it, how it ends, and whether nothing is chosen in it
pub record Remainder : Type 0 where
  pub printed : List ℕ
  pub tables : List ℕ
  pub end : End
  pub is_forced : Bool

-- A run from this state through these events comes to this.
pub record GoesOn (start : Xinu) (events : List Event) (rest : Remainder) : Type 0 where
  pub last : Xinu
  pub has : HasText start events last rest.end rest.printed
  pub tables : rest.tables ≡ text (tables_of last)
  pub forced : Forces rest.is_forced start events

-- a machine, and what a run from it comes to
pub record Known : Type 0 where
  pub machine : Booted
  pub rest : Remainder

-- a run from the machine through these events comes to this
abbrev pub IsKnown : List Event → Known → Type 0
IsKnown events known = GoesOn known.machine.state events known.rest

-- A run that printed this text and came to this state has this outcome, with a remainder through these events.
pub record IsFinished (printed : List ℕ) (here : Xinu) (events : List Event) (outcome : Outcome) : Type 0 where
  pub rest : Remainder
  pub goes : GoesOn here events rest
  pub is : outcome ≡ outcome_in (printed ++ rest.printed) rest.tables rest.end

-- If all these events were taken the machine takes further ones.
pub record TakesMore (old : Booted) (events : List Event) (new : Booted) (end : End) : Type 0 where
  pub running : end ≡ Schedule → new.over ≡ false
  pub counted : end ≡ Schedule → new.events ≡ old.events + length events
