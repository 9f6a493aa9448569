-- Steps that print nothing, taken off a schedule together.
use Rattle.std.specs.Prelude.{◌≡◌, ℕ, List, ◌++◌, replicate}
use Rattle.xinu_base.specs.declared.events.Event.{Event}
use Rattle.xinu_base.specs.declared.events.Event.TheVariants.{Step}
use Rattle.xinu_model.specs.Machine.{Xinu}
use Rattle.xinu_model.specs.Steps.{ArePlain, stepped_times}

-- The first of the events were steps that print nothing, and lead from one state to the other; the rest is left.
pub record ArePlainSteps (old : Xinu) (events : List Event) (new : Xinu) (left : List Event) : Type 0 where
  pub count : ℕ
  pub plain : ArePlain count old
  pub state : new ≡ stepped_times count old
  pub taken : events ≡ replicate count Step ++ left
