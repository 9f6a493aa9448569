-- What is shown of an event of a run.
use Rattle.explain_command.specs.Changes.{AreChanged}
use Rattle.explain_command.specs.Sights.{IsSeenIn}
use Rattle.explain_command.specs.declared.happenings.Happening.{Happening}
use Rattle.replayed_run.specs.Replayed.{Replayed}

-- What is shown of it was seen in the state ahead of it, and the changes are those to the state after it.
pub record IsShown (before after : Replayed) (shown : Happening) : Type 0 where
  pub seen : IsSeenIn before shown.seen
  pub changes : AreChanged after.state shown.seen shown.changes
