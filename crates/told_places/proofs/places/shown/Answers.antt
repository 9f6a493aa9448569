use Rattle.told_places.proofs.Texts.{shown_none, shown_text}
use Rattle.told_places.proofs.places.shown.Goals as goal

pub returns-in-Ok : goal.returns-in-Ok
returns-in-Ok c = record { shown = shown_text _ _ c.in-Ok.ensures.cases.0 c.in-Ok.ensures.cases.1 }

pub returns-in-Err : goal.returns-in-Err
returns-in-Err c = record { shown = shown_none _ c.in-Err.ensures.cases.0 }
