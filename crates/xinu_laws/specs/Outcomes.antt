-- In which runs nothing is chosen.
use Rattle.std.specs.Prelude.{◌≡◌, false, List, [], ◌∷◌, None}
use Rattle.xinu_base.specs.declared.events.Event.{Event}
use Rattle.xinu_base.specs.declared.lines.TranscriptLine.{TranscriptLine}
use Rattle.xinu_model.specs.Events.{chooses, panics_in, Happens}
use Rattle.xinu_model.specs.Machine.{Xinu}
use Rattle.xinu_model.specs.Runs.{is_over, end_with}

-- No event of a run through these lets anything be chosen, as long as it goes on.
abbrev pub ChoosesNothing : Xinu → List Event → Type 0
ChoosesNothing old [] = Unit {0}
ChoosesNothing old (e ∷ events) =
    (chooses old e ≡ false) ×
    ((lines : List TranscriptLine) (mid : Xinu) → Happens old e lines mid → end_with (panics_in old e) (is_over mid) ≡ None → ChoosesNothing mid events)
