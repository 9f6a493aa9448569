-- A run whose events are counted is a run.
use Rattle.std.proofs.Common.{ℕ, List, [], ◌∷◌, Option, Some, None}
use Rattle.soak.specs.Soaks.{Takes, TakesAfter}
use Rattle.xinu_base.specs.declared.events.Event.{Event}
use Rattle.xinu_base.specs.declared.events.End.{End}
use Rattle.xinu_base.specs.declared.lines.TranscriptLine.{TranscriptLine}
use Rattle.xinu_model.specs.Events.{panics_in}
use Rattle.xinu_model.specs.Machine.{Xinu}
use Rattle.xinu_model.specs.Runs.{Follows, RunsTo, end_with, is_over}

-- what follows an event, if what the rest takes is a run
follows : (o : Option End) (n : ℕ) (events : List Event) (first lines : List TranscriptLine) (mid new : Xinu) (end : End)
    → ((k : ℕ) (rest : List TranscriptLine) → Takes k mid events rest new end → RunsTo mid events rest new end)
    → TakesAfter o (λ k rest. Takes k mid events rest new end) n first lines mid new end
    → Follows o (λ rest. RunsTo mid events rest new end) first lines mid new end
follows (Some with_event) n events first lines mid new end runs t = (t.1, t.2, t.3)
follows None n events first lines mid new end runs t = (t.1, runs t.0 t.1 t.2, t.4)

pub is_run : (n : ℕ) (old : Xinu) (events : List Event) (lines : List TranscriptLine) (new : Xinu) (end : End) → Takes n old events lines new end → RunsTo old events lines new end
is_run n old [] lines new end t = (t.1, t.2, t.3)
is_run n old (e ∷ events) lines new end t =
    (t.0, t.1, t.2, follows (end_with (panics_in old e) (is_over t.0)) n events t.1 lines t.0 new end (λ k rest run. is_run k t.0 events rest new end run) t.3)
