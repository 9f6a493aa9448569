-- A run in which nothing that is held is given away leaves each address claimed at most once.
use Rattle.std.proofs.Common.{◌≡◌, List, [], ◌∷◌, Option, Some, None, refl, sym, subst}
use Rattle.xinu_base.specs.declared.events.End.{End}
use Rattle.xinu_base.specs.declared.events.Event.{Event}
use Rattle.xinu_base.specs.declared.lines.TranscriptLine.{TranscriptLine}
use Rattle.event_laws.specs.Ownership.Apart.{IsApart}
use Rattle.xinu_model.specs.Events.{panics_in, Happens}
use Rattle.event_laws.specs.Ownership.GivingAway.{GivesNothingAway}
use Rattle.xinu_model.specs.Machine.{Xinu}
use Rattle.xinu_model.specs.Runs.{is_over, end_with, Follows, RunsTo}
use Rattle.xinu_model.specs.Sound.State.{IsSound}
use Rattle.event_laws.proofs.Ownership.Events.{apart_happens}

-- each event keeps the state sound
abbrev pub EventsKeepSound : Type 0
EventsKeepSound = (old : Xinu) (e : Event) (lines : List TranscriptLine) (new : Xinu) → IsSound old → Happens old e lines new → IsSound new

-- what follows an event, if the run ends with it and if it goes on
apart_follows : (ends : Option End) (Rest : List TranscriptLine → Type 0) (first lines : List TranscriptLine) (mid new : Xinu) (end : End)
    → IsApart mid → ((rest : List TranscriptLine) → ends ≡ None → Rest rest → IsApart new) → Follows ends Rest first lines mid new end
    → IsApart new
apart_follows (Some with_event) Rest first lines mid new end apart more f = subst IsApart (sym f.1) apart
apart_follows None Rest first lines mid new end apart more f = more f.0 refl f.1

-- A run keeps each address claimed at most once, if nothing that is held is given away.
pub apart_run : EventsKeepSound → (events : List Event) (old : Xinu) (lines : List TranscriptLine) (new : Xinu) (end : End) → IsSound old
    → IsApart old → GivesNothingAway old events → RunsTo old events lines new end → IsApart new
apart_run keeps [] old lines new end sound apart nothing r = subst IsApart (sym r.1) apart
apart_run keeps (e ∷ events) old lines new end sound apart nothing r =
    let mid = r.0 in
    let first = r.1 in
    let h : Happens old e first mid = r.2 in
    let gives = nothing first mid h in
    apart_follows (end_with (panics_in old e) (is_over mid)) (λ rest. RunsTo mid events rest new end) first lines mid new end
    (apart_happens old e first mid sound apart h gives.0)
    (λ rest on go. apart_run keeps events mid rest new end (keeps old e first mid sound h)
    (apart_happens old e first mid sound apart h gives.0) (gives.1 on) go)
    r.3
