-- The history of a run of the kernel.
use Rattle.std.specs.Prelude.{◌≡◌, ℕ, suc, List, [], ◌∷◌, Option, Some, None}
use Rattle.xinu_base.specs.declared.events.End.{End}
use Rattle.xinu_base.specs.declared.events.Event.{Event}
use Rattle.xinu_base.specs.declared.lines.TranscriptLine.{TranscriptLine}
use Rattle.xinu_base.specs.declared.syscalls.Call.{Call}
use Rattle.xinu_model.specs.Events.{Happens, panics_in}
use Rattle.xinu_model.specs.Machine.{Xinu}
use Rattle.xinu_model.specs.Runs.{end_with, is_over}
use Rattle.happens_before.specs.Histories.{Moment}
use Rattle.data_races.specs.Changes.{next_call, stepper_of}
use Rattle.data_races.specs.Deeds.{deeds_of}
use Rattle.data_races.specs.Edges.{edges_in}
use Rattle.data_races.specs.Ledger.{Ledger, first_ledger, ledger_next}

-- the call of the process that steps, if one steps
abbrev pub call_in : Option ℕ → Xinu → Option Call
call_in None s = None
call_in (Some u) s = next_call s

-- event n of a history, from one state to another, with this ledger before it
abbrev pub moment_in : ℕ → Ledger → Xinu → Event → Xinu → Moment
moment_in n ledger old e new = record {
  stepper = stepper_of old e;
  edges = edges_in n (stepper_of old e) (call_in (stepper_of old e) old) old new ledger;
  deeds = deeds_of old e new;
}

-- the ledger after it
abbrev pub ledger_in : ℕ → Ledger → Xinu → Event → Xinu → Ledger
ledger_in n ledger old e new = ledger_next n (stepper_of old e) (call_in (stepper_of old e) old) old new ledger

-- what follows a moment: nothing if the run ends with it, else the rest of the history
abbrev pub FollowsMoment : Option End → (List Moment → Type 0) → Moment → List Moment → Xinu → Xinu → Type 0
FollowsMoment (Some end) Rest m h mid new = (h ≡ m ∷ []) × (new ≡ mid)
FollowsMoment None Rest m h mid new = (rest : List Moment) × Rest rest × (h ≡ m ∷ rest)

-- From old, with this ledger before event n, these events up to the end of the run lead to new, and this is their history.
abbrev pub GoesOn : ℕ → Ledger → Xinu → List Event → List Moment → Xinu → Type 0
GoesOn n ledger old [] h new = (h ≡ []) × (new ≡ old)
GoesOn n ledger old (e ∷ events) h new =
    (mid : Xinu) × (lines : List TranscriptLine) × Happens old e lines mid ×
    FollowsMoment (end_with (panics_in old e) (is_over mid)) (λ rest. GoesOn (suc n) (ledger_in n ledger old e mid) mid events rest new)
    (moment_in n ledger old e mid) h mid new

-- The history of a run from its start through these events: that of the first event on, before which nothing was given.
abbrev pub HasHistory : Xinu → List Event → List Moment → Xinu → Type 0
HasHistory start events h new = GoesOn 1 first_ledger start events h new
