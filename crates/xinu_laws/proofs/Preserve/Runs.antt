-- What each event keeps each run keeps.
use Rattle.std.proofs.Common.{List, [], ◌∷◌, Option, Some, None, sym, subst}
use Rattle.xinu_base.specs.declared.events.End.{End}
use Rattle.xinu_base.specs.declared.events.Event.{Event}
use Rattle.xinu_base.specs.declared.lines.TranscriptLine.{TranscriptLine}
use Rattle.xinu_model.specs.Events.{panics_in, Happens}
use Rattle.xinu_model.specs.Machine.{Xinu}
use Rattle.xinu_model.specs.Runs.{is_over, end_with, Follows, RunsTo}

-- a property of states that each event keeps
abbrev pub IsKept : (Xinu → Type 0) → Type 0
IsKept P = (old : Xinu) (e : Event) (lines : List TranscriptLine) (new : Xinu) → P old → Happens old e lines new → P new

-- what follows an event keeps it, if the rest of the run does
follows_keep : (P : Xinu → Type 0) (how : Option End) (events : List Event) (first lines : List TranscriptLine) (mid new : Xinu) (end : End)
    → ((rest : List TranscriptLine) → RunsTo mid events rest new end → P new) → P mid
    → Follows how (λ rest. RunsTo mid events rest new end) first lines mid new end → P new
follows_keep P (Some how) events first lines mid new end rest k f = subst P (sym f.1) k
follows_keep P None events first lines mid new end rest k f = rest f.0 f.1

-- What each event keeps each run keeps.
pub runs_keep : (P : Xinu → Type 0) → IsKept P → (events : List Event) (old : Xinu) (lines : List TranscriptLine) (new : Xinu) (end : End)
    → P old → RunsTo old events lines new end → P new
runs_keep P kept [] old lines new end k r = subst P (sym r.1) k
runs_keep P kept (e ∷ events) old lines new end k r =
    let mid = kept old e r.1 r.0 k r.2 in
    follows_keep P (end_with (panics_in old e) (is_over r.0)) events r.1 lines r.0 new end
    (λ rest run. runs_keep P kept events r.0 rest new end mid run) mid r.3
