-- Whole runs: the events in order, up to the end of the list, a panic, or the moment at which no process but the null process is left.
use Rattle.std.specs.Prelude.{◌≡◌, Bool, true, false, List, [], ◌∷◌, ◌++◌, drop, Option, Some, None}
use Rattle.std.specs.List.{list_all}
use Rattle.xinu_base.specs.declared.events.Event.{Event}
use Rattle.xinu_base.specs.declared.events.End.{End}
use Rattle.xinu_base.specs.declared.events.End.TheVariants.{Schedule, Done, Panic}
use Rattle.xinu_base.specs.declared.lines.TranscriptLine.{TranscriptLine}
use Rattle.xinu_base.specs.declared.lines.TranscriptLine.TheVariants as line
use Rattle.xinu_model.specs.Boot.{Boots, Disks, Loaded, boot_on}
use Rattle.xinu_model.specs.Events.{Happens, panics_in}
use Rattle.xinu_model.specs.Machine.{Xinu}
use Rattle.xinu_model.specs.Tables.{is_free}
use Rattle.xinu_model.specs.Text.{tables_of}

-- whether no process but the null process is left
abbrev pub is_over : Xinu → Bool
is_over s = list_all (λ p. is_free p.state) (drop 1 s.tables.processes)

-- how a run ends with an event, by whether the kernel panicked and whether no process but the null process is left
abbrev pub end_with : Bool → Bool → Option End
end_with true over = Some Panic
end_with false true = Some Done
end_with false false = None

-- What follows an event that printed the first lines and left mid: the end, or the rest of the run, whose lines are Rest's.
abbrev pub Follows : Option End → (List TranscriptLine → Type 0) → List TranscriptLine → List TranscriptLine → Xinu → Xinu → End → Type 0
Follows (Some with_event) Rest first lines mid new end = (lines ≡ first) × (new ≡ mid) × (end ≡ with_event)
Follows None Rest first lines mid new end = (rest : List TranscriptLine) × Rest rest × (lines ≡ first ++ rest)

-- From old, these events up to the end of the run print these lines and lead to new.
abbrev pub RunsTo : Xinu → List Event → List TranscriptLine → Xinu → End → Type 0
RunsTo old [] lines new end = (lines ≡ []) × (new ≡ old) × (end ≡ Schedule)
RunsTo old (e ∷ events) lines new end =
    (mid : Xinu) × (first : List TranscriptLine) × Happens old e first mid × Follows (end_with (panics_in old e) (is_over mid)) (λ rest. RunsTo mid events rest new end) first lines mid new end

-- What a whole run prints that starts with these images on these disks: the line of its first process, the lines of its events, the tables
-- of its last state, its end.
pub record IsTranscript (disks : Disks) (images : List Loaded) (events : List Event) (last : Xinu) (all : List TranscriptLine) : Type 0 where
  pub start : Xinu
  pub boots : boot_on disks images ≡ Boots start
  pub lines : List TranscriptLine
  pub end : End
  pub runs : RunsTo start events lines last end
  pub whole : all ≡ line.Switch start.tables.current ∷ lines ++ tables_of last ++ line.End end ∷ []
