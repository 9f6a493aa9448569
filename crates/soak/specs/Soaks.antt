-- A run whose events are counted, and what a soak test comes to.
use Rattle.std.specs.Prelude.{◌≡◌, ℕ, suc, List, [], ◌∷◌, ◌++◌, Option, Some, None}
use Rattle.kernel_boot.specs.declared.initialize.BootFault.{BootFault}
use Rattle.kernel_boot.specs.declared.initialize.BootFault.TheVariants as fault
use Rattle.transcript_laws.specs.Transcripts.{transcript}
use Rattle.workload.specs.Programs.{programs}
use Rattle.workload.specs.Schedules.{events}
use Rattle.workload.specs.Summaries.{counts_of, summary}
use Rattle.xinu_base.specs.declared.events.Event.{Event}
use Rattle.xinu_base.specs.declared.events.End.{End}
use Rattle.xinu_base.specs.declared.events.End.TheVariants.{Schedule}
use Rattle.xinu_base.specs.declared.lines.TranscriptLine.{TranscriptLine}
use Rattle.xinu_model.specs.Boot.{Boots, Disks, NoRoom, Overlaps, boot_on}
use Rattle.xinu_model.specs.Events.{Happens, panics_in}
use Rattle.xinu_model.specs.Machine.{Xinu}
use Rattle.xinu_model.specs.Runs.{end_with, is_over}
use Rattle.xinu_model.specs.Text.{text}

-- What follows an event that printed the first lines and left mid: the run ends with it, or as many events more as the rest of the run takes.
abbrev pub TakesAfter : Option End → (ℕ → List TranscriptLine → Type 0) → ℕ → List TranscriptLine → List TranscriptLine → Xinu → Xinu → End → Type 0
TakesAfter (Some with_event) Rest n first lines mid new end = (n ≡ 1) × (lines ≡ first) × (new ≡ mid) × (end ≡ with_event)
TakesAfter None Rest n first lines mid new end =
    (more : ℕ) × (rest : List TranscriptLine) × Rest more rest × (n ≡ suc more) × (lines ≡ first ++ rest)

-- From old, the run takes so many of these events, prints these lines and leads to new.
abbrev pub Takes : ℕ → Xinu → List Event → List TranscriptLine → Xinu → End → Type 0
Takes n old [] lines new end = (n ≡ 0) × (lines ≡ []) × (new ≡ old) × (end ≡ Schedule)
Takes n old (e ∷ events) lines new end =
    (mid : Xinu) × (first : List TranscriptLine) × Happens old e first mid
    × TakesAfter (end_with (panics_in old e) (is_over mid)) (λ more rest. Takes more mid events rest new end) n first lines mid new end

-- From this start the events of a number were run, and led to this state. The summary has how many were taken, and what is counted of the
-- text of the run.
pub record Soaks (seed : ℕ) (start : Xinu) (summary_line : List ℕ) (last : Xinu) : Type 0 where
  pub taken : ℕ
  pub lines : List TranscriptLine
  pub end : End
  pub runs : Takes taken start (events seed) lines last end
  pub counted : summary_line ≡ summary seed taken (counts_of (text (transcript start lines last end))) end

-- The programs of a number were booted on these disks, and its events run.
pub record SoaksOn (disks : Disks) (seed : ℕ) (summary_line : List ℕ) (last : Xinu) : Type 0 where
  pub start : Xinu
  pub boots : boot_on disks (programs seed) ≡ Boots start
  pub soaks : Soaks seed start summary_line last

-- The programs of a number don't boot on these disks; or memory ran out.
abbrev pub IsRefused : Disks → ℕ → BootFault → Type 0
IsRefused disks seed (fault.Overlap i) = boot_on disks (programs seed) ≡ Overlaps i
IsRefused disks seed (fault.NoRoom i) = boot_on disks (programs seed) ≡ NoRoom i
IsRefused disks seed fault.NoMemory = Unit {0}
