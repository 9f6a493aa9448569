-- The outcome of a run, and a run of images from their boot on.
use Rattle.std.specs.Prelude.{◌≡◌, ℕ, Bool, true, false, List}
use Rattle.std.specs.List.{list_any}
use Rattle.host_port.specs.Outside.{Outside}
use Rattle.host_port.specs.Printing.{Printing, Prints}
use Rattle.kernel_boot.specs.declared.initialize.BootFault.{BootFault}
use Rattle.kernel_boot.specs.declared.initialize.BootFault.TheVariants as fault
use Rattle.race_runs.specs.Forced.{is_of_files}
use Rattle.race_tables.specs.Outcomes.{Outcome, outcome_in}
use Rattle.xinu_base.specs.declared.events.Event.{Event}
use Rattle.xinu_base.specs.declared.events.End.{End}
use Rattle.xinu_base.specs.declared.lines.TranscriptLine.{TranscriptLine}
use Rattle.xinu_laws.specs.Outcomes.{ChoosesNothing}
use Rattle.xinu_model.specs.Boot.{Boots, Disks, Loaded, NoRoom, Overlaps, boot_on}
use Rattle.xinu_model.specs.Machine.{Xinu}
use Rattle.xinu_model.specs.Runs.{RunsTo}
use Rattle.xinu_model.specs.Text.{shown, tables_of, text}

-- the outcome of a run with these lines, this last state and this end
abbrev pub outcome_of : List TranscriptLine → Xinu → End → Outcome
outcome_of lines last end = outcome_in (text lines) (text (tables_of last)) end

-- A run from the start through these events has this outcome.
pub record ComesTo (start : Xinu) (events : List Event) (outcome : Outcome) : Type 0 where
  pub lines : List TranscriptLine
  pub last : Xinu
  pub end : End
  pub runs : RunsTo start events lines last end
  pub is : outcome_of lines last end ≡ outcome

-- The images boot on these disks, and a run from there through these events has this outcome.
pub record ComesToOn (disks : Disks) (images : List Loaded) (events : List Event) (outcome : Outcome) : Type 0 where
  pub start : Xinu
  pub boots : boot_on disks images ≡ Boots start
  pub comes : ComesTo start events outcome

-- The images don't boot on these disks; or memory ran out.
abbrev pub IsRefused : Disks → List Loaded → BootFault → Type 0
IsRefused disks images (fault.Overlap i) = boot_on disks images ≡ Overlaps i
IsRefused disks images (fault.NoRoom i) = boot_on disks images ≡ NoRoom i
IsRefused disks images fault.NoMemory = Unit {0}

-- A run through the events led from one state to the other and ended so, and its lines were printed. If it was quiet and no line is of a call on
-- files, nothing is chosen in it.
pub record RunPrinted (old : Xinu) (events : List Event) (new : Xinu) (end : End) (is_quiet : Bool) (before after : Printing) (was is : Outside) : Type 0 where
  pub lines : List TranscriptLine
  pub runs : RunsTo old events lines new end
  pub prints : Prints before after was is (shown before.plain lines)
  pub nothing : is_quiet ≡ true → list_any is_of_files lines ≡ false → ChoosesNothing old events

-- A run through the events led from one state to the other and ended so, and its lines are this text.
pub record HasText (old : Xinu) (events : List Event) (new : Xinu) (end : End) (printed : List ℕ) : Type 0 where
  pub lines : List TranscriptLine
  pub runs : RunsTo old events lines new end
  pub is : printed ≡ text lines
