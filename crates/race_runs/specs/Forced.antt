-- Runs in which nothing is chosen, so that they are the only ones.
use Rattle.std.specs.Prelude.{◌≡◌, ℕ, Bool, true, false, List, codes}
use Rattle.std.specs.List.{All, list_any}
use Rattle.preemptions.specs.Preempted.{preempted_at}
use Rattle.race_tables.specs.Outcomes.{begin_with}
use Rattle.text_lines.specs.Lines.{lines_of, tokens_of}
use Rattle.xinu_base.specs.declared.events.Event.{Event}
use Rattle.xinu_base.specs.declared.lines.TranscriptLine.{TranscriptLine}
use Rattle.xinu_base.specs.declared.lines.TranscriptLine.TheVariants as line
use Rattle.xinu_laws.specs.Outcomes.{ChoosesNothing}
use Rattle.xinu_model.specs.Boot.{Boots, Disks, Loaded, boot_on}
use Rattle.xinu_model.specs.Files.Rest.{are_calls}
use Rattle.xinu_model.specs.Files.Syscalls.{files_of}
use Rattle.xinu_model.specs.Machine.{Xinu}

-- whether a call on files is under way
abbrev pub has_calls : Xinu → Bool
has_calls s = are_calls (files_of s).calls

-- whether a line is of a call on files
abbrev pub is_of_files : TranscriptLine → Bool
is_of_files (line.File p moment) = true
is_of_files _ = false

-- whether one of a text's lines is of a call on files
unfoldable pub tells_files : List ℕ → Bool
tells_files text = list_any (λ line. begin_with (codes "file") (tokens_of line)) (lines_of text)

-- If the flag is true, nothing is chosen in a run from this state through these events.
pub record Forces (is_forced : Bool) (start : Xinu) (events : List Event) : Type 0 where
  pub nothing : is_forced ≡ true → ChoosesNothing start events

-- If the flag is true, nothing is chosen in a run of these images from their boot on these disks through these events.
pub record ForcesOn (is_forced : Bool) (disks : Disks) (images : List Loaded) (events : List Event) : Type 0 where
  pub nothing : is_forced ≡ true → (start : Xinu) → boot_on disks images ≡ Boots start → ChoosesNothing start events

-- If the flag is true, nothing is chosen in a run through the base's events with any of these placements of quantum ends.
pub record AreForced (are_forced : Bool) (disks : Disks) (images : List Loaded) (base : List Event) (placements : List (List ℕ)) : Type 0 where
  pub nothing : are_forced ≡ true → All (λ places. ForcesOn true disks images (preempted_at places base)) placements
