-- What became of a trace, and images that don't boot.
use Rattle.std.proofs.Common.{◌≡◌, ◌≤◌, ◌∷◌, ℕ, List, [], length, take, Some, sym, subst}
use Rattle.std.specs.Prelude.{Result, MatchOption, ⊤}
use Rattle.command_line.specs.Reading.{Text}
use Rattle.explain_command.specs.Traces.{ComparesFile, ComparesText, IsUnstarted, start_refusal}
use Rattle.host_port.specs.Outside.{Outside, counted, fetching, with_calls}
use Rattle.reference_boot.specs.Starts.{RefusesAs}
use Rattle.reference_boot.specs.declared.boot.NoStart.{NoStart}
use Rattle.reference_boot.specs.declared.boot.NoStart.TheVariants as no
use Rattle.run_inputs.proofs.FetchedFiles.{fetched_front}
use Rattle.run_inputs.specs.InputFaults.{images_loaded}
use Rattle.run_inputs.specs.declared.inputs.Inputs.{Inputs}
use Rattle.run_inputs.specs.declared.refusals.Refusal.{Refusal}
use Rattle.xinu_model.specs.Boot.{Disks, Loaded, boot_on}

-- images that don't boot
unstarted_so : (disks : Disks) (files : List (List ℕ)) (images : List Loaded) (fault : NoStart) → images_loaded files ≡ Some images
    → RefusesAs (boot_on disks images) fault → IsUnstarted disks files (start_refusal fault)
unstarted_so disks files images (no.Overlaps i) loaded is = record { images = images; loaded = loaded; overlaps = is }
unstarted_so disks files images (no.NoRoom i) loaded is = record { images = images; loaded = loaded; no_room = is }
unstarted_so disks files images no.NoMemory loaded is = tt

pub unstarted : (disks : Disks) (files : List (List ℕ)) (images : List Loaded) (fault : NoStart) (cause : Refusal) → images_loaded files ≡ Some images
    → RefusesAs (boot_on disks images) fault → cause ≡ start_refusal fault → IsUnstarted disks files cause
unstarted disks files images fault cause loaded is same =
    subst (λ (r : Refusal). IsUnstarted disks files r) (sym same) (unstarted_so disks files images fault loaded is)

-- a file that was fetched and compared
pub file_compared : (name : Text) (text : List ℕ) (x : Inputs) (ended : Result ℕ Refusal) (old read new : Outside) → length text ≤ 67108865
    → MatchOption (old.file name) ⊤ (λ all. text ≡ take 67108865 all) → read ≡ counted (with_calls old (fetching name ∷ [])) read.faults
    → old.faults ≤ read.faults → ComparesText x text ended read new → ComparesFile name x ended old new
file_compared name text x ended old read new few front noted later compares = record {
  text = text;
  fetched = fetched_front 67108864 (old.file name) text few front;
  read = read;
  noted = noted;
  later = later;
  compares = compares;
}
