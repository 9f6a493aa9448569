-- What is told of a text that should be the transcript of a run of some inputs. Read `Compares`, at the end, first.
use Rattle.std.specs.Prelude.{◌≡◌, ◌≤◌, ◌<◌, ◌⊎◌, ℕ, List, [], ◌∷◌, take, length, map, Option, Some, None, Result, Ok, Err}
use Rattle.command_line.specs.Reading.{Text}
use Rattle.given_disks.specs.Disks.{disks_of}
use Rattle.host_port.specs.HostCalls.{Rose}
use Rattle.host_port.specs.Outside.{Outside, appended, counted, fetching, with_calls}
use Rattle.host_port.specs.declared.host.Channel.TheVariants.{Out}
use Rattle.run_inputs.specs.Fetching.{IsFetched}
use Rattle.run_inputs.specs.InputFaults.{images_loaded}
use Rattle.run_inputs.specs.Starts.{HasNoRoomIn, OverlapsIn}
use Rattle.run_inputs.specs.declared.causes.Cause.{Cause}
use Rattle.run_inputs.specs.declared.causes.Cause.TheVariants as cause
use Rattle.run_inputs.specs.declared.inputs.Inputs.{Inputs}
use Rattle.run_inputs.specs.declared.refusals.Refusal.{Refusal}
use Rattle.run_inputs.specs.declared.refusals.Refusal.TheVariants as refusal
use Rattle.reference_boot.specs.declared.boot.NoStart.{NoStart}
use Rattle.reference_boot.specs.declared.boot.NoStart.TheVariants as no
use Rattle.trace_places.specs.Finding.{Finds}
use Rattle.trace_places.specs.declared.mistakes.Mistake.{Mistake}
use Rattle.trace_report.specs.Reports.{report}
use Rattle.xinu_base.specs.declared.events.Event.{Event}
use Rattle.xinu_model.specs.Boot.{Disks, Loaded}

-- ---- what is found

-- It is found of the text with the images that these files load.
pub record FindsIn (disks : Disks) (files : List (List ℕ)) (events : List Event) (bytes : List ℕ) (found : Option Mistake) : Type 0 where
  pub images : List Loaded
  pub loaded : images_loaded files ≡ Some images
  pub finds : Finds disks images events bytes found

-- the refusal of a machine that doesn't start
abbrev pub start_refusal : NoStart → Refusal
start_refusal (no.Overlaps image) = refusal.Overlap image
start_refusal (no.NoRoom image) = refusal.NoRoom image
start_refusal no.NoMemory = refusal.NoMemory

-- The images in these files don't boot on these disks, for this cause; or memory ran out.
abbrev pub IsUnstarted : Disks → List (List ℕ) → Refusal → Type 0
IsUnstarted disks files (refusal.Overlap image) = OverlapsIn disks files image
IsUnstarted disks files (refusal.NoRoom image) = HasNoRoomIn disks files image
IsUnstarted disks files refusal.NoMemory = Unit {0}
IsUnstarted disks files _ = ⊥

-- ---- what is sent

-- A prefix of a text was sent, and but for the count of faults nothing else changed.
pub record SendsPart (text : List ℕ) (old new : Outside) : Type 0 where
  pub many : ℕ
  pub part : new ≡ counted (appended old Out (take many text)) new.faults

-- the status by what was found: 0 if nothing goes wrong, else 10
abbrev pub status_of : Option Mistake → ℕ
status_of None = 0
status_of (Some mistake) = 10

-- What was found of a text was told: the report was sent, the host failed, or memory ran out.
abbrev pub Reports : List ℕ → Option Mistake → Result ℕ Refusal → Outside → Outside → Type 0
Reports text found (Ok status) old new = (status ≡ status_of found) × (new ≡ counted (appended old Out (report text found)) new.faults)
Reports text found (Err refusal.HostFault) old new = SendsPart (report text found) old new × Rose old.faults new.faults
Reports text found (Err refusal.NoMemory) old new = (new ≡ old) ⊎ SendsPart (report text found) old new
Reports text found (Err _) old new = ⊥

-- What is found of the text, with these inputs, was told.
pub record ReportsOf (x : Inputs) (text : List ℕ) (ended : Result ℕ Refusal) (old new : Outside) : Type 0 where
  pub few : length text ≤ 67108864
  pub found : Option Mistake
  pub finds : FindsIn (disks_of x.disk0 x.disk1) (map (λ v. v.items) x.images.items) x.schedule text found
  pub reports : Reports text found ended old new

-- It wasn't looked for: the text is too long, the images don't boot, or memory ran out. Nothing was sent.
abbrev pub IsRefusedOf : Inputs → List ℕ → Result ℕ Refusal → Type 0
IsRefusedOf x text (Ok status) = ⊥
IsRefusedOf x text (Err refusal.TraceTooLong) = 67108864 < length text
IsRefusedOf x text (Err cause) = IsUnstarted (disks_of x.disk0 x.disk1) (map (λ v. v.items) x.images.items) cause

-- What became of a text.
abbrev pub ComparesText : Inputs → List ℕ → Result ℕ Refusal → Outside → Outside → Type 0
ComparesText x text ended old new = ReportsOf x text ended old new ⊎ (IsRefusedOf x text ended × (new ≡ old))

-- ---- the file

-- The file of this name was fetched, up to one byte more than 64 MiB, and its text compared.
pub record ComparesFile (name : Text) (x : Inputs) (ended : Result ℕ Refusal) (old new : Outside) : Type 0 where
  pub text : List ℕ
  pub fetched : IsFetched 67108864 (old.file name) text
  pub read : Outside
  pub noted : read ≡ counted (with_calls old (fetching name ∷ [])) read.faults
  pub later : old.faults ≤ read.faults
  pub compares : ComparesText x text ended read new

-- The host failed to fetch the file.
pub record CantFetch (name : Text) (old new : Outside) : Type 0 where
  pub noted : new ≡ counted (with_calls old (fetching name ∷ [])) new.faults
  pub rose : Rose old.faults new.faults

-- Memory ran out before the file was fetched.
pub record RunsOut (name : Text) (cause : Refusal) (old new : Outside) : Type 0 where
  pub memory : cause ≡ refusal.NoMemory
  pub many : ℕ
  pub noted : new ≡ counted (with_calls old (take many (fetching name ∷ []))) new.faults

-- What became of a trace: it was fetched and compared, or can't be read, or memory ran out.
abbrev pub Compares : Text → Inputs → Result ℕ Cause → Outside → Outside → Type 0
Compares name x (Ok status) old new = ComparesFile name x (Ok status) old new
Compares name x (Err (cause.Refused r)) old new = ComparesFile name x (Err r) old new ⊎ RunsOut name r old new
Compares name x (Err (cause.Unread file)) old new = (file.now ≡ name) × CantFetch name old new
Compares name x (Err _) old new = ⊥
