-- The statement of what the command does. Read `Answers`, at the end, first; what is asked is in Words.antt, what is proved of images in Proved.antt
-- and Named.antt, and how what is sent begins in FirstLine.antt.
use Rattle.std.specs.Prelude.{◌≡◌, ◌⊎◌, ◌-◌, ℕ, false, List, [], ◌++◌, take, get_or, Option, Some, None, Result, Ok, Err}
use Rattle.host_port.specs.HostCalls.{Rose}
use Rattle.host_port.specs.Outside.{Outside, appended, counted}
use Rattle.host_port.specs.declared.host.Channel.TheVariants.{Out}
use Rattle.program_logic.specs.declared.outline.Lock.{Lock}
use Rattle.run_inputs.specs.Fetching.{FetchesFiles, IsOfHost, refusal_of}
use Rattle.run_inputs.specs.InputFaults.{have_fault, image_fault}
use Rattle.run_inputs.specs.Refusals.{TellsRefusal}
use Rattle.run_inputs.specs.declared.refusals.Refusal.{Refusal}
use Rattle.run_inputs.specs.declared.refusals.Refusal.TheVariants as refusal
use Rattle.xinu_model.specs.Boot.{Boots, Loaded, NoRoom, Overlaps, boot}
use Rattle.xinu_model.specs.Machine.{Xinu}
use Rattle.prove_command.specs.FirstLine.{head_of}
use Rattle.prove_command.specs.Named.{AreFetched, AreLoaded, IsProvedIn, IsProvedOf}
use Rattle.proof_words.specs.Words.{Asked, asked}

-- ---- the images

-- The image with this number, counted from 1, has this fault, and those before it have none.
pub record IsFirstFault (files : List (List ℕ)) (image fault : ℕ) : Type 0 where
  pub before : have_fault (take (image - 1) files) ≡ false
  pub is : image_fault (get_or files (image - 1) []) ≡ Some fault

-- A file is refused that is no image, the first of them; or memory ran out.
abbrev pub IsImageFault : List (List ℕ) → Refusal → Type 0
IsImageFault files (refusal.Image image fault) = IsFirstFault files image fault
IsImageFault files refusal.NoMemory = Unit {0}
IsImageFault files _ = ⊥

-- The images in these files boot, whatever the disks are.
pub record BootIn (files : List (List ℕ)) : Type 0 where
  pub images : List Loaded
  pub loaded : AreLoaded files images
  pub start : Xinu
  pub boots : boot images ≡ Boots start

-- An image in these files overlaps an earlier one.
pub record OverlapIn (files : List (List ℕ)) (image : ℕ) : Type 0 where
  pub images : List Loaded
  pub loaded : AreLoaded files images
  pub overlaps : boot images ≡ Overlaps image

-- The stack of an image's process has no room.
pub record HaveNoRoomIn (files : List (List ℕ)) (image : ℕ) : Type 0 where
  pub images : List Loaded
  pub loaded : AreLoaded files images
  pub no_room : boot images ≡ NoRoom image

-- With a status the images boot, and with 0 they are proved.
pub record AreAnswered (l : Lock) (files : List (List ℕ)) (status : ℕ) : Type 0 where
  pub boot : BootIn files
  pub proved : status ≡ 0 → IsProvedIn l files

-- Files are refused for the first that is no image, or since the images don't boot; or memory ran out.
abbrev pub AreRefused : List (List ℕ) → Refusal → Type 0
AreRefused files (refusal.Image image fault) = IsFirstFault files image fault
AreRefused files (refusal.Overlap image) = OverlapIn files image
AreRefused files (refusal.NoRoom image) = HaveNoRoomIn files image
AreRefused files refusal.NoMemory = Unit {0}
AreRefused files _ = ⊥

-- Images don't boot for this cause; or memory ran out.
abbrev pub AreUnbooted : List Loaded → Refusal → Type 0
AreUnbooted images (refusal.Overlap image) = boot images ≡ Overlaps image
AreUnbooted images (refusal.NoRoom image) = boot images ≡ NoRoom image
AreUnbooted images refusal.NoMemory = Unit {0}
AreUnbooted images _ = ⊥

-- ---- what is sent

-- A text that begins as the status says was sent, and but for the count of faults nothing else changed.
pub record Sends (a : Asked) (status : ℕ) (old new : Outside) : Type 0 where
  pub rest : List ℕ
  pub sent : new ≡ counted (appended old Out (head_of a status ++ rest)) new.faults

-- Some bytes were sent, and but for the count of faults nothing else changed.
pub record SendsSome (old new : Outside) : Type 0 where
  pub bytes : List ℕ
  pub sent : new ≡ counted (appended old Out bytes) new.faults

-- A text wasn't sent whole: the host failed, or memory ran out.
abbrev pub IsUnsent : Refusal → Outside → Outside → Type 0
IsUnsent refusal.HostFault old new = SendsSome old new × Rose old.faults new.faults
IsUnsent refusal.NoMemory old new = (new ≡ old) ⊎ SendsSome old new
IsUnsent _ old new = ⊥

-- What became of files that were fetched.
abbrev pub Judges : Asked → List (List ℕ) → Result ℕ Refusal → Outside → Outside → Type 0
Judges a files (Ok status) old new = AreAnswered a.lock files status × Sends a status old new
Judges a files (Err refusal.HostFault) old new = BootIn files × (SendsSome old new × Rose old.faults new.faults)
Judges a files (Err refusal.NoMemory) old new = (new ≡ old) ⊎ SendsSome old new
Judges a files (Err cause) old new = AreRefused files cause × (new ≡ old)

-- ---- the command

-- What became of the names: the refusal of the host is that of the command, and fetched files were judged.
abbrev pub Continues : Asked → Result (List (List ℕ)) Refusal → Result ℕ Refusal → Outside → Outside → Type 0
Continues a (Err cause) ended old new = (ended ≡ Err cause) × ((new ≡ old) × IsOfHost cause)
Continues a (Ok files) ended old new = Judges a files ended old new

-- The files were fetched in order, all of them unless the host failed or memory ran out, and judged.
pub record Obeys (a : Asked) (ended : Result ℕ Refusal) (old new : Outside) : Type 0 where
  pub files : Result (List (List ℕ)) Refusal
  pub read : Outside
  pub fetches : FetchesFiles a.images (refusal_of files) old read
  pub fetched : (bytes : List (List ℕ)) → files ≡ Ok bytes → AreFetched old.file a.images bytes
  pub continues : Continues a files ended read new

-- Memory ran out before anything was done.
pub record HasNoMemory (ended : Result ℕ Refusal) (old new : Outside) : Type 0 where
  pub cause : ended ≡ Err refusal.NoMemory
  pub same : new ≡ old

-- The arguments ask nothing, and nothing was done.
pub record AsksNothing (ended : Result ℕ Refusal) (old new : Outside) : Type 0 where
  pub cause : ended ≡ Err refusal.Usage
  pub same : new ≡ old

-- The command was carried out as it was asked.
abbrev pub Carries : Option Asked → Result ℕ Refusal → Outside → Outside → Type 0
Carries None ended old new = AsksNothing ended old new ⊎ HasNoMemory ended old new
Carries (Some a) ended old new = Obeys a ended old new ⊎ HasNoMemory ended old new

-- The status is that with which the command ended, or that of the refusal, which is told.
abbrev pub Tells : Result ℕ Refusal → ℕ → Outside → Outside → Type 0
Tells (Ok status) exit old new = (exit ≡ status) × (new ≡ old)
Tells (Err cause) exit old new = TellsRefusal cause exit old new

-- The theorem. The command was carried out as its arguments ask, and ended with a status or a refusal; that is what is answered and told.
pub record Answers (exit : ℕ) (args : List (List ℕ)) (old new : Outside) : Type 0 where
  pub ended : Result ℕ Refusal
  pub mid : Outside
  pub carries : Carries (asked args) ended old mid
  pub tells : Tells ended exit mid new

-- The arguments ask for a proof for images, and it is there.
pub record ProvesAsked (args : List (List ℕ)) (file : List ℕ → Option (List ℕ)) : Type 0 where
  pub ask : Asked
  pub asks : asked args ≡ Some ask
  pub proved : IsProvedOf ask.lock ask.images file
