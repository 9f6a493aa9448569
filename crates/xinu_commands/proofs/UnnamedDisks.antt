-- The disks of a run that names none: they are accepted, and are the first disks of the abstract machine. So a soak test is always carried out.
use Rattle.std.proofs.Common.{◌≡◌, ◌≢◌, ◌∙◌, ℕ, ◌+◌, ◌/◌, cond, List, [], length, map, Option, Some, None, replicate, refl, sym, subst, ap, arith}
use Rattle.std.proofs.lemmas.List.{length-replicate}
use Rattle.command_line.specs.Commands.{Soak}
use Rattle.disk_driver.proofs.Zeros.{first_blocks}
use Rattle.file_laws.specs.StoredFiles.{stored, stored_files}
use Rattle.given_disks.specs.Disks.{disks_of}
use Rattle.host_port.specs.Outside.{Outside}
use Rattle.lfs_layout.specs.Files.{Clean, files_of, placed_files}
use Rattle.lfs_layout.specs.Images.{blocks_of, opened}
use Rattle.lfs_layout.specs.Made.{Room, image_with}
use Rattle.lfs_layout.proofs.ImageLaws.{made_is_clean}
use Rattle.lfs_layout.proofs.MadeClean.{empty_room}
use Rattle.lfs_layout.proofs.MadeFields.{length_image}
use Rattle.lfs_layout.proofs.MadeRules.{version_is_2}
use Rattle.soak.specs.Soaks.{Soaks}
use Rattle.soak_laws.proofs.Runs.{line_says}
use Rattle.transcript_laws.specs.Transcripts.{transcript}
use Rattle.workload.specs.Programs.{programs}
use Rattle.workload.specs.Summaries.{counts_of, summary}
use Rattle.workload.proofs.Booting.{programs-boot}
use Rattle.xinu_base.specs.declared.events.End.TheVariants.{Schedule}
use Rattle.xinu_model.specs.Boot.{Boots, boot_on, first_disks}
use Rattle.xinu_model.specs.Devices.State.{empty_blocks}
use Rattle.xinu_model.specs.Machine.{Xinu}
use Rattle.xinu_model.specs.RawDisk.Constants.{RD_BLKSIZ}
use Rattle.xinu_model.specs.Text.{text}
use Rattle.run_inputs.specs.InputDisks.{disk_fault, empty_disk0, empty_disk1, raw_fault}
use Rattle.xinu_commands.specs.SoakVerdict.{soak_verdict}
use Rattle.xinu_commands.specs.Statuses.{status_due}
use Rattle.xinu_commands.specs.Theorem.{Answers}
use Rattle.xinu_commands.specs.Work.{Does, Left, Soaking, Verdict}
use Rattle.xinu_commands.proofs.SoakVerdicts.{starts_as}
use Rattle.xinu_commands.proofs.Statuses.{due}

sized_raw : (disk : List ℕ) → length disk ≡ 32768 → raw_fault disk ≡ None
unfolding raw_fault
sized_raw disk is = rw is refl

pub raw_accepted : raw_fault empty_disk0 ≡ None
unfolding empty_disk0
raw_accepted = sized_raw (replicate 32768 0) (length-replicate {A = ℕ} 32768 0)

room : Room 256 []
room = empty_room 256 (omega arith) (omega arith)

made_clean : Clean (image_with 256 []) []
made_clean = made_is_clean 256 [] room refl

pub files_accepted : disk_fault empty_disk1 ≡ None
unfolding disk_fault empty_disk1
files_accepted = made_clean.faultless

opened_made : opened (image_with 256 []) ≡ image_with 256 []
opened_made =
    let made = image_with 256 [] in
    ap (λ v. cond v made (image_with (length made / 512 + 6) (placed_files made))) (version_is_2 256 [] room)

-- disks with these blocks, so many bytes and no file
disks_are : (disk0 disk1 : List ℕ) → blocks_of disk0 ≡ empty_blocks → length disk1 ≡ 131072 → files_of disk1 ≡ [] → disks_of disk0 disk1 ≡ first_disks
unfolding stored_files
disks_are disk0 disk1 blocks size files =
    ap (λ b. record { blocks = b; size = length disk1 / RD_BLKSIZ; files = stored_files disk1 }) blocks
    ∙ ap (λ n. record { blocks = empty_blocks; size = n / RD_BLKSIZ; files = stored_files disk1 }) size
    ∙ ap (λ fs. record { blocks = empty_blocks; size = 256; files = map stored fs }) files

pub unnamed_first : disks_of empty_disk0 (opened empty_disk1) ≡ first_disks
unfolding empty_disk0 empty_disk1
unnamed_first =
    ap (disks_of (replicate 32768 0)) opened_made
    ∙ disks_are (replicate 32768 0) (image_with 256 []) first_blocks (length_image 256 [] room) made_clean.read

-- the programs boot on these disks
pub soak_done : (seed : ℕ) → (start : Xinu) × (soak_verdict seed ≡ Does (Soaking seed start))
soak_done seed =
    let boots = programs-boot (disks_of empty_disk0 (opened empty_disk1)) seed in
    (boots.0, starts_as seed empty_disk0 (opened empty_disk1) (Boots boots.0) raw_accepted files_accepted refl refl boots.1)

-- so the status is that of work which was done
pub soak_status : (exit seed : ℕ) (old new : Outside) (left : Option Left) → Answers exit (Some (Soak seed)) old new left → exit ≢ 7 → exit ≢ 3 → exit ≡ 0
soak_status exit seed old new left a memory host = due exit (Some (Soak seed)) old new left a memory host ∙ ap status_due (soak_done seed).1

-- the start that a verdict's work has, or else this one
abbrev start_in : Verdict → Xinu → Xinu
start_in (Does (Soaking seed start)) other = start
start_in v other = other

-- they boot in the start that the verdict names
soak_boots : (seed : ℕ) (start : Xinu) → soak_verdict seed ≡ Does (Soaking seed start)
    → boot_on (disks_of empty_disk0 (opened empty_disk1)) (programs seed) ≡ Boots start
soak_boots seed start is =
    let disks = disks_of empty_disk0 (opened empty_disk1) in
    let boots = programs-boot disks seed in
    let done = starts_as seed empty_disk0 (opened empty_disk1) (Boots boots.0) raw_accepted files_accepted refl refl boots.1 in
    subst (λ s. boot_on disks (programs seed) ≡ Boots s) (ap (λ v. start_in v start) (sym done ∙ is)) boots.1

-- so all events are taken, and the line says so
pub soak_line : (seed : ℕ) (start : Xinu) (summary_line : List ℕ) (last : Xinu) → soak_verdict seed ≡ Does (Soaking seed start)
    → (k : Soaks seed start summary_line last) → summary_line ≡ summary seed 200000 (counts_of (text (transcript start k.lines last Schedule))) Schedule
soak_line seed start summary_line last is k =
    line_says (disks_of empty_disk0 (opened empty_disk1)) seed start summary_line last (soak_boots seed start is) k
