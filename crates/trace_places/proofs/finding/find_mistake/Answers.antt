use Rattle.std.proofs.Common.{◌∙◌, ◌/◌, List, ℕ, length, ap, subst, sym}
use Rattle.file_laws.specs.StoredFiles.{stored_files}
use Rattle.given_disks.proofs.Given.{sound_disks}
use Rattle.part_laws.specs.GivenDisks.{AreSoundDisks}
use Rattle.xinu_model.specs.Boot.{Disks}
use Rattle.xinu_model.specs.Files.Systems.{FileSystem, closed_system}
use Rattle.trace_places.proofs.finding.find_mistake.Goals as goal

pub find_on-requires-clause-sound : goal.find_on-requires-clause-sound
find_on-requires-clause-sound c =
    let disks : List (List ℕ) → FileSystem → Disks = λ b s. record { blocks = b; size = s.blocks; files = s.files } in
    let disk0 = c.args.disk0.now in
    let disk1 = c.args.disk1.now in
    let system : FileSystem = closed_system (length disk1 / 512) (stored_files disk1) in
    let blocks = ap (λ b. disks b system) (sym c.in-Ok.ensures.blocks) in
    let files = ap (disks c.in-Ok.disk.blocks) (sym c.in-Ok-file_system_of.ensures.system) in
    subst AreSoundDisks (blocks ∙ files) (sound_disks disk0 disk1 c.raw_disk_of.ensures.raw c.file_system_of.ensures.clean)
