use Rattle.std.proofs.Common.{arith, map}
use Rattle.std.proofs.lemmas.List.{length-map}
use Rattle.image_loader.specs.Images.{loaded_of}
use Rattle.xinu_laws.proofs.Preserve.Disks.{sound_boot_on}
use Rattle.xinu_model.specs.Boot.{Disks}
use Rattle.reference_check.proofs.Starts.{within_start}
use Rattle.reference_check.proofs.checks.check_on.Goals as goal

pub check_from-requires-clause-within : goal.check_from-requires-clause-within
check_from-requires-clause-within c =
    let disks : Disks = record { blocks = c.args.disk.blocks; size = c.args.system.blocks; files = c.args.system.files } in
    let images = map loaded_of c.args.images.now in
    let n = length-map c.args.images.now loaded_of in
    let few = c.requires.few in
    let boots = c.in-Ok.ensures.boots in
    within_start disks images c.in-Ok.machine.state c.requires.blocks
    (sound_boot_on disks images c.in-Ok.machine.state (omega (arith, n, few)) c.requires.sound boots) boots
