use Rattle.std.proofs.Common.{arith, map}
use Rattle.std.proofs.lemmas.List.{length-map}
use Rattle.image_loader.specs.Images.{loaded_of}
use Rattle.reference_check.proofs.Starts.{within_start}
use Rattle.xinu_laws.proofs.Preserve.Disks.{sound_boot_on}
use Rattle.xinu_model.specs.Boot.{Disks}
use Rattle.trace_places.proofs.Found.{finds}
use Rattle.trace_places.proofs.Whole.{StartsSo}
use Rattle.trace_places.proofs.finding.find_on.Goals as goal

pub mistake_of-requires-clause-within : goal.mistake_of-requires-clause-within
mistake_of-requires-clause-within c =
    let disks : Disks = record { blocks = c.args.disk.blocks; size = c.args.system.blocks; files = c.args.system.files } in
    let images = map loaded_of c.args.images.now in
    let n = length-map c.args.images.now loaded_of in
    let few = c.requires.few in
    let boots = c.in-Ok.ensures.boots in
    within_start disks images c.in-Ok.machine.state c.requires.blocks
    (sound_boot_on disks images c.in-Ok.machine.state (omega (arith, n, few)) c.requires.sound boots) boots

pub returns-in-Ok-mistake_of-clause-finds : goal.returns-in-Ok-mistake_of-clause-finds
returns-in-Ok-mistake_of-clause-finds c =
    let disks : Disks = record { blocks = c.args.disk.blocks; size = c.args.system.blocks; files = c.args.system.files } in
    let images = map loaded_of c.args.images.now in
    let n = length-map c.args.images.now loaded_of in
    let few = c.requires.few in
    let starts : StartsSo disks images c.in-Ok.machine.state =
    record { few = omega (arith, n, few); disks_sound = c.requires.sound; boots = c.in-Ok.ensures.boots } in
    finds disks images c.args.schedule.now c.in-Ok.machine.state c.args.text.now c.in-Ok-mistake_of.found starts c.in-Ok-mistake_of.ensures.finds
    c.in-Ok-mistake_of.ensures.when
