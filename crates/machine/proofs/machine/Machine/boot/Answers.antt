use Rattle.std.proofs.Common.{arith, map}
use Rattle.std.proofs.lemmas.List.{length-map}
use Rattle.given_disks.specs.Disks.{disks_of}
use Rattle.image_loader.specs.Images.{loaded_of}
use Rattle.xinu_laws.proofs.Preserve.Disks.{sound_boot_on}
use Rattle.machine.proofs.Boots.{boot_on_apart, boot_on_lives, boot_on_numbers, boot_on_ticks}
use Rattle.machine.proofs.machine.Machine.boot.Goals as goal

pub invariant_of-result : goal.invariant_of-result
invariant_of-result c =
    let disks = disks_of c.args.disk0 c.args.disk1 in
    let images = map loaded_of c.args.images.now in
    let n = length-map c.args.images.now loaded_of in
    let some = c.requires.some in
    let few = c.requires.few in
    let s = c.in_ok-kernel.kernel.came.call.state in
    let booted = c.in_ok-kernel.ensures.booted in
    record {
      idle = booted.1;
      sound = sound_boot_on disks images s (omega (arith, n, few)) c.see_disks.ensures.sound booted.0;
      holds = c.holds_files.ensures.holds;
      lives = λ _. boot_on_lives disks images s (omega (arith, n, some)) (omega (arith, n, few)) booted.0;
      few = omega arith;
      ticks = (let e = boot_on_ticks disks images s booted.0 in omega arith);
      numbers = λ q. (let e = boot_on_numbers disks images s booted.0 q in omega (arith, e));
    }

pub returns-clause-apart : goal.returns-clause-apart
returns-clause-apart c =
    boot_on_apart (disks_of c.args.disk0 c.args.disk1) (map loaded_of c.args.images.now) c.in_ok-kernel.kernel.came.call.state c.in_ok-kernel.ensures.booted.0

pub returns-clause-sound : goal.returns-clause-sound
returns-clause-sound c =
    let images = map loaded_of c.args.images.now in
    let n = length-map c.args.images.now loaded_of in
    let few = c.requires.few in
    sound_boot_on (disks_of c.args.disk0 c.args.disk1) images c.in_ok-kernel.kernel.came.call.state (omega (arith, n, few)) c.see_disks.ensures.sound c.in_ok-kernel.ensures.booted.0
