use Rattle.given_disks.proofs.Given.{sound_disks}
use Rattle.machine.proofs.boot.see_disks.Goals as goal

pub returns : goal.returns
returns c = record { sound = sound_disks c.args.disk0.now c.args.disk1.now c.bytes-raw.ensures.raw c.bytes-clean.ensures.clean }
