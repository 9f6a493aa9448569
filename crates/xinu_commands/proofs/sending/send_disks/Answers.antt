use Rattle.command_line.specs.Names.{disk_names}
use Rattle.run_inputs.specs.Fetching.{refusal_of}
use Rattle.xinu_commands.specs.Stages.{SendsDisks, left_by}
use Rattle.xinu_commands.proofs.RunSent.{both_disks_sent, raw_disk_sent}
use Rattle.xinu_commands.proofs.Staged.{of_refused}
use Rattle.xinu_commands.proofs.sending.send_disks.Goals as goal

pub returns-in_err-send_disk : goal.returns-in_err-send_disk
returns-in_err-send_disk g c =
    let d = disk_names c.args.disks in
    let h = g.H.Host.view c.args.host.now in
    let k = g.H.Host.view c.send_disk.new.host in
    let r = c.in_err-send_disk.field-0.0 in
    record {
      sends = of_refused c.from_residual.result r (λ ended. SendsDisks d (left_by c.args.machine.now) ended h k) c.from_residual.ensures.0 c.from_residual.ensures.1
          (raw_disk_sent d (left_by c.args.machine.now) c.disk.result.now c.disk-disk1.result.now r h k c.disk.ensures.bytes c.disk-disk1.ensures.bytes c.disk-disk1.ensures.holds c.in_err-send_disk.ensures.sends);
    }

pub returns : goal.returns
returns g c = record {
  sends = both_disks_sent (disk_names c.args.disks) (left_by c.args.machine.now) c.disk.result.now c.disk-disk1.result.now (refusal_of c.send_disk-2.result) (g.H.Host.view c.args.host.now) (g.H.Host.view c.send_disk.new.host) (g.H.Host.view c.send_disk-2.new.host)
      c.disk.ensures.bytes c.disk-disk1.ensures.bytes c.disk-disk1.ensures.holds c.in_ok-send_disk.ensures.sends c.send_disk-2.ensures.sends;
}
