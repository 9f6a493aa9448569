use Rattle.std.proofs.Common.{Some, None, map, refl}
use Rattle.command_line.specs.Names.{disk_names}
use Rattle.image_loader.specs.Images.{loaded_of}
use Rattle.xinu_model.specs.Boot.{Boots}
use Rattle.xinu_commands.specs.Calls.{run_outputs}
use Rattle.xinu_commands.specs.RunVerdict.{boot_verdict}
use Rattle.xinu_commands.specs.Setups.{setup_of}
use Rattle.xinu_commands.specs.Stages.{Stage, left_by, no_fetches}
use Rattle.xinu_commands.proofs.Files.{boot_verdict_at}
use Rattle.xinu_commands.proofs.Staged.{of_err}
use Rattle.xinu_commands.proofs.RunSent.{boot_refused, disks_ended, transcript_ended}
use Rattle.xinu_commands.proofs.runs.run_images.Goals as goal

pub returns-in-Err : goal.returns-in-Err
returns-in-Err g c = record {
  stage = boot_refused (setup_of c.args.setup) c.in-Err.fault c.from.result c.args.setup.schedule (map loaded_of c.args.images.now) (run_outputs (disk_names c.args.setup.disks)) (g.H.Host.view c.args.host.now) c.from.ensures c.in-Err.ensures.starts;
}

pub returns-in_err-print_run : goal.returns-in_err-print_run
returns-in_err-print_run g c =
    let setup = c.args.setup in
    let d = disk_names setup.disks in
    let start = c.in-Ok.machine.state in
    let h = g.H.Host.view c.args.host.now in
    let k = g.H.Host.view c.print_run.new.host in
    let v = boot_verdict (setup_of setup) setup.schedule (map loaded_of c.args.images.now) in
    let is = boot_verdict_at (setup_of setup) setup.schedule (map loaded_of c.args.images.now) (Boots start) c.in-Ok.ensures.starts.0 in
    let r = c.in_err-print_run.field-0.0 in
    record {
      stage = of_err c.from_residual.result r (λ ended left. Stage v no_fetches (run_outputs d) ended left h k) c.from_residual.ensures.0 c.from_residual.ensures.1
          (transcript_ended d setup.plain v start setup.schedule c.print_run.new.machine.state r h k is c.in_err-print_run.ensures.prints);
    }

pub returns-in_err-send_disks : goal.returns-in_err-send_disks
returns-in_err-send_disks g c =
    let setup = c.args.setup in
    let d = disk_names setup.disks in
    let start = c.in-Ok.machine.state in
    let h = g.H.Host.view c.args.host.now in
    let j = g.H.Host.view c.print_run.new.host in
    let k = g.H.Host.view c.send_disks.new.host in
    let v = boot_verdict (setup_of setup) setup.schedule (map loaded_of c.args.images.now) in
    let is = boot_verdict_at (setup_of setup) setup.schedule (map loaded_of c.args.images.now) (Boots start) c.in-Ok.ensures.starts.0 in
    let r = c.in_err-send_disks.field-0.0 in
    record {
      stage = of_err c.from_residual-in_err-send_disks.result r (λ ended left. Stage v no_fetches (run_outputs d) ended left h k) c.from_residual-in_err-send_disks.ensures.0 c.from_residual-in_err-send_disks.ensures.1
          (disks_ended d setup.plain v start setup.schedule (left_by c.print_run.new.machine) (Some r) None h j k is c.in_ok-print_run.ensures.prints c.in_err-send_disks.ensures.sends (λ none. absurd (cc)) (λ some. refl));
    }

pub returns : goal.returns
returns g c =
    let setup = c.args.setup in
    let d = disk_names setup.disks in
    let start = c.in-Ok.machine.state in
    let new = left_by c.print_run.new.machine in
    let h = g.H.Host.view c.args.host.now in
    let j = g.H.Host.view c.print_run.new.host in
    let k = g.H.Host.view c.send_disks.new.host in
    let v = boot_verdict (setup_of setup) setup.schedule (map loaded_of c.args.images.now) in
    let is = boot_verdict_at (setup_of setup) setup.schedule (map loaded_of c.args.images.now) (Boots start) c.in-Ok.ensures.starts.0 in
    record {
      stage = disks_ended d setup.plain v start setup.schedule new None (Some new) h j k is c.in_ok-print_run.ensures.prints c.in_ok-send_disks.ensures.sends (λ none. refl) (λ some. absurd (cc));
    }
