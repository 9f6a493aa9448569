use Rattle.std.proofs.Common.{Some, None, refl}
use Rattle.command_line.specs.Commands.{Disk}
use Rattle.command_line.specs.DiskArgs.{Put}
use Rattle.xinu_commands.specs.Calls.{source_fetches}
use Rattle.run_inputs.specs.Fetching.{refusal_of}
use Rattle.xinu_commands.specs.Stages.{Performs}
use Rattle.xinu_commands.proofs.Staged.{of_refused, put_performs, unfetched_performs}
use Rattle.xinu_commands.proofs.disk.put.Goals as goal

pub returns-in_err-bytes : goal.returns-in_err-bytes
returns-in_err-bytes g c =
    let h = g.H.Host.view c.args.host.now in
    let k = g.H.Host.view c.fetch.new.host in
    let r = c.in_err-bytes.field-0.0 in
    let action = Put c.args.image.now c.args.name.now c.args.source.now c.args.out.now in
    record {
      performs = of_refused c.from_residual.result r (λ ended. Performs (Some (Disk action)) ended None h k) c.from_residual.ensures.0 c.from_residual.ensures.1
          (unfetched_performs action c.args.image.now (source_fetches c.args.source.now) r h k (λ v. refl) c.in_err-bytes.ensures.fetches);
    }

pub returns : goal.returns
returns g c = record {
  performs = put_performs c.args.image.now c.args.name.now c.args.source.now c.args.out.now c.in_ok-bytes.bytes.items (refusal_of c.put_file.result) (g.H.Host.view c.args.host.now) (g.H.Host.view c.fetch.new.host)
      (g.H.Host.view c.put_file.new.host) c.in_ok-bytes.ensures.bytes c.in_ok-bytes.ensures.fetches c.put_file.ensures.sets;
}
