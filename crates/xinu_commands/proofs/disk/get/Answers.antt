use Rattle.std.proofs.Common.{[], Some, None, refl}
use Rattle.xinu_commands.specs.DiskVerdict.{get_verdict}
use Rattle.xinu_commands.proofs.DiskFetched.{get_fetched}
use Rattle.command_line.specs.Commands.{Disk}
use Rattle.command_line.specs.DiskArgs.{Get}
use Rattle.run_inputs.specs.Fetching.{refusal_of}
use Rattle.xinu_commands.specs.Stages.{Performs, no_fetches}
use Rattle.xinu_commands.proofs.Staged.{fetched_performs, of_refused, unfetched_performs}
use Rattle.xinu_commands.proofs.disk.get.Goals as goal

pub returns-in_err-bytes : goal.returns-in_err-bytes
returns-in_err-bytes g c =
    let h = g.H.Host.view c.args.host.now in
    let k = g.H.Host.view c.fetch.new.host in
    let r = c.in_err-bytes.field-0.0 in
    record {
      performs = of_refused c.from_residual.result r (λ ended. Performs (Some (Disk (Get c.args.image.now c.args.name.now c.args.out.now))) ended None h k) c.from_residual.ensures.0 c.from_residual.ensures.1
          (unfetched_performs (Get c.args.image.now c.args.name.now c.args.out.now) c.args.image.now no_fetches r h k (λ v. refl) c.in_err-bytes.ensures.fetches);
    }

pub returns : goal.returns
returns g c = record {
  performs = fetched_performs (Get c.args.image.now c.args.name.now c.args.out.now) c.args.image.now no_fetches (get_verdict c.args.name.now) [] c.in_ok-bytes.bytes.items (refusal_of c.get_file.result) (g.H.Host.view c.args.host.now) (g.H.Host.view c.fetch.new.host)
      (g.H.Host.view c.get_file.new.host) (get_fetched c.args.name.now) (λ v. refl) refl c.in_ok-bytes.ensures.bytes c.in_ok-bytes.ensures.fetches c.get_file.ensures.stage;
}
