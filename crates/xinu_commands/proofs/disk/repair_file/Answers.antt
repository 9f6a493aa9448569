use Rattle.std.proofs.Common.{[], ◌∷◌, ℕ, List, Some, None, refl, subst}
use Rattle.xinu_commands.specs.DiskVerdict.{repair_verdict}
use Rattle.xinu_commands.proofs.DiskFetched.{repair_fetched}
use Rattle.command_line.specs.Commands.{Disk}
use Rattle.command_line.specs.DiskArgs.{Repair}
use Rattle.host_port.specs.Outside.{naming}
use Rattle.host_port.specs.declared.host.Channel.TheVariants.{Disk1}
use Rattle.run_inputs.specs.Fetching.{refusal_of}
use Rattle.xinu_commands.specs.Stages.{Performs, Stage, no_fetches}
use Rattle.xinu_commands.proofs.Staged.{fetched_performs, of_refused, unfetched_performs}
use Rattle.xinu_commands.proofs.disk.repair_file.Goals as goal

pub returns-in_err-bytes : goal.returns-in_err-bytes
returns-in_err-bytes g c =
    let h = g.H.Host.view c.args.host.now in
    let k = g.H.Host.view c.fetch.new.host in
    let r = c.in_err-bytes.field-0.0 in
    record {
      performs = of_refused c.from_residual.result r (λ ended. Performs (Some (Disk (Repair c.args.name.now c.args.out.now))) ended None h k) c.from_residual.ensures.0 c.from_residual.ensures.1
          (unfetched_performs (Repair c.args.name.now c.args.out.now) c.args.name.now no_fetches r h k (λ v. refl) c.in_err-bytes.ensures.fetches);
    }

pub returns : goal.returns
returns g c = record {
  performs = fetched_performs (Repair c.args.name.now c.args.out.now) c.args.name.now no_fetches repair_verdict [] c.in_ok-bytes.bytes.items (refusal_of c.repair_bytes.result) (g.H.Host.view c.args.host.now) (g.H.Host.view c.fetch.new.host)
      (g.H.Host.view c.repair_bytes.new.host) repair_fetched (λ v. refl) refl c.in_ok-bytes.ensures.bytes c.in_ok-bytes.ensures.fetches (let P : List ℕ → Type 0 = λ b. Stage (repair_verdict b) no_fetches (naming Disk1 c.args.out.now ∷ []) (refusal_of c.repair_bytes.result) None (g.H.Host.view c.fetch.new.host) (g.H.Host.view c.repair_bytes.new.host) in subst P c.as_slice.ensures.value c.repair_bytes.ensures.stage);
}
