use Rattle.std.proofs.Common.{[], ℕ, List, Some, None, refl, subst}
use Rattle.xinu_commands.specs.DiskVerdict.{check_verdict}
use Rattle.xinu_commands.proofs.DiskFetched.{check_fetched}
use Rattle.command_line.specs.Commands.{Disk}
use Rattle.command_line.specs.DiskArgs.{Check}
use Rattle.run_inputs.specs.Fetching.{refusal_of}
use Rattle.xinu_commands.specs.Stages.{Performs, Stage, no_fetches}
use Rattle.xinu_commands.proofs.Staged.{fetched_performs, of_refused, unfetched_performs}
use Rattle.xinu_commands.proofs.disk.check_file.Goals as goal

pub returns-in_err-bytes : goal.returns-in_err-bytes
returns-in_err-bytes g c =
    let h = g.H.Host.view c.args.host.now in
    let k = g.H.Host.view c.fetch.new.host in
    let r = c.in_err-bytes.field-0.0 in
    record {
      performs = of_refused c.from_residual.result r (λ ended. Performs (Some (Disk (Check c.args.name.now))) ended None h k) c.from_residual.ensures.0 c.from_residual.ensures.1
          (unfetched_performs (Check c.args.name.now) c.args.name.now no_fetches r h k (λ v. refl) c.in_err-bytes.ensures.fetches);
    }

pub returns : goal.returns
returns g c = record {
  performs = fetched_performs (Check c.args.name.now) c.args.name.now no_fetches check_verdict [] c.in_ok-bytes.bytes.items (refusal_of c.check_bytes.result) (g.H.Host.view c.args.host.now) (g.H.Host.view c.fetch.new.host)
      (g.H.Host.view c.check_bytes.new.host) check_fetched (λ v. refl) refl c.in_ok-bytes.ensures.bytes c.in_ok-bytes.ensures.fetches (let P : List ℕ → Type 0 = λ b. Stage (check_verdict b) no_fetches [] (refusal_of c.check_bytes.result) None (g.H.Host.view c.fetch.new.host) (g.H.Host.view c.check_bytes.new.host) in subst P c.as_slice.ensures.value c.check_bytes.ensures.stage);
}
