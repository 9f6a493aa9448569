use Rattle.std.proofs.Common.{◌∙◌, ap, arith, length, map, subst, Bor, List, ℕ}
use Rattle.std.specs.Prelude.{Err, Ok}
use Rattle.command_line.specs.Names.{check_names}
use Rattle.xinu_commands.specs.InputFiles.{check_inputs}
use Rattle.xinu_commands.specs.Judging.{Checks}
use Rattle.run_inputs.specs.Reading.{ReadsInputs}
use Rattle.run_inputs.proofs.ImageFiles.{of_error}
use Rattle.xinu_commands.proofs.WholeRuns.{check_performs, check_refused}
use Rattle.xinu_commands.proofs.check_command.check.Goals as goal

pub returns-in_err-inputs : goal.returns-in_err-inputs
returns-in_err-inputs g c =
    let h = g.H.Host.view c.args.host.now in
    let k = g.H.Host.view c.fetch_inputs.new.host in
    let names = check_names c.args.files.now in
    let r = c.in_err-inputs.field-0.0 in
    let P : List (Bor (List ℕ)) → Type 0 = λ images. ReadsInputs (record (check_inputs names) { images = map (λ s. s.now) images }) (Err r) h k in
    record {
      checks = of_error c.from_residual.result r (λ x. Checks names x h k) c.from_residual.ensures.0 c.from_residual.ensures.1
          (check_refused names r h k (subst P c.as_slice.ensures.value c.in_err-inputs.ensures.reads));
    }

pub check_inputs-requires : goal.check_inputs-requires
check_inputs-requires g c =
    let same = c.in_ok-inputs.ensures.count ∙ ap length c.as_slice.ensures.value in
    record { few = omega (arith, same, c.requires.few); good = c.in_ok-inputs.ensures.good; events = c.in_ok-inputs.ensures.events }

pub returns : goal.returns
returns g c =
    let h = g.H.Host.view c.args.host.now in
    let j = g.H.Host.view c.fetch_inputs.new.host in
    let k = g.H.Host.view c.check_inputs.new.host in
    let names = check_names c.args.files.now in
    let x = c.in_ok-inputs.inputs in
    let P : List (Bor (List ℕ)) → Type 0 = λ images. ReadsInputs (record (check_inputs names) { images = map (λ s. s.now) images }) (Ok x) h j in
    record { checks = check_performs names x h j k (subst P c.as_slice.ensures.value c.in_ok-inputs.ensures.reads) c.check_inputs.result c.check_inputs.ensures.checks }
