use Rattle.std.proofs.Common.{◌∙◌, ap, arith, length, map, subst, Bor, List, ℕ, Some}
use Rattle.std.specs.Prelude.{Err, Ok}
use Rattle.command_line.specs.Commands.{Run}
use Rattle.command_line.specs.Names.{run_names}
use Rattle.xinu_commands.specs.InputFiles.{run_inputs}
use Rattle.run_inputs.specs.Fetching.{refusal_of}
use Rattle.xinu_commands.specs.Stages.{Performs, left_of}
use Rattle.run_inputs.specs.Reading.{ReadsInputs}
use Rattle.xinu_commands.proofs.Staged.{of_err}
use Rattle.xinu_commands.proofs.WholeRuns.{run_performs, run_refused}
use Rattle.xinu_commands.proofs.run_command.run.Goals as goal

pub returns-in_err-inputs : goal.returns-in_err-inputs
returns-in_err-inputs g c =
    let h = g.H.Host.view c.args.host.now in
    let k = g.H.Host.view c.fetch_inputs.new.host in
    let names = run_names c.args.files.now in
    let r = c.in_err-inputs.field-0.0 in
    let P : List (Bor (List ℕ)) → Type 0 = λ images. ReadsInputs (record (run_inputs names) { images = map (λ s. s.now) images }) (Err r) h k in
    record {
      performs = of_err c.from_residual.result r (λ ended left. Performs (Some (Run names)) ended left h k) c.from_residual.ensures.0 c.from_residual.ensures.1
          (run_refused names r h k (subst P c.as_slice.ensures.value c.in_err-inputs.ensures.reads));
    }

pub run_inputs-requires : goal.run_inputs-requires
run_inputs-requires g c =
    let same = c.in_ok-inputs.ensures.count ∙ ap length c.as_slice.ensures.value in
    record { some = omega (arith, same, c.requires.some); few = omega (arith, same, c.requires.few); good = c.in_ok-inputs.ensures.good; events = c.in_ok-inputs.ensures.events }

pub returns : goal.returns
returns g c =
    let h = g.H.Host.view c.args.host.now in
    let j = g.H.Host.view c.fetch_inputs.new.host in
    let k = g.H.Host.view c.run_inputs.new.host in
    let names = run_names c.args.files.now in
    let x = c.in_ok-inputs.inputs in
    let P : List (Bor (List ℕ)) → Type 0 = λ images. ReadsInputs (record (run_inputs names) { images = map (λ s. s.now) images }) (Ok x) h j in
    record {
      performs = run_performs names x (refusal_of c.run_inputs.result) (left_of c.run_inputs.result) h j k (subst P c.as_slice.ensures.value c.in_ok-inputs.ensures.reads) c.run_inputs.ensures.stage;
    }
