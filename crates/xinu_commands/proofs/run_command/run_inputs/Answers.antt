use Rattle.std.proofs.Common.{◌∙◌, ℕ, ap, map, sym, Some, List, Vec, Global}
use Rattle.command_line.specs.Names.{disk_names, run_names}
use Rattle.image_loader.specs.Images.{loaded_of}
use Rattle.image_loader.specs.declared.images.Image.{Image}
use Rattle.xinu_commands.specs.Calls.{run_outputs}
use Rattle.run_inputs.specs.InputFaults.{images_loaded}
use Rattle.xinu_commands.specs.InputVerdict.{left_verdict}
use Rattle.xinu_commands.specs.RunVerdict.{run_verdict}
use Rattle.xinu_commands.specs.Stages.{no_fetches}
use Rattle.xinu_commands.specs.Verdict.{wanted_of}
use Rattle.xinu_commands.proofs.InputsRead.{images_carry}
use Rattle.xinu_commands.proofs.Staged.{memory_stage}
use Rattle.xinu_commands.proofs.run_command.run_inputs.Goals as goal

pub returns-in-Ok : goal.returns-in-Ok
returns-in-Ok g c =
    let x = c.args.inputs in
    let names = run_names c.args.files.now in
    let files = ap (λ (vs : List (Vec ℕ Global)). images_loaded (map (λ v. v.items) vs)) (sym c.as_slice.ensures.value) in
    record {
      stage = images_carry (run_verdict (wanted_of names)) x (map loaded_of c.as_slice-in-Ok.result.now) no_fetches (run_outputs names.disks) _ _ _ _
          (files ∙ c.in-Ok.ensures.loaded ∙ ap (λ (images : List Image). Some (map loaded_of images)) (sym c.as_slice-in-Ok.ensures.value)) c.run_images.ensures.stage;
    }

pub returns : goal.returns
returns g c = record {
  stage = memory_stage (left_verdict (run_verdict (wanted_of (run_names c.args.files.now))) c.args.inputs) no_fetches (run_outputs (disk_names c.args.files.now.disks)) (g.H.Host.view c.args.host.now);
}
