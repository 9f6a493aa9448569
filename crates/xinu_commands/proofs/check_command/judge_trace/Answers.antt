use Rattle.std.proofs.Common.{◌∙◌, ℕ, Some, Vec, Global, List, ap, map, sym}
use Rattle.image_loader.specs.Images.{loaded_of}
use Rattle.image_loader.specs.declared.images.Image.{Image}
use Rattle.run_inputs.specs.InputFaults.{images_loaded}
use Rattle.xinu_commands.proofs.Judged.{judges, refuses}
use Rattle.xinu_commands.proofs.check_command.judge_trace.Goals as goal

pub returns-in-Ok-check_trace : goal.returns-in-Ok-check_trace
returns-in-Ok-check_trace c =
    let x = c.args.inputs in
    let files = ap (λ (vs : List (Vec ℕ Global)). images_loaded (map (λ v. v.items) vs)) (sym c.as_slice.ensures.value) in
    let loaded = files ∙ c.in-Ok.ensures.loaded ∙ ap (λ (images : List Image). Some (map loaded_of images)) (sym c.as_slice-2.ensures.value) in
    record {
      judges = judges c.args.trace.now x (map loaded_of c.as_slice-2.result.now) loaded c.requires.short c.in-Ok-check_trace.is_transcript c.in-Ok-check_trace.ensures.starts c.in-Ok-check_trace.ensures.checks;
    }

pub returns : goal.returns
returns c =
    let x = c.args.inputs in
    let files = ap (λ (vs : List (Vec ℕ Global)). images_loaded (map (λ v. v.items) vs)) (sym c.as_slice.ensures.value) in
    let loaded = files ∙ c.in-Ok.ensures.loaded ∙ ap (λ (images : List Image). Some (map loaded_of images)) (sym c.as_slice-2.ensures.value) in
    record {
      judges = refuses c.args.trace.now x (map loaded_of c.as_slice-2.result.now) loaded c.requires.short c.in-Err.fault c.start_refusal.result c.start_refusal.ensures.refusal c.in-Err.ensures.refuses;
    }
