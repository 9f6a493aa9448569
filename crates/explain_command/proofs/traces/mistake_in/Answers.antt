use Rattle.std.proofs.Common.{◌∙◌, Some, ap, map, sym}
use Rattle.explain_command.proofs.Compared.{unstarted}
use Rattle.image_loader.specs.Images.{loaded_of}
use Rattle.run_inputs.specs.InputFaults.{images_loaded}
use Rattle.explain_command.proofs.traces.mistake_in.Goals as goal

pub returns-in-Ok-find_mistake-clause-finds : goal.returns-in-Ok-find_mistake-clause-finds
returns-in-Ok-find_mistake-clause-finds c = record {
  images = map loaded_of c.as_slice-2.result.now;
  loaded = ap (λ fs. images_loaded (map (λ v. v.items) fs)) (sym c.as_slice.ensures.value) ∙ c.in-Ok.ensures.loaded
      ∙ ap (λ xs. Some (map loaded_of xs)) (sym c.as_slice-2.ensures.value);
  finds = c.in-Ok-find_mistake.ensures.finds;
}

pub returns-clause-refused : goal.returns-clause-refused
returns-clause-refused c =
    unstarted _ _ (map loaded_of c.as_slice-2.result.now) c.in-Err.fault c.start_refusal.result
    (ap (λ fs. images_loaded (map (λ v. v.items) fs)) (sym c.as_slice.ensures.value) ∙ c.in-Ok.ensures.loaded
    ∙ ap (λ xs. Some (map loaded_of xs)) (sym c.as_slice-2.ensures.value))
    c.in-Err.ensures.refuses c.start_refusal.ensures.refusal
