use Rattle.std.proofs.Common.{◌∙◌, ◌∷◌, [], ◌++◌, ◌+◌, ap, drop, map, sym}
use Rattle.std.proofs.lemmas.List.{length-append, map-append}
use Rattle.std.specs.Prelude.{length, option_map}
use Rattle.elf_loader.specs.LoadedFiles.{loads}
use Rattle.image_loader.specs.Images.{loaded_of}
use Rattle.run_inputs.specs.InputFaults.{images_loaded}
use Rattle.run_inputs.proofs.ImageFiles.{file_good, file_loaded, file_unrefused}
use Rattle.run_inputs.proofs.inputs.images_of.Goals as goal

pub unreachable-requires : goal.unreachable-requires
unreachable-requires c =
    let good = (file_good (λ v. v.items) c.args.files.now c.loop-file.file-index c.file-item.result c.loop-file-test.true c.file-item.is c.loop-file.invariant.0).0 in
    file_unrefused c.file-item.result.items good (ap loads (sym c.as_slice.ensures.value) ∙ c.in-Err.ensures.loads)

pub loop-file-preserved : goal.loop-file-preserved
loop-file-preserved c =
    let files = c.args.files.now in
    let k = c.loop-file.file-index in
    let file = c.file-item.result in
    let so_far = c.loop-file.invariant in
    let loaded = ap loads (sym c.as_slice.ensures.value) ∙ c.in-Ok.ensures.loads in
    let images = map loaded_of c.loop-file.images.items in
    let added = ap (map loaded_of) c.in_ok-push-in-Ok.ensures.items ∙ map-append loaded_of c.loop-file.images.items (c.in-Ok.image ∷ []) in (
      (file_good (λ v. v.items) files k file c.loop-file-test.true c.file-item.is so_far.0).1,
      (
        ap (λ ls. option_map (λ more. ls ++ more) (images_loaded (map (λ v. v.items) (drop (k + 1) files)))) added
            ∙ file_loaded (λ v. v.items) files k file images (loaded_of c.in-Ok.image) _ c.loop-file-test.true c.file-item.is loaded so_far.1.0,
        ap length c.in_ok-push-in-Ok.ensures.items ∙ length-append c.loop-file.images.items (c.in-Ok.image ∷ []) ∙ ap (λ n. n + 1) so_far.1.1,
      ),
    )
