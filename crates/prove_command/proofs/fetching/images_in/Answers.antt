use Rattle.std.proofs.Common.{◌∙◌, ◌∷◌, [], ◌+◌, ap, map, subst, sym, take, List}
use Rattle.std.proofs.lemmas.List.{map-append}
use Rattle.image_loader.specs.Images.{loaded_of}
use Rattle.image_loader.specs.declared.images.Image.{Image}
use Rattle.run_inputs.proofs.ImageFiles.{no_files}
use Rattle.xinu_model.specs.Boot.{Loaded}
use Rattle.prove_command.proofs.Files.{good_then, loaded_then}
use Rattle.prove_command.specs.Named.{AreLoaded}
use Rattle.prove_command.proofs.fetching.images_in.Goals as goal

pub loop-i-init : goal.loop-i-init
loop-i-init c = record {
  loaded = subst (λ (xs : List Image). AreLoaded [] (map loaded_of xs)) (sym c.new-images.ensures.items) tt;
  good = no_files;
}

pub loop-i-preserved : goal.loop-i-preserved
loop-i-preserved c =
    let files = c.args.files.now in
    let same = c.as_slice.ensures.value ∙ ap (λ v. v.items) c.index-files-i.is in
    let images = ap (map loaded_of) c.in-Ok-push.ensures.items ∙ map-append loaded_of c.loop-i.images.items (c.in-Ok.image ∷ []) in
    record {
      loaded = subst (λ (xs : List Loaded). AreLoaded (map (λ v. v.items) (take (c.loop-i.i + 1) files)) xs) (sym images)
          (loaded_then files c.loop-i.i c.index-files-i.result c.as_slice.result.now (map loaded_of c.loop-i.images.items) (loaded_of c.in-Ok.image)
          c.loop-i-test.true c.loop-i.invariant.loaded same c.in-Ok.ensures.loads);
      good = good_then files c.loop-i.i _ c.index-files-i.result c.as_slice.result.now c.loop-i-test.true c.loop-i.invariant.good same c.in-Ok.ensures.judged;
    }
