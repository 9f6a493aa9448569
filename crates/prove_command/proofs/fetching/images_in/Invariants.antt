use Rattle.std.proofs.Common.{◌≡◌, false, map, take}
use Rattle.image_loader.specs.Images.{loaded_of}
use Rattle.run_inputs.specs.InputFaults.{have_fault}
use Rattle.prove_command.specs.Named.{AreLoaded}
use Rattle.prove_command.proofs.fetching.images_in.Given as goal

abbrev pub invariant-loop-i : goal.invariant-loop-i
invariant-loop-i l = record {
  loaded : AreLoaded (map (λ v. v.items) (take l.i l.files)) (map loaded_of l.images.items);
  good : have_fault (map (λ v. v.items) (take l.i l.files)) ≡ false;
}
