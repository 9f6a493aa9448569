-- The files that are left have no fault, and with their images those so far are the images of all.
use Rattle.std.proofs.Common.{◌≡◌, ◌++◌, false, drop, length, map}
use Rattle.std.specs.Prelude.{option_map}
use Rattle.image_loader.specs.Images.{loaded_of}
use Rattle.run_inputs.specs.InputFaults.{have_fault, images_loaded}
use Rattle.run_inputs.proofs.inputs.images_of.Given as goal

abbrev pub invariant-loop-file : goal.invariant-loop-file
invariant-loop-file l =
    (have_fault (map (λ v. v.items) (drop l.file-index l.files)) ≡ false)
    × ((option_map (λ more. map loaded_of l.images.items ++ more) (images_loaded (map (λ v. v.items) (drop l.file-index l.files))) ≡ images_loaded (map (λ v. v.items) l.files))
    × (length l.images.items ≡ l.file-index))
