-- The images that are left give what all give.
use Rattle.std.proofs.Common.{◌≡◌, drop, map}
use Rattle.image_loader.specs.Images.{loaded_of}
use Rattle.xinu_model.specs.Boot.{with_images}
use Rattle.image_loader.proofs.loading.load_all.Given as goal

abbrev pub invariant-loop-image : goal.invariant-loop-image
invariant-loop-image l = with_images (map loaded_of (drop l.image-index l.images)) l.ram ≡ with_images (map loaded_of l.images) l.initial.ram
