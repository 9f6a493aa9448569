-- The images that are left decide, and those before them are the earlier ones, the last first.
use Rattle.std.proofs.Common.{◌≡◌, ◌+◌, [], drop, map, take}
use Rattle.image_loader.specs.Images.{loaded_of}
use Rattle.xinu_model.specs.Boot as boot
use Rattle.image_loader.proofs.EarlierImages.{onto}
use Rattle.image_loader.proofs.loading.first_overlap.Given as goal

abbrev pub invariant-loop-image : goal.invariant-loop-image
invariant-loop-image l =
    (l.earlier ≡ l.image-index)
    × (boot.first_overlap (l.image-index + 1) (onto (map loaded_of (take l.image-index l.images)) []) (map loaded_of (drop l.image-index l.images)) ≡ boot.first_overlap 1 [] (map loaded_of l.images))
