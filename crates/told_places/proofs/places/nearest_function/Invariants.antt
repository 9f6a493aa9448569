-- The nearest of the files from one on.
use Rattle.std.proofs.Common.{◌≡◌, ◌≤◌, drop, length, map}
use Rattle.elf_symbols.specs.CodePlaces.{seen_place}
use Rattle.told_places.specs.Places.{nearest_function}
use Rattle.told_places.proofs.places.nearest_function.Given as goal

abbrev pub invariant-loop-left : goal.invariant-loop-left
invariant-loop-left l = (l.left ≤ length l.files) × (seen_place l.best ≡ nearest_function (drop l.left (map (λ v. v.items) l.files)) l.address)

abbrev pub decreases-loop-left : goal.decreases-loop-left
decreases-loop-left l = l.left
