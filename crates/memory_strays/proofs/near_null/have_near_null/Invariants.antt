-- Those that are left decide.
use Rattle.std.proofs.Common.{◌≡◌, drop, map}
use Rattle.std.specs.List.{list_any}
use Rattle.image_loader.specs.Parts.{part_of}
use Rattle.memory_strays.specs.NearNull.{part_near_null}
use Rattle.memory_strays.proofs.near_null.have_near_null.Given as goal

abbrev pub invariant-loop-part : goal.invariant-loop-part
invariant-loop-part l = list_any part_near_null (map part_of (drop l.part-index l.parts)) ≡ list_any part_near_null (map part_of l.parts)
