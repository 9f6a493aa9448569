-- The laws of disks.
use Rattle.std.proofs.Common.{◌≡◌, ◌≤◌, ◌+◌, ◌-◌, ◌/◌, ℕ, ◌↔◌, refl, arith}
use Rattle.lfs_check.specs.declared.geometry.Geometry.{Geometry}
use Rattle.lfs_check.specs.Geometries.{IsGeometry}
use Rattle.lfs_check.specs.Laid.{Shape}
use Rattle.lfs_check.specs.Clean.{places_of, IsShape, Passes, LaidIn}
use Rattle.lfs_check.specs.Empty.{IsEmpty, empty_places}
use Rattle.lfs_check.specs.Built.{IsBuilt, built_places}
use Rattle.lfs_check.proofs.Cleans.{passes_lies}
use Rattle.lfs_check.proofs.Lies.{lies_passes, places_read}
use Rattle.lfs_check.proofs.Empties.{empty_lies}
use Rattle.lfs_check.proofs.Builts.{built_lies}

-- no rule from 4 to 7 is broken if and only if files lie with nothing held
pub clean_laid : (g : Geometry) (d : Shape) → IsGeometry g → IsShape g d → Passes g d ↔ LaidIn g d (places_of g d)
clean_laid g d geo s = (passes_lies g d geo s, λ l. lies_passes g d (places_of g d) geo s l refl refl)

-- a disk without files passes, since its free blocks lie upwards
pub empty_passes : (g : Geometry) (d : Shape) → IsGeometry g → IsShape g d → IsEmpty g d → Passes g d
empty_passes g d geo s e = lies_passes g d (empty_places g d) geo s (empty_lies g d geo e) refl refl

-- a disk on which each file takes the lowest free blocks passes, and its places are theirs
pub built_passes : (g : Geometry) (d : Shape) → IsGeometry g → IsShape g d → IsBuilt g d → Passes g d × (places_of g d ≡ built_places g d)
built_passes g d geo s b =
    let l = built_lies g d geo b in
    (lies_passes g d (built_places g d) geo s l refl refl, places_read g d (built_places g d) geo s l refl refl)

-- six blocks more, of which the directory takes five, leave no fewer data blocks
pub migration_room : (n : ℕ) → n - (1 + (n + 63) / 64) ≤ n + 6 - (6 + (n + 6 + 63) / 64)
migration_room n = omega arith
