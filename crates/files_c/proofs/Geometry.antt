-- The geometry of a disk of version 2.
use Rattle.std.proofs.Common.{◌≡◌, ◌∙◌, ℕ, ◌/◌, Bool, true, cond, List, length, ap, sym}
use Rattle.std.specs.Prelude.{is_none}
use Rattle.std.proofs.lemmas.Bool.{and_parts}
use Rattle.files_c.specs.Judging.{is_disk}
use Rattle.lfs_check.specs.Fields.{geometry_of, is_version_2}
use Rattle.lfs_check.specs.Rules.{rule_0}
use Rattle.lfs_check.specs.declared.geometry.Geometry.{Geometry}

-- a disk has version 2
pub version_of : (disk : List ℕ) → is_disk disk ≡ true → is_version_2 disk ≡ true
version_of disk is = (and_parts (is_version_2 disk) (is_none (rule_0 (geometry_of disk) disk)) is).0

-- it has six directory blocks
pub geometry_is : (disk : List ℕ) (n : ℕ) → is_disk disk ≡ true → n ≡ length disk / 512 → ◌≡◌ {A = Geometry} (record { dirs = 6; blocks = n }) (geometry_of disk)
geometry_is disk n is many =
    ap (λ (b : ℕ). record { dirs = 6; blocks = b }) many ∙ ap (λ (v : Bool). record { dirs = cond v 6 1; blocks = length disk / 512 }) (sym (version_of disk is))
