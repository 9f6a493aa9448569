-- A disk that is too long breaks rule 0.
use Rattle.std.proofs.Common.{◌≡◌, ◌*◌, ◌%◌, ◌<◌, ◌≤◌, ◌&&◌, ℕ, Bool, true, false, cond, nat_eq, nat_le, List, length, Option, Some, None, refl, ap, arith}
use Rattle.std.proofs.lemmas.Bool.{lt-leb}
use Rattle.lfs_check.specs.declared.faults.DiskFault.{DiskFault}
use Rattle.lfs_check.specs.Fields.{fields_of, geometry_of, is_version_2}
use Rattle.lfs_check.specs.Faults.{either_fault, named, shape_fault}
use Rattle.lfs_check.specs.Geometries.{fewest_blocks, most_blocks}
use Rattle.lfs_check.specs.Rules.{rule_0}
use Rattle.run_inputs.specs.InputDisks.{disk_fault, raw_fault}

abbrev pub too_long : DiskFault
too_long = record { block = 0; rule = 0 }

last_false : {A : Type 0} (a b c : Bool) (x : A) → c ≡ false → cond {A = Option A} (a && b && c) None (Some x) ≡ Some x
last_false {A} true true c x is = ap (λ y. cond {A = Option A} y None (Some x)) is
last_false true false c x is = refl
last_false false b c x is = refl

most_of : (v : Bool) → most_blocks (record { dirs = cond v 6 1; blocks = 0 }) ≤ 65542
most_of true = omega arith
most_of false = omega arith

pub rule_0-long : (bytes : List ℕ) → 33557504 < length bytes → rule_0 (geometry_of bytes) bytes ≡ Some 0
rule_0-long bytes long =
    let most : most_blocks (geometry_of bytes) ≤ 65542 = most_of (is_version_2 bytes) in
    last_false (nat_eq (length bytes % 512) 0) (nat_le (512 * fewest_blocks (geometry_of bytes)) (length bytes)) (nat_le (length bytes) (512 * most_blocks (geometry_of bytes))) 0 (lt-leb (length bytes) (512 * most_blocks (geometry_of bytes)) (omega arith))

pub disk_fault-long : (bytes : List ℕ) → 33557504 < length bytes → disk_fault bytes ≡ Some too_long
unfolding disk_fault
disk_fault-long bytes long = ap (λ (r : Option ℕ). either_fault (named 0 r) (shape_fault (geometry_of bytes) (fields_of (geometry_of bytes) bytes) bytes)) (rule_0-long bytes long)

pub raw_fault-long : (bytes : List ℕ) → 33557504 < length bytes → raw_fault bytes ≡ Some too_long
unfolding raw_fault
raw_fault-long bytes long =
    last_false (nat_eq (length bytes % 512) 0) (nat_le 4096 (length bytes)) (nat_le (length bytes) 33554432) too_long (lt-leb (length bytes) 33554432 (omega arith))
