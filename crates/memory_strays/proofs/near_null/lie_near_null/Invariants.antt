-- Those that are left decide.
use Rattle.std.proofs.Common.{◌≡◌, drop, map}
use Rattle.memory_strays.specs.NearNull.{lie_near_null}
use Rattle.memory_strays.proofs.near_null.lie_near_null.Given as goal

abbrev pub invariant-loop-file : goal.invariant-loop-file
invariant-loop-file l = lie_near_null (map (λ v. v.items) (drop l.file-index l.files)) ≡ lie_near_null (map (λ v. v.items) l.files)
