-- The blocks of a raw disk are whole.
use Rattle.std.proofs.Common.{◌≡◌, ℕ, zero, suc, ◌*◌, ◌/◌, ◌≤◌, List, length, drop, arith, length-drop}
use Rattle.std.specs.List.{AllByRecursion}
use Rattle.std.specs.Simd.{first_chunks}
use Rattle.std.proofs.Math.Nat.{mul-suc}
use Rattle.std.proofs.lemmas.List.{length-take-le}
use Rattle.lfs_layout.specs.Images.{blocks_of}

-- chunks of n elements have n elements
whole_chunks : (n k : ℕ) (xs : List ℕ) → n * k ≤ length xs → AllByRecursion (λ (b : List ℕ). length b ≡ n) (first_chunks n k xs)
whole_chunks n zero xs room = tt
whole_chunks n (suc k) xs room =
    let m = mul-suc n k in
    let here : n ≤ length xs = omega (arith, m, room) in
    let rest : n * k ≤ length (drop n xs) = omega (arith, m, room, length-drop n xs) in
    (length-take-le n xs here, whole_chunks n k (drop n xs) rest)

-- whatever the length, no block reaches past the end
pub whole_blocks : (bytes : List ℕ) → AllByRecursion (λ (b : List ℕ). length b ≡ 512) (blocks_of bytes)
whole_blocks bytes = whole_chunks 512 (length bytes / 512) bytes (omega arith)
