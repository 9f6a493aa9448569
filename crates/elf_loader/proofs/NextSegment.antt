-- The segments that are left after the first.
use Rattle.std.proofs.Common.{◌≡◌, ◌<◌, ◌+◌, ◌-◌, ◌∷◌, ℕ, zero, suc, List, refl, arith}
use Rattle.elf_loader.specs.ElfHeaders.{segment_at, segments_from}

pub segments_next : (bytes : List ℕ) (at n : ℕ) → 0 < n
    → segments_from bytes at n ≡ segment_at bytes at ∷ segments_from bytes (at + 32) (n - 1)
segments_next bytes at zero some = absurd (omega arith)
segments_next bytes at (suc n) some = (let e : suc n - 1 ≡ n = omega arith in rw e refl)
