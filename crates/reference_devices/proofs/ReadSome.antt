-- A read of some bytes.
use Rattle.std.proofs.Common.{◌≡◌, ℕ, zero, suc, ◌<◌, pos, refl, arith}
use Rattle.xinu_model.specs.Console.Taking.{console_read, read_range}
use Rattle.xinu_model.specs.Machine.{Xinu}

pub read_some : (at n : ℕ) (s : Xinu) → 0 < n → read_range at n s ≡ console_read at (pos n) s
read_some at zero s h = absurd (omega (arith, h))
read_some at (suc n) s h = refl
