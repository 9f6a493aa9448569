-- The held buffers so far and those that are left are all.
use Rattle.std.proofs.Common.{◌≡◌, ◌≤◌, ◌+◌, ◌-◌, ◌*◌, length, not}
use Rattle.std.specs.List.{filter}
use Rattle.xinu_model.specs.Pools.Buffers.{addresses, held_in, is_in}
use Rattle.reference_boot.proofs.dump.pools.held_in.Given as goal

abbrev pub invariant-loop-i : goal.invariant-loop-i
invariant-loop-i l =
    (l.held ≤ l.i)
    × (l.held + length (filter (λ a. not (is_in a l.pool.free))
    (addresses (l.pool.base + 4 + l.i * (l.pool.size + 4)) (l.pool.size + 4) (l.pool.number - l.i)))
    ≡ held_in l.pool)
