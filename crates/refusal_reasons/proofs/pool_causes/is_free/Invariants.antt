-- The buffer is free in none of the pools so far.
use Rattle.std.proofs.Common.{◌≡◌, drop, length}
use Rattle.refusal_reasons.specs.Pools.{is_anywhere_free}
use Rattle.refusal_reasons.proofs.pool_causes.is_free.Given as goal

abbrev pub invariant-loop-number : goal.invariant-loop-number
invariant-loop-number l = record {
  end : l.number-end ≡ length l.pools;
  so_far : is_anywhere_free l.a l.pools ≡ is_anywhere_free l.a (drop l.number l.pools);
}
