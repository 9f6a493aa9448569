-- The buffer is none of those so far.
use Rattle.std.proofs.Common.{◌≡◌, drop, length}
use Rattle.xinu_model.specs.Pools.Buffers.{is_in, pool_at}
use Rattle.refusal_reasons.proofs.pool_causes.is_free_in.Given as goal

abbrev pub invariant-loop-place : goal.invariant-loop-place
invariant-loop-place l =
    let free = (pool_at l.pools l.i).free in
    record {
      end : l.place-end ≡ length free;
      so_far : is_in l.a free ≡ is_in l.a (drop l.place free);
    }
