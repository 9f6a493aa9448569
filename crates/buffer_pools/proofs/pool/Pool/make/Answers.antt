use Rattle.std.proofs.Common.{List, ℕ, sym, subst, arith}
use Rattle.xinu_model.specs.Pools.Buffers.{new_pool}
use Rattle.buffer_pools.specs.Buffers.{HasBuffers}
use Rattle.buffer_pools.proofs.Free.{has_all}
use Rattle.buffer_pools.proofs.pool.Pool.make.Goals as goal

pub invariant_of-self : goal.invariant_of-self
invariant_of-self c =
    let a = c.args in
    let Has : List ℕ → Type 0 = λ l. HasBuffers (record (new_pool a.base a.size a.number a.semaphore) { free = l }) in
    record {
      room = (let r = c.self.invariant.room in let k = c.fill.ensures.capacity in omega arith);
      placed = record {
        size = c.requires.size;
        number = c.requires.number;
        in_ram = c.requires.in_ram;
        base_aligned = c.requires.base_aligned;
        size_aligned = c.requires.size_aligned;
      };
      buffers = subst Has (sym c.fill.ensures.free) (has_all a.base a.size a.number a.semaphore);
    }
