use Rattle.std.proofs.Common.{drop}
use Rattle.xinu_model.specs.Pools.Buffers.{BufferPool}
use Rattle.buffer_pools.proofs.Numbers.{has_free_made, set_made}
use Rattle.buffer_pools.proofs.pools.Pools.get_part.Goals as goal

pub returns-clause-pools : goal.returns-clause-pools
returns-clause-pools c =
    let p = c.self.inside in
    let taken = λ (x : BufferPool). record x { free = drop 1 x.free } in
    set_made p.made c.args.i c.index.result p.pools.items c.args.self.now c.index_mut-pool.result.now c.take.new.self taken c.self.view_is
    (has_free_made c.args.i c.args.self.now c.requires.free) c.index.ensures.index c.index_mut-pool.ensures.value c.take.ensures.pool
