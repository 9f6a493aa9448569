use Rattle.xinu_model.specs.Pools.Buffers.{with_free}
use Rattle.buffer_pools.proofs.Numbers.{set_made}
use Rattle.buffer_pools.proofs.pools.Pools.give.Goals as goal

pub returns : goal.returns
returns c =
    let p = c.self.inside in
    record {
      pools = set_made p.made c.args.i c.index.result p.pools.items c.args.self.now c.index_mut-pool.result.now c.give.new.self
          (with_free c.args.a)
          c.self.view_is c.requires.made c.index.ensures.index c.index_mut-pool.ensures.value c.give.ensures.pool;
    }
