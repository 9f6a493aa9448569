use Rattle.xinu_examples.proofs.Computed.Calls.{prints_buffer_pool, prints_all_pools, prints_pool_refusals, prints_pool_given_back, shows_buffer_pool_pools}
use Rattle.xinu_examples.proofs.systems.pools.Goals as goal

pub returns : goal.returns
returns c = record {
  buffer_pool = prints_buffer_pool;
  all_pools = prints_all_pools;
  pool_refusals = prints_pool_refusals;
  pool_given_back = prints_pool_given_back;
  buffer_pool_pools = shows_buffer_pool_pools;
}
