use Rattle.event_laws.proofs.Ownership.Pairs.{stacks_share_nothing, pools_share_nothing, stack_and_pool_share_nothing, stack_is_taken, pool_is_taken}
use Rattle.event_laws.proofs.owners.addresses_have_one_owner.Goals as goal

pub returns : goal.returns
returns c = record {
  stacks = stacks_share_nothing;
  pools = pools_share_nothing;
  both = stack_and_pool_share_nothing;
  taken = stack_is_taken;
  kept = pool_is_taken;
}
