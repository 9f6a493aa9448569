use Rattle.std.proofs.Common.{◌∙◌, ◌+◌, ◌-◌, ◌++◌, List, ℕ, ap}
use Rattle.xinu_model.specs.Pools.Buffers.{addresses}
use Rattle.reference_ports.proofs.Places.{next_step, one_more_in}
use Rattle.reference_ports.proofs.buffers.addresses.Goals as goal

pub loop-i-preserved : goal.loop-i-preserved
loop-i-preserved c =
    let next = c.loop-i.next in
    let step = c.args.step in
    let left = c.args.n - (c.loop-i.i + 1) in
    record {
      next = next_step c.args.first step c.loop-i.i next c.loop-i.invariant.next;
      list = ap (λ (l : List ℕ). l ++ addresses (next + step) step left) c.in_ok-push.ensures.pushed
          ∙ one_more_in c.loop-i.list.items next step c.args.n c.loop-i.i c.loop-i-test.true ∙ c.loop-i.invariant.list;
    }
