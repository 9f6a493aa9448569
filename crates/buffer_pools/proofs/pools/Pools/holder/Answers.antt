use Rattle.std.proofs.Common.{◌≡◌, true, Some, take, sym, ap, ◌∙◌, arith}
use Rattle.std.proofs.lemmas.List.{length-take}
use Rattle.xinu_model.specs.Pools.Buffers.{holder, is_held, pool_at}
use Rattle.buffer_pools.proofs.Numbers.{holder_here, made_at}
use Rattle.buffer_pools.proofs.pools.Pools.holder.Goals as goal

pub returns-then-is_held-clause-holder : goal.returns-then-is_held-clause-holder
returns-then-is_held-clause-holder c =
    let p = c.self.inside in
    let a = c.args.a in
    let k = c.loop-k.k in
    let made = take p.made p.pools.items in
    let len = length-take p.made p.pools.items in
    let held : is_held a (pool_at made k) ≡ true =
    ap (is_held a) (sym (made_at p.made k p.pools.items c.index-pool.result.now (omega arith) (omega arith) c.index-pool.ensures))
    ∙ sym c.is_held.ensures.held ∙ c.if-is_held.true in
    ap Some c.at.ensures.number ∙ sym (holder_here a k made (omega arith) held) ∙ sym c.loop-k.invariant
    ∙ ap (holder a) c.self.view_is
