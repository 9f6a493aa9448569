use Rattle.std.proofs.Common.{◌≡◌, ℕ, ◌+◌, ◌*◌, ◌<◌, Bool, cond, not, rules, arith}
use Rattle.xinu_model.specs.Pools.Buffers.{is_in}
use Rattle.reference_boot.proofs.BufferCounts.{one_address}
use Rattle.reference_boot.proofs.dump.pools.held_in.Goals as goal

pub loop-i-preserved : goal.loop-i-preserved
loop-i-preserved c =
    let p = c.args.pool.now in
    let test : ℕ → Bool = λ a. not (is_in a p.free) in
    let i = c.loop-i.i in
    let within : i < p.number = search rules in
    let next = one_address test (p.base + 4) (p.size + 4) p.number i within in
    let one : c.one_if_held-held.result ≡ cond (test (p.base + 4 + i * (p.size + 4))) 1 0 = c.one_if_held-held.ensures.one in
    (omega (arith, c.one_if_held-held.ensures.most), omega (arith, next, one, c.loop-i.invariant.1))
