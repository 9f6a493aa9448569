use Rattle.std.proofs.Common.{◌≡◌, ◌-◌, ◌++◌, ◌∷◌, [], cond, length, reverse, ap, ◌∙◌, arith, length-append}
use Rattle.std.specs.Result.{is_ok}
use Rattle.buffer_pools.proofs.Free.{one_more, step_less}
use Rattle.buffer_pools.proofs.pool.fill.Goals as goal

pub loop-left-preserved : goal.loop-left-preserved
loop-left-preserved c =
    let i = c.loop-left.invariant in
    let next = c.loop-left.next in
    let left = c.loop-left.left in
    let old = c.loop-left.free.items in
    let less = step_less left c.args.step (omega arith) in
    let at = i.next in
    let within = i.within in
    let count = i.count in
    let capacity = i.capacity in
    let kept = c.push.ensures.capacity in
    let items : c.push.new.self.items ≡ old ++ (next - c.args.step) ∷ [] =
    c.push.ensures.items ∙ ap (λ r. cond (is_ok r) (old ++ (next - c.args.step) ∷ []) old) c.unwrap.ensures in
    record {
      next = omega arith;
      within = omega arith;
      count = (let e = ap length items ∙ length-append old ((next - c.args.step) ∷ []) in omega arith);
      free = ap reverse items ∙ one_more old next c.args.step left c.args.number (omega arith) within (omega arith) i.free;
      capacity = omega arith;
    }
