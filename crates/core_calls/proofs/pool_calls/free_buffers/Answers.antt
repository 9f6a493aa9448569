use Rattle.std.proofs.Common.{◌∙◌, ◌+◌, ◌∷◌, add-one, drop, drop-cons, get_or, sym, ap, subst}
use Rattle.xinu_model.specs.Machine.{CallState}
use Rattle.xinu_model.specs.Ports.Calls.{freed_buffers}
use Rattle.xinu_model.specs.Sound.Pools.{ArePools}
use Rattle.xinu_model.specs.Sound.Tables.{IsSoundTables}
use Rattle.core_calls.proofs.Disposals.{freed_keeps}
use Rattle.core_calls.proofs.pool_calls.free_buffers.Goals as goal

pub loop-a-preserved : goal.loop-a-preserved
loop-a-preserved c =
    let d = c.loop-a.k.call in
    let i = c.loop-a.invariant in
    let all = c.args.addresses.now in
    let a = get_or all c.loop-a.a-index 0 in
    let k = freed_keeps a d i.0 i.1 in
    let left = drop-cons all c.loop-a.a-index 0 c.loop-a-test.true ∙ ap (λ n. a ∷ drop n all) (sym (add-one c.loop-a.a-index)) in
    let is = sym c.free_buffer.ensures.freed in
    let S : CallState → Type 0 = λ e. IsSoundTables e.state.tables in
    let P : CallState → Type 0 = λ e. ArePools e.state.tables e.state.parts.pools in (
      subst S is k.tables,
      subst P is k.pools,
      ap (freed_buffers (drop (c.loop-a.a-index + 1) all)) c.free_buffer.ensures.freed
          ∙ sym (ap (λ l. freed_buffers l d) left) ∙ i.2,
      c.free_buffer.ensures.image ∙ i.3,
    )
