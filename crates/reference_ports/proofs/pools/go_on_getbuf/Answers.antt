use Rattle.std.proofs.Common.{sym, subst}
use Rattle.xinu_model.specs.Machine.{CallState}
use Rattle.xinu_model.specs.Pools.Buffers.{pool_at}
use Rattle.reference_ports.specs.FreeBuffers.{HasOwnFree}
use Rattle.reference_ports.proofs.FreeRoom.{own_free}
use Rattle.reference_ports.proofs.pools.go_on_getbuf.Goals as goal

pub take_buffer-requires-clause-own : goal.take_buffer-requires-clause-own
take_buffer-requires-clause-own c =
    let s = c.args.m.now.state in
    subst (λ (d : CallState). HasOwnFree (pool_at d.state.parts.pools c.args.i)) (sym c.in_ok-goes_on.ensures.goes_on)
    (own_free s.tables s.parts.pools c.args.i c.requires.pools)
