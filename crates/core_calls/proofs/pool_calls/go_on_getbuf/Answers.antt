use Rattle.std.proofs.Common.{◌<◌, length, subst, sym}
use Rattle.xinu_model.specs.Machine.{CallState}
use Rattle.xinu_model.specs.Pools.Buffers.{pool_at}
use Rattle.core_calls.proofs.PoolCalls.{buffer_is_free}
use Rattle.kernel_state.proofs.Values.{call_is}
use Rattle.core_calls.proofs.pool_calls.go_on_getbuf.Goals as goal

pub take_buffer-requires-clause-free : goal.take_buffer-requires-clause-free
take_buffer-requires-clause-free c =
    let P : CallState → Type 0 = λ d. 0 < length (pool_at d.state.parts.pools c.args.i).free in
    subst P (sym (call_is c.k.view_is)) (buffer_is_free c.args.k.now.call.state c.args.i c.requires.sound c.requires.pools c.requires.waits)
