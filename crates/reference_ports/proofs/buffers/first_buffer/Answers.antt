use Rattle.std.proofs.Common.{◌<◌, length, rules, sym, subst}
use Rattle.xinu_model.specs.Pools.Buffers.{BufferPool}
use Rattle.reference_ports.specs.FreeBuffers.{HasOwnFree}
use Rattle.reference_ports.proofs.Places.{first_within}
use Rattle.reference_ports.proofs.buffers.first_buffer.Goals as goal

pub returns-clause-within : goal.returns-clause-within
returns-clause-within c =
    let p = c.pool.inside in
    let pool : BufferPool =
    record { base = p.base; size = p.size; number = p.number; semaphore = p.semaphore; free = p.free.items } in
    let own = subst HasOwnFree (sym c.pool.view_is) c.requires.own in
    let some : 0 < length p.free.items = search rules in
    first_within c.index.result.now pool c.pool.invariant own.own some c.index.ensures
