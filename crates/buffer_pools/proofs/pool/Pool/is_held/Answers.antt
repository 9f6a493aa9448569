use Rattle.std.proofs.Common.{rules, ◌≡◌, ◌==◌, true, sym, ap, subst, ◌∙◌, arith}
use Rattle.std.specs.List.{list_any}
use Rattle.xinu_model.specs.Pools.Buffers.{BufferPool, buffers, is_held, is_in}
use Rattle.buffer_pools.specs.Buffers.{HasBuffers}
use Rattle.buffer_pools.proofs.Free.{any_is_in, some_held}
use Rattle.buffer_pools.proofs.pool.Pool.is_held.Goals as goal

pub returns-then-is_buffer : goal.returns-then-is_buffer
returns-then-is_buffer c =
    let a = c.args.a in
    let pool = c.args.self.now in
    let items = c.self.inside.free.items in
    let free : c.contains.result ≡ is_in a pool.free =
    c.contains.ensures.value ∙ ap (list_any (λ b. b == a)) c.deref.ensures.value ∙ any_is_in a items
    ∙ ap (λ (p : BufferPool). is_in a p.free) c.self.view_is in
    let buffer : true ≡ is_in a (buffers pool) = sym c.if-is_buffer.true ∙ c.is_buffer.ensures.buffer in
    record {
      held = rw (free, ← buffer) (search rules);
      few = rw free (λ e.
          let held : is_held a pool ≡ true = rw (← buffer) (grind (arith, e)) in
          let fewer = some_held pool a (subst HasBuffers c.self.view_is c.self.invariant.buffers) held in
          let most = c.self.invariant.placed.number in
          let same = ap (λ (p : BufferPool). p.number) c.self.view_is in
          omega arith);
    }
