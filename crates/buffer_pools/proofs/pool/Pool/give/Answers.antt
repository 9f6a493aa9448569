use Rattle.std.proofs.Common.{◌≡◌, ◌++◌, ◌∷◌, [], List, ℕ, cond, reverse, true, sym, ap, subst, ◌∙◌, arith}
use Rattle.std.specs.Result.{is_ok}
use Rattle.std.proofs.lemmas.List.{length-reverse}
use Rattle.xinu_model.specs.Pools.Buffers.{is_held}
use Rattle.buffer_pools.specs.Buffers.{HasBuffers, pool_of}
use Rattle.buffer_pools.proofs.Free.{has_put_back, last_first, some_held}
use Rattle.buffer_pools.proofs.Places.{placed_with}
use Rattle.buffer_pools.proofs.pool.Pool.give.Goals as goal

held : (c : goal.After-push) → is_held c.args.a (pool_of c.self.inside) ≡ true
held c = subst (λ p. is_held c.args.a p ≡ true) (sym c.self.view_is) c.requires.held

pub unwrap-requires : goal.unwrap-requires
unwrap-requires c =
    let few = some_held (pool_of c.self.inside) c.args.a c.self.invariant.buffers (held c) in
    let len = length-reverse c.self.inside.free.items in
    let most = c.self.invariant.placed.number in
    let room = c.self.invariant.room in
    c.push.ensures.succeeds (omega arith)

pub invariant_of-self : goal.invariant_of-self
invariant_of-self c =
    let p = c.self.inside in
    let held : is_held c.args.a (pool_of p) ≡ true = subst (λ p. is_held c.args.a p ≡ true) (sym c.self.view_is) c.requires.held in
    let items : c.push.new.self.items ≡ p.free.items ++ c.args.a ∷ [] =
    c.push.ensures.items ∙ ap (λ r. cond (is_ok r) (p.free.items ++ c.args.a ∷ []) p.free.items) c.unwrap.ensures in
    let Has : List ℕ → Type 0 = λ l. HasBuffers (record (pool_of p) { free = l }) in
    record {
      room = (let r = c.self.invariant.room in let k = c.push.ensures.capacity in omega arith);
      placed = placed_with (pool_of c.self.inside) (reverse c.push.new.self.items) c.self.invariant.placed;
      buffers = subst Has (sym (last_first p.free.items c.push.new.self.items c.args.a items))
          (has_put_back (pool_of p) c.args.a c.self.invariant.buffers held);
    }
