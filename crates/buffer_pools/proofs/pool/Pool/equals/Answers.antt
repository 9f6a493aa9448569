use Rattle.std.proofs.Common.{◌≡◌, ◌↔◌, IsTrue, rules, reverse, sym, ap, ◌∙◌}
use Rattle.std.proofs.lemmas.List.{reverse-reverse}
use Rattle.std.proofs.lemmas.Slice.Eq.{slice_eq-Decides}
use Rattle.xinu_model.specs.Pools.Buffers.{BufferPool}
use Rattle.buffer_pools.specs.Buffers.{pool_of}
use Rattle.buffer_pools.proofs.pool.Pool.equals.Goals as goal

pub returns-then-eq : goal.returns-then-eq
returns-then-eq c =
    let p = c.self.inside in
    let o = c.other.inside in
    let same : IsTrue c.eq-then-eq.result ↔ (c.as_slice.result.now ≡ c.as_slice-then-eq.result.now) =
    slice_eq-Decides (λ a b. search rules) _ _ _ c.eq-then-eq.ensures in
    record {
      equal = (
        λ t. let free : p.free.items ≡ o.free.items = sym c.as_slice.ensures.value ∙ same.0 t ∙ c.as_slice-then-eq.ensures.value in search rules,
        λ e.
            let pools : pool_of p ≡ pool_of o = c.self.view_is ∙ e ∙ sym c.other.view_is in
            let free : p.free.items ≡ o.free.items =
            sym (reverse-reverse p.free.items) ∙ ap (λ (x : BufferPool). reverse x.free) pools ∙ reverse-reverse o.free.items in
            same.1 (cc),
      );
    }
