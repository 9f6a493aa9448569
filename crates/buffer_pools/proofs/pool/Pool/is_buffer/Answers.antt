use Rattle.std.proofs.Common.{◌+◌, sym, ap, ◌∙◌, arith}
use Rattle.std.proofs.lemmas.Bool.{ne_eqb}
use Rattle.xinu_model.specs.Pools.Buffers.{buffers, is_in}
use Rattle.table_laws.proofs.Places.{below_is_out, part_of_step, whole_steps}
use Rattle.buffer_pools.proofs.pool.Pool.is_buffer.Goals as goal

pub returns-then-a-first : goal.returns-then-a-first
returns-then-a-first c = let p = c.self.inside in let below = c.if-a-first.true in record {
  buffer = sym (below_is_out c.args.a (p.base + 4) (p.size + 4) p.number (omega arith))
      ∙ ap (λ x. is_in c.args.a (buffers x)) c.self.view_is;
}

pub returns-then-offset-step-eq0 : goal.returns-then-offset-step-eq0
returns-then-offset-step-eq0 c = let p = c.self.inside in let above = c.if-a-first.false in record {
  buffer = whole_steps c.args.a (p.base + 4) (p.size + 4) p.number _ (omega arith) (omega arith) c.if-offset-step-eq0.true
      ∙ ap (λ x. is_in c.args.a (buffers x)) c.self.view_is;
}

pub returns-else-offset-step-eq0 : goal.returns-else-offset-step-eq0
returns-else-offset-step-eq0 c = let p = c.self.inside in let above = c.if-a-first.false in record {
  buffer = ne_eqb _ 0 c.if-offset-step-eq0.false
      ∙ sym (part_of_step c.args.a (p.base + 4) (p.size + 4) p.number _ (omega arith) c.if-offset-step-eq0.false)
      ∙ ap (λ x. is_in c.args.a (buffers x)) c.self.view_is;
}
