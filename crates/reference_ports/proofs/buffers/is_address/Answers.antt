use Rattle.std.proofs.Common.{◌∙◌, ◌+◌, ◌-◌, ◌/◌, sym, ap, arith}
use Rattle.std.specs.Prelude.{nat_lt}
use Rattle.std.proofs.lemmas.Bool.{ne_eqb}
use Rattle.xinu_model.specs.Pools.Buffers.{addresses, is_in}
use Rattle.table_laws.proofs.Places.{below_is_out, part_of_step, whole_steps}
use Rattle.reference_ports.proofs.buffers.is_address.Goals as goal

pub returns-then-at-first : goal.returns-then-at-first
returns-then-at-first c =
    let below = c.if-at-first.true in
    let at = c.from-at.ensures in
    let first = c.from-first.ensures in
    record { address = sym (below_is_out c.args.a (c.args.base + 4) (c.args.size + 4) c.args.number (omega (arith, below, at, first))) }

pub returns-then-offset-step-eq0 : goal.returns-then-offset-step-eq0
returns-then-offset-step-eq0 c =
    let above = c.if-at-first.false in
    let at = c.from-at.ensures in
    let first = c.from-first.ensures in
    let step = c.from-step.result + 4 in
    let offset = c.from-at.result - (c.from-first.result + 4) in
    record {
      address = ap (λ n. nat_lt (offset / step) n) c.from.ensures
          ∙ whole_steps c.args.a (c.args.base + 4) step c.args.number offset (omega arith) (omega (arith, above, at, first)) c.if-offset-step-eq0.true
          ∙ ap (λ k. is_in c.args.a (addresses (c.args.base + 4) (k + 4) c.args.number)) c.from-step.ensures;
    }

pub returns-else-offset-step-eq0 : goal.returns-else-offset-step-eq0
returns-else-offset-step-eq0 c =
    let above = c.if-at-first.false in
    let at = c.from-at.ensures in
    let first = c.from-first.ensures in
    let step = c.from-step.result + 4 in
    let offset = c.from-at.result - (c.from-first.result + 4) in
    record {
      address = ne_eqb _ 0 c.if-offset-step-eq0.false
          ∙ sym (part_of_step c.args.a (c.args.base + 4) step c.args.number offset (omega (arith, above, at, first)) c.if-offset-step-eq0.false)
          ∙ ap (λ k. is_in c.args.a (addresses (c.args.base + 4) (k + 4) c.args.number)) c.from-step.ensures;
    }
