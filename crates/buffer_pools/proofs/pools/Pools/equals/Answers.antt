use Rattle.std.proofs.Common.{length, ap, sym, ◌∙◌, arith}
use Rattle.std.proofs.lemmas.Bool.{eq-eqb, eqb-true}
use Rattle.std.proofs.lemmas.List.{length-take}
use Rattle.buffer_pools.proofs.pools.Pools.equals.Goals as goal

pub returns-else-self-other : goal.returns-else-self-other
returns-else-self-other c =
    let p = c.self.inside in
    let o = c.other.inside in
    record {
      equal = (
        λ t. absurd (c.if-self-other.false (eqb-true p.made o.made t)),
        λ e.
            let lengths = ap length (c.self.view_is ∙ e ∙ sym c.other.view_is) in
            let own = length-take p.made p.pools.items in
            let others = length-take o.made o.pools.items in
            let entries = c.self.invariant.entries in
            let rest = c.other.invariant.entries in
            let most = c.self.invariant.made in
            let bound = c.other.invariant.made in
            eq-eqb p.made o.made (omega arith),
      );
    }
