use Rattle.std.proofs.Common.{◌≡◌, ◌↔◌, IsTrue, rules, sym, ◌∙◌}
use Rattle.std.proofs.lemmas.Bool.{eq-eqb, eqb-true}
use Rattle.std.proofs.lemmas.Slice.Eq.{slice_eq-Decides}
use Rattle.freelist_memory.proofs.Same.{same_blocks, same_last}
use Rattle.freelist_memory.proofs.list.FreeList.equals.Goals as goal

pub returns-then-self-other : goal.returns-then-self-other
returns-then-self-other c =
    let l = c.self.inside in
    let o = c.other.inside in
    let same : IsTrue c.eq.result ↔ (c.as_slice.result.now ≡ c.as_slice-then-self-other.result.now) =
    slice_eq-Decides (λ a b. search rules) _ _ _ c.eq.ensures in
    record {
      equal = (
        λ t. let blocks = same.0 t in cc,
        λ e.
            let cells = c.self.view_is ∙ e ∙ sym c.other.view_is in
            let blocks =
            same_blocks l.blocks.items o.blocks.items l.cells o.cells c.self.invariant.blocks c.other.invariant.blocks cells in
            same.1 (cc),
      );
    }

pub returns-else-self-other : goal.returns-else-self-other
returns-else-self-other c =
    let l = c.self.inside in
    let o = c.other.inside in
    record {
      equal = (
        λ t. absurd (c.if-self-other.false (eqb-true l.cells o.cells t)),
        λ e.
            let cells = c.self.view_is ∙ e ∙ sym c.other.view_is in
            eq-eqb l.cells o.cells
            (same_last l.blocks.items o.blocks.items l.cells o.cells c.self.invariant.blocks c.other.invariant.blocks cells),
      );
    }
