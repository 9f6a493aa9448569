use Rattle.std.proofs.Common.{◌≢◌, ◌<◌, ◌∙◌, ap, sym, length, arith, false}
use Rattle.std.specs.Prelude.{slice_index_or}
use Rattle.xinu_model.specs.Heap.Cells as model
use Rattle.reference_calls.proofs.HeapCells.{begins_next, begins_other}
use Rattle.reference_calls.proofs.cells.are_taken.Goals as goal

pub returns-then-rest-i : goal.returns-then-rest-i
returns-then-rest-i c =
    let rest = c.split_at.result.1.now in
    let h : c.loop-i.i < length rest = omega (arith, c.split_at.ensures.back_len, c.requires.within) in
    let ne : slice_index_or rest c.loop-i.i false ≢ false = λ e. absurd (let f = c.if-rest-i.true in cc) in
    record {
      taken = sym (begins_other false false c.args.k c.loop-i.i rest c.loop-i-test.true h ne) ∙ c.loop-i.invariant
          ∙ ap (model.begins_with false c.args.k) c.split_at.ensures.back;
    }

pub loop-i-preserved : goal.loop-i-preserved
loop-i-preserved c =
    let rest = c.split_at.result.1.now in
    let h : c.loop-i.i < length rest = omega (arith, c.split_at.ensures.back_len, c.requires.within) in
    sym (begins_next false false c.args.k c.loop-i.i rest c.loop-i-test.true h c.if-rest-i.false) ∙ c.loop-i.invariant
