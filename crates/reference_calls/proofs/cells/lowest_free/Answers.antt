use Rattle.std.proofs.Common.{◌≡◌, ◌+◌, ◌-◌, ◌∙◌, ap, sym, arith, drop, false, true}
use Rattle.std.proofs.lemmas.List.{length-drop}
use Rattle.std.specs.Prelude.{option_map}
use Rattle.xinu_model.specs.Heap.Cells as model
use Rattle.reference_calls.proofs.HeapCells.{free_goes_on, lowest_goes_on, lowest_nowhere, lowest_there}
use Rattle.reference_calls.proofs.cells.lowest_free.Goals as goal
use Rattle.reference_calls.proofs.cells.lowest_free.Goals.{then-not-cells-i, else-not-cells-i+else-i-start}

pub returns-then-k-cells-clause-lowest : goal.returns-then-k-cells-clause-lowest
returns-then-k-cells-clause-lowest c = sym (lowest_nowhere c.args.k c.args.cells.now (omega arith))

pub returns-then-i-start-clause-lowest : goal.returns-then-i-start-clause-lowest
returns-then-i-start-clause-lowest c =
    let cells = c.args.cells.now in
    let l = c.loop-i in
    let free = free_goes_on l.start l.i false cells l.invariant.before c.loop-i-test.true l.invariant.free c.if-not-cells-i.false in
    let all : model.begins_with true c.args.k (drop l.start cells) ≡ true =
    sym (ap (λ n. model.begins_with true n (drop l.start cells)) c.if-i-start.true) ∙ free in
    sym (lowest_there l.start c.args.k cells c.requires.some all) ∙ l.invariant.found

pub loop-i-preserved : goal.loop-i-preserved
loop-i-preserved c =
    let cells = c.args.cells.now in
    let l = c.loop-i in
    let k = c.args.k in
    elim c.if-not-cells-i.branch [
      | then-not-cells-i w ↦ (
          let none : (l.i + 1) - c.if-not-cells-i.start ≡ 0 = omega (arith, w.start-is) in
          let some = c.requires.some in
          record {
            before = omega (arith, w.start-is);
            fewer = omega (arith, w.start-is, some);
            free = ap (λ n. model.begins_with true n (drop c.if-not-cells-i.start cells)) none;
            found = ap (λ n. option_map (λ j. n + j) (model.lowest_free k (drop n cells))) w.start-is
                ∙ lowest_goes_on l.start l.i k false cells l.invariant.before l.invariant.fewer c.loop-i-test.true w.if-not-cells-i.true
                ∙ l.invariant.found;
          }
          )
      | else-not-cells-i+else-i-start w ↦ (
          let other = w.if-i-start.false in
          record {
            before = omega (arith, w.start-is, l.invariant.before);
            fewer = omega (arith, w.start-is, l.invariant.before, l.invariant.fewer, other);
            free = ap (λ n. model.begins_with true ((l.i + 1) - n) (drop n cells)) w.start-is
                ∙ free_goes_on l.start l.i false cells l.invariant.before c.loop-i-test.true l.invariant.free w.if-not-cells-i.false;
            found = ap (λ n. option_map (λ j. n + j) (model.lowest_free k (drop n cells))) w.start-is ∙ l.invariant.found;
          }
          )
    ]

pub returns-clause-lowest : goal.returns-clause-lowest
returns-clause-lowest c =
    let cells = c.args.cells.now in
    let l = c.loop-i in
    let size = length-drop l.start cells in
    let none = lowest_nowhere c.args.k (drop l.start cells) (omega (arith, size, l.invariant.fewer, l.invariant.before, c.loop-i-test.false)) in
    sym (ap (option_map (λ j. l.start + j)) none) ∙ l.invariant.found
