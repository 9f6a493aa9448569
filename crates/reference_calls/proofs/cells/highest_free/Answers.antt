use Rattle.std.proofs.Common.{◌≡◌, ◌+◌, ◌-◌, ◌∙◌, ap, sym, arith, drop, false, true}
use Rattle.std.proofs.lemmas.List.{length-drop}
use Rattle.xinu_model.specs.Heap.Cells as model
use Rattle.reference_calls.proofs.HeapCells.{begins_within, free_enough, free_in_front, free_in_front-within, free_too_few, front_free, front_taken, highest_here, highest_next, highest_nowhere}
use Rattle.reference_calls.proofs.cells.highest_free.Goals as goal
use Rattle.reference_calls.proofs.cells.highest_free.Goals.{then-cells-i, else-cells-i}

pub returns-then-k-cells-clause-highest : goal.returns-then-k-cells-clause-highest
returns-then-k-cells-clause-highest c = sym (highest_nowhere c.args.k c.args.cells.now (omega arith))

pub overflow_add-free : goal.overflow_add-free
overflow_add-free c =
    let most = free_in_front-within (drop c.loop-i.i c.args.cells.now) in
    let size = length-drop c.loop-i.i c.args.cells.now in
    omega (arith, c.loop-i.invariant.free, most, size)

-- so many free cells begin one cell before
counted : (c : goal.Then-free-k) → c.if-cells-i.free ≡ free_in_front (drop (c.loop-i.i - 1) c.args.cells.now)
counted c = elim c.if-cells-i.branch [
  | then-cells-i w ↦ w.free-is
      ∙ front_free c.loop-i.i c.loop-i.free false c.args.cells.now c.loop-i-test.true c.loop-i.auto.i c.loop-i.invariant.free w.if-cells-i.true
  | else-cells-i w ↦ w.free-is ∙ front_taken c.loop-i.i false c.args.cells.now c.loop-i-test.true c.loop-i.auto.i w.if-cells-i.false
]

begins : (c : goal.Then-free-k) → model.begins_with true c.args.k (drop (c.loop-i.i - 1) c.args.cells.now) ≡ true
begins c = free_enough c.args.k (drop (c.loop-i.i - 1) c.args.cells.now) (omega (arith, counted c, c.if-free-k.true))

pub returns-then-free-k-clause-highest : goal.returns-then-free-k-clause-highest
returns-then-free-k-clause-highest c =
    let i = c.loop-i.i - 1 in
    let next : i + 1 ≡ c.loop-i.i = omega arith in
    sym (highest_here c.args.k i c.args.cells.now (omega arith)
    (ap (λ n. model.highest_free c.args.k (drop n c.args.cells.now)) next ∙ c.loop-i.invariant.none) (begins c))

pub returns-then-free-k-clause-within : goal.returns-then-free-k-clause-within
returns-then-free-k-clause-within c = begins_within true c.args.k (c.loop-i.i - 1) c.args.cells.now (omega arith) (begins c)

pub loop-i-preserved : goal.loop-i-preserved
loop-i-preserved c =
    let i = c.loop-i.i - 1 in
    let cells = c.args.cells.now in
    let next : i + 1 ≡ c.loop-i.i = omega arith in
    let counts : c.if-cells-i.free ≡ free_in_front (drop i cells) = elim c.if-cells-i.branch [
      | then-cells-i w ↦ w.free-is
          ∙ front_free c.loop-i.i c.loop-i.free false cells c.loop-i-test.true c.loop-i.auto.i c.loop-i.invariant.free w.if-cells-i.true
      | else-cells-i w ↦ w.free-is ∙ front_taken c.loop-i.i false cells c.loop-i-test.true c.loop-i.auto.i w.if-cells-i.false
    ] in
    record {
      free = counts;
      none = highest_next c.args.k i cells (omega arith) (ap (λ n. model.highest_free c.args.k (drop n cells)) next ∙ c.loop-i.invariant.none)
          (free_too_few c.args.k (drop i cells) (omega (arith, counts, c.if-free-k.false)));
    }
