use Rattle.std.proofs.Common.{◌≡◌, ap, sym, length, rules, arith}
use Rattle.std.specs.Prelude.{unwrap_or}
use Rattle.reference_calls.proofs.HeapCells.{freed_beyond}
use Rattle.reference_calls.proofs.heap.give.Goals as goal

pub returns-then-start-k-clause-given : goal.returns-then-start-k-clause-given
returns-then-start-k-clause-given c =
    let v : length c.args.h.now.cells ≡ length c.h.inside.cells.items = search rules in
    freed_beyond c.args.h.now c.args.k c.args.start c.requires.some (omega (arith, v))

pub returns-then-start-k-clause-stays : goal.returns-then-start-k-clause-stays
returns-then-start-k-clause-stays c =
    let v : length c.args.h.now.cells ≡ length c.h.inside.cells.items = search rules in
    ap (λ o. unwrap_or o c.args.h.now) (sym (freed_beyond c.args.h.now c.args.k c.args.start c.requires.some (omega (arith, v))))
