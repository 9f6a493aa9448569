use Rattle.std.proofs.Common.{◌≡◌, ◌≤◌, ◌<◌, sym, ap, length, slice_index, [], ℕ, ◌^◌, arith, List, subst}
use Rattle.std.proofs.lemmas.Result.{IfOk-weaker}
use Rattle.lfs_check.specs.Walks.{walk}
use Rattle.lfs_check.proofs.Walking.{walk-below, walk-few}
use Rattle.lfs_check.proofs.survey.walk_file.Goals as goal

pub returns-clause-below : goal.returns-clause-below
returns-clause-below c =
    let P : List ℕ → Type 0 = λ xs. (j : ℕ) → j < length xs → slice_index xs j < length c.args.fields.now.indexes.now in
    IfOk-weaker c.walk_chain.result (λ w. w.met.items ≡ walk c.args.fields.now.nexts.now 0 c.indexes_on.result c.indexes_needed.result [] c.args.entry.now.first) (λ w. P w.met.items)
    (λ w e. subst P (sym e) (λ j h. (let b = walk-below c.args.fields.now.nexts.now 0 c.indexes_on.result c.indexes_needed.result c.args.entry.now.first j h in let n = c.indexes_on.ensures in let m = c.args.fields.now.count in omega (arith, b, n, m)))) c.walk_chain.ensures.met

pub returns-clause-few : goal.returns-clause-few
returns-clause-few c =
    IfOk-weaker c.walk_chain.result (λ w. w.met.items ≡ walk c.args.fields.now.nexts.now 0 c.indexes_on.result c.indexes_needed.result [] c.args.entry.now.first) (λ w. length w.met.items ≤ 2 ^ 20)
    (λ w e. (let b = walk-few c.args.fields.now.nexts.now 0 c.indexes_on.result c.indexes_needed.result c.args.entry.now.first in let n = c.indexes_needed.ensures.small in let m = ap length e in omega (arith, b, n, m))) c.walk_chain.ensures.met
