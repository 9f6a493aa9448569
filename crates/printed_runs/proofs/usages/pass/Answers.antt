-- One semaphore more.
use Rattle.std.proofs.Common.{◌≡◌, ◌∙◌, ◌+◌, ◌++◌, suc, ap, arith, map, take, drop}
use Rattle.std.specs.Prelude.{slice_index_or, slice_set}
use Rattle.printed_runs.proofs.Known.{not_yet, one_more}
use Rattle.printed_runs.specs.Semaphores.{passed}
use Rattle.printed_runs.proofs.usages.pass.Goals as goal

pub loop-number-preserved : goal.loop-number-preserved
loop-number-preserved c =
    let f = passed c.args.process in
    let xs = c.args.all.now in
    let i = c.loop-number.number in
    let d = c.index-all-number.result in
    let read : slice_index_or c.loop-number.all i d ≡ slice_index_or xs i d =
    ap (λ x. slice_index_or x i d) c.loop-number.invariant ∙ not_yet f xs i d in
    ap (λ x. slice_set x i c.passed.result) c.loop-number.invariant
    ∙ ap (λ v. slice_set (map f (take i xs) ++ drop i xs) i v) (c.passed.ensures ∙ ap f read)
    ∙ one_more f xs i d
    ∙ ap (λ k. map f (take k xs) ++ drop k xs) (let z : suc i ≡ i + 1 = omega arith in z)
