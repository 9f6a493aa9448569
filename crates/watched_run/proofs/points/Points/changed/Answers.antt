use Rattle.std.proofs.Common.{◌≡◌, ◌∙◌, ◌<◌, ap, length, arith, rules}
use Rattle.std.specs.Prelude.{slice_index_or, slice_set, take}
use Rattle.watched_run.proofs.Changes.{changed_below, first_other-more_at, one_more_at, unchanged_at}
use Rattle.watched_run.specs.Watching.{first_of, first_other, other_in, seen}
use Rattle.watched_run.proofs.points.Points.changed.Goals as goal

pub loop-watch-preserved : goal.loop-watch-preserved
loop-watch-preserved c =
    let ram = c.args.ram.now in
    let f = seen ram in
    let l = c.args.self.now.watches.items in
    let i = c.loop-watch.watch-index in
    let d = c.watch-item.result in
    let v : c.deref_mut-watch-items.result.now ≡ l = search rules in
    let h : i < length l = omega (arith, ap length v, c.loop-watch-test.true) in
    let e : slice_index_or c.loop-watch.watch-items i d ≡ slice_index_or l i d = ap (λ x. slice_index_or x i d) c.loop-watch.invariant.looked
    ∙ unchanged_at f l i d in
    record {
      found = c.first_of-found.ensures.first
          ∙ ap (λ x. first_of x c.look-other.result) c.loop-watch.invariant.found
          ∙ ap (first_of (first_other ram (take i l))) (c.look-other.ensures.other ∙ ap (other_in ram) e)
          ∙ first_other-more_at ram l i d h;
      looked = ap (λ x. slice_set x i c.look-other.new.self) c.loop-watch.invariant.looked
          ∙ ap (λ x. slice_set (changed_below f i l) i x) (c.look-other.ensures.seen ∙ ap f e) ∙ one_more_at f l i d h;
    }
