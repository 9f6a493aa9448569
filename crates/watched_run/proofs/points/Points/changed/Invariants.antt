-- The watches so far were looked at.
use Rattle.std.proofs.Common.{◌≡◌, take}
use Rattle.watched_run.proofs.Changes.{changed_below}
use Rattle.watched_run.specs.Watching.{first_other, seen}
use Rattle.watched_run.proofs.points.Points.changed.Given as goal

abbrev pub invariant-loop-watch : goal.invariant-loop-watch
invariant-loop-watch l = record {
  found : l.found ≡ first_other l.ram (take l.watch-index l.fn.self.watches.items);
  looked : l.watch-items ≡ changed_below (seen l.ram) l.watch-index l.fn.self.watches.items;
}
