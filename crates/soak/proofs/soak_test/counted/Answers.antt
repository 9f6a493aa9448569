use Rattle.std.proofs.Common.{List, subst}
use Rattle.std.specs.String.{string_bytes}
use Rattle.soak.proofs.Whole.{all_counted}
use Rattle.soak.specs.Counting.{CountsEvents}
use Rattle.xinu_base.specs.declared.events.Event.{Event}
use Rattle.soak.proofs.soak_test.counted.Goals as goal

pub returns : goal.returns
returns c =
    let taken = c.in_ok-taken.taken in
    let end = c.in_ok-taken.end in
    let start = c.args.machine.now.state in
    let last = c.take_events.new.machine.state in
    let first = c.count_start.new.tally.counts in
    let most = c.take_events.new.tally.counts in
    let P : List Event → Type 0 = λ l. CountsEvents taken start l last end first most in
    let run = subst P c.requires.events c.in_ok-taken.ensures.taken in
    record {
      soaks = all_counted c.args.seed taken start last end c.new-tally.result.counts first most c.count_tables.new.tally.counts c.count_end.new.tally.counts (string_bytes c.in_ok-summary.summary)
          c.new-tally.ensures.counts c.in_ok-count_start.ensures.counts run c.in_ok-count_tables.ensures.counts c.count_end.ensures.counts c.in_ok-summary.ensures.line;
    }
