use Rattle.schedule_file.proofs.Skipped.{drop_next, drop_one_more}
use Rattle.schedule_file.proofs.schedules.Schedule.skip_each.Goals as goal

pub loop-preserved : goal.loop-preserved
loop-preserved c =
    let one = drop_next c.next_event.result c.loop.self c.next_event.new.self c.next_event.ensures.next in
    drop_one_more c.loop.counter c.args.count c.args.self.now c.loop.self c.next_event.new.self c.loop-test.true one c.loop.invariant
