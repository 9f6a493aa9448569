use Rattle.std.proofs.Common.{ap, ◌∙◌, drop}
use Rattle.schedule_file.proofs.Skipped.{drop_copies}
use Rattle.schedule_file.specs.Repeats.{to_come}
use Rattle.schedule_file.proofs.schedules.Schedule.skip.Goals as goal

pub returns-then-count-self : goal.returns-then-count-self
returns-then-count-self c =
    let s = c.self.inside in
    let few = c.if-count-self.true in
    record { skips = drop_copies c.args.count s.left s.event (to_come s.repeats.items s.at s.taken) few ∙ ap (drop c.args.count) c.self.view_is }
