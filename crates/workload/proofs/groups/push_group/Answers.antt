-- A group is the loads of its arguments and its call.
use Rattle.std.proofs.Common.{refl}
use Rattle.workload.specs.Shapes.{seen}
use Rattle.workload.proofs.Turns.{group_is, after_group_is}
use Rattle.workload.proofs.groups.push_group.Goals as goal

pub returns-clause-words : goal.returns-clause-words
returns-clause-words c =
    rw (c.in_ok-push-2.ensures.items, c.word_with-2.ensures.word, c.in_ok-push.ensures.items, c.word_with.ensures.word)
    (group_is c.args.place c.args.kinds c.args.draws.now c.draw.result c.draw.new.self (seen c.shape_at-shape.result) _ c.push_loads.new.words.items _ _
    c.draw.ensures.drawn c.draw.ensures.state c.shape_at-shape.ensures.shape c.in_ok-push_loads.ensures.words refl refl)

pub returns-clause-draws : goal.returns-clause-draws
returns-clause-draws c =
    after_group_is c.args.kinds c.args.draws.now c.draw.result c.draw.new.self c.push_loads.new.draws (seen c.shape_at-shape.result)
    c.draw.ensures.drawn c.draw.ensures.state c.shape_at-shape.ensures.shape c.in_ok-push_loads.ensures.draws
