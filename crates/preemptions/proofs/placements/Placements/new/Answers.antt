use Rattle.preemptions.proofs.Order.{starts}
use Rattle.preemptions.proofs.placements.Placements.new.Goals as goal

pub returns : goal.returns
returns c = record { all = starts c.args.most c.args.stretch c.new.result.items c.new.ensures.items }
