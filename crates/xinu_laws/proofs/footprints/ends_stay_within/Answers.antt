use Rattle.xinu_model.specs.Machine.{closed}
use Rattle.xinu_laws.specs.Touches.{Touches}
use Rattle.xinu_laws.proofs.Touches.Events.{touches_ticked, touches_closed, touches_end_of_event}
use Rattle.xinu_laws.proofs.footprints.ends_stay_within.Goals as goal

pub returns-clause-tick : goal.returns-clause-tick
returns-clause-tick c = λ f goes s k. touches_ticked goes s k.tables

pub returns-clause-end : goal.returns-clause-end
returns-clause-end c = λ f was first result o.
    let s = result.call.state in
    let k : Touches f s (record s { tables = closed result }) = touches_closed result o in
    (k.frame, k.stacks, k.parts)

pub returns-clause-replies : goal.returns-clause-replies
returns-clause-replies c = λ f was first result o alive. touches_end_of_event was first result o alive
