use Rattle.trace_places.proofs.Moments.{found_after}
use Rattle.trace_places.proofs.walk.mistake_of.Goals as goal

pub returns-in-Some-clause-when : goal.returns-in-Some-clause-when
returns-in-Some-clause-when c =
    found_after c.args.machine.now.state c.args.schedule.now c.current.result c.args.text.now c.in-Some.rest.now c.mistake_from.result
    c.current.ensures.current c.in-Some.ensures.left c.mistake_from.ensures.when
