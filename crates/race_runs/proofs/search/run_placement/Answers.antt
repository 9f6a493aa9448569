use Rattle.std.proofs.Common.{◌≡◌, ◌∙◌, List, length, ap, arith}
use Rattle.preemptions.specs.Preempted.{preempted_at}
use Rattle.preemptions.proofs.Fewness.{longer_by_places}
use Rattle.race_runs.proofs.search.run_placement.Goals as goal
use Rattle.xinu_base.specs.declared.events.Event.{Event}

pub run_on-requires-clause-events : goal.run_on-requires-clause-events
run_on-requires-clause-events c =
    let same : c.as_slice.result.now ≡ preempted_at c.args.places.now c.args.front.now = c.as_slice.ensures.value ∙ c.in-Ok.ensures.events in
    let size : length c.as_slice.result.now ≡ length (preempted_at c.args.places.now c.args.front.now) = ap (λ (events : List Event). length events) same in
    omega (arith, size, longer_by_places c.args.places.now c.args.front.now, c.requires.events, c.requires.places)
