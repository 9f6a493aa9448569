use Rattle.std.proofs.Common.{◌≡◌, ◌∙◌, List, length, ap, arith}
use Rattle.preemptions.specs.Preempted.{preempted_at}
use Rattle.preemptions.proofs.Fewness.{longer_by_places}
use Rattle.xinu_base.specs.declared.events.Event.{Event}
use Rattle.races_command.proofs.reports.schedule_of.Goals as goal

pub schedule_text-requires : goal.schedule_text-requires
schedule_text-requires c =
    let same : c.as_slice.result.now ≡ preempted_at c.args.places.now c.args.base.now = c.as_slice.ensures.value ∙ c.in-Ok.ensures.events in
    let size : length c.as_slice.result.now ≡ length (preempted_at c.args.places.now c.args.base.now) = ap (λ (events : List Event). length events) same in
    record { most = omega (arith, size, longer_by_places c.args.places.now c.args.base.now, c.requires.base, c.requires.places) }
