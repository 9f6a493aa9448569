-- The first of the events that are left.
use Rattle.std.proofs.Common.{◌≡◌, true, Some, subst}
use Rattle.std.specs.Prelude.{MatchOption, slice_get}
use Rattle.replayed_run.proofs.Ends.{next-of}
use Rattle.replayed_run.specs.Replayed.{Replayed, is_at_end}
use Rattle.replayed_run.proofs.replay.Replay.next.Goals as goal

pub returns-clause-next : goal.returns-clause-next
returns-clause-next c =
    let r = c.self.inside in
    let i = c.self.invariant in
    subst (λ (v : Replayed). MatchOption c.peek.result (is_at_end v ≡ true) (λ event. slice_get v.events v.taken ≡ Some event)) c.self.view_is
    (next-of r.machine.over r.inputs.schedule r.left r.taken c.peek.result i.within i.left c.peek.ensures.next)
