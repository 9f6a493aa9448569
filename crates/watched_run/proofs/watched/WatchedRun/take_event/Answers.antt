-- The event, and the trap in what it printed.
use Rattle.std.proofs.Common.{◌≡◌, ◌∙◌, Option, Some, None, subst, sym}
use Rattle.std.specs.Prelude.{MatchOption}
use Rattle.replayed_run.specs.Replayed.{Replayed}
use Rattle.watched_run.proofs.Taking.{event-takes}
use Rattle.watched_run.specs.Moments.{HasTaken}
use Rattle.watched_run.proofs.watched.WatchedRun.take_event.Goals as goal

-- what holds of the value that there is
in-some : {X : Type 0} (N : Type 0) (P : X → Type 0) (o : Option X) (x : X) → o ≡ Some x → MatchOption o N P → P x
in-some N P None x is holds = absurd (cc)
in-some {X = X} N P (Some y) x is holds = let same : y ≡ x = cc in subst P same holds

pub returns-clause-takes : goal.returns-clause-takes
returns-clause-takes c = λ goes.
    let P : Replayed → Type 0 = λ r. HasTaken c.args.self.now.replay r c.trap_in.result in
    subst P (sym c.show.ensures.stays)
    (event-takes c.args.self.now.replay c.take.new.self c.in-Ok-Some.taken.printed c.trap_in.result
    (in-some _ _ c.in-Ok-Some.field-0 c.in-Ok-Some.taken c.in-Ok-Some.field-0-is c.in-Ok-Some.ensures.takes) goes
    (λ all is. c.trap_in.ensures.trap all (c.bytes-2.ensures.bytes ∙ is)))
