-- The events of a schedule: there are as many as were drawn, and each is one that may be.
use Rattle.std.proofs.Common.{ℕ, zero, suc, Bool, cond}
use Rattle.std.specs.Prelude.{nat_lt}
use Rattle.std.specs.List.{AllByRecursion}
use Rattle.std.proofs.lemmas.Bool.{cond_both}
use Rattle.soak_laws.specs.Schedule.{IsDrawn}
use Rattle.workload.specs.Draws.{drawn, next}
use Rattle.workload.specs.Schedules.{after_event, event_in, event_of, events_in}
use Rattle.xinu_base.specs.declared.events.Event.{Event}

-- either of two events
either : (b : Bool) (e other : Event) → IsDrawn e → IsDrawn other → IsDrawn (cond b e other)
either b e other may might = cond_both b e other IsDrawn (λ _. may) (λ _. might)

one_drawn : (n x : ℕ) → IsDrawn (event_of n x)
one_drawn n x =
    either (nat_lt n 52) _ _ tt (either (nat_lt n 54) _ _ tt (either (nat_lt n 55) _ _ tt (either (nat_lt n 58) _ _ tt (either (nat_lt n 63) _ _ tt tt))))

in_drawn : (x : ℕ) → IsDrawn (event_in x)
unfolding event_in
in_drawn x = one_drawn (drawn 64 x) (next x)

pub all_drawn : (n x : ℕ) → AllByRecursion IsDrawn (events_in n x)
unfolding events_in
all_drawn zero x = tt
all_drawn (suc n) x = (in_drawn x, all_drawn n (after_event x))
