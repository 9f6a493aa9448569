-- Which event comes next.
use Rattle.std.proofs.Common.{◌≡◌, ◌∙◌, Bool, true, false, Option, Some, None, if◌then◌else◌, sym, ap}
use Rattle.std.specs.Prelude.{IfSome, MatchOption, slice_get}
use Rattle.gdb_command.specs.Monitor.{next_event}
use Rattle.replayed_run.proofs.Ends.{comes-next}
use Rattle.replayed_run.specs.Replayed.{Replayed, is_at_end}
use Rattle.xinu_base.specs.declared.events.Event.{Event}

-- the event that comes next
pub next-is : (r : Replayed) (o : Option Event) → MatchOption o (is_at_end r ≡ true) (λ e. slice_get r.events r.taken ≡ Some e)
    → IfSome o (λ e. r.over ≡ false) → o ≡ next_event r
next-is r None next goes = sym (ap (λ (b : Bool). if b then None else slice_get r.events r.taken) next)
next-is r (Some e) next goes =
    sym
    (ap (λ (b : Bool). if b then None else slice_get r.events r.taken) (comes-next r.over r.events r.taken e goes next)
    ∙ next)
