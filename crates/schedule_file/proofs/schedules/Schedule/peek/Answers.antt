-- The event that comes next.
use Rattle.std.proofs.Common.{ℕ, suc, ◌≡◌, ◌<◌, ◌≤◌, List, ◌∷◌, ◌++◌, length, get_or, drop, replicate, slice_get, Some, arith, refl}
use Rattle.std.proofs.Math.Seq.{drop-cons}
use Rattle.std.proofs.lemmas.List.{drop-append-le}
use Rattle.xinu_base.specs.declared.events.Event.{Event}
use Rattle.schedule_file.specs.declared.repeats.Repeat.{Repeat}
use Rattle.schedule_file.specs.Repeats.{repeat_events, repeats_events, to_come}
use Rattle.schedule_file.proofs.schedules.Schedule.peek.Goals as goal

-- the event of a repeat that is next is the first that is still to come
comes-first : (repeats : List Repeat) (next taken left : ℕ) (before e : Event) (repeat : Repeat) (rest events : List Event)
    → repeat ≡ get_or repeats next repeat → next < length repeats → taken ≤ length (repeat_events repeat) → left ≡ 0
    → drop taken (repeat_events repeat) ≡ e ∷ rest → replicate left before ++ to_come repeats next taken ≡ events → Some e ≡ slice_get events 0
comes-first repeats next taken left before e repeat rest events is below within none begins view =
    rw (← view, none, drop-cons repeats next repeat below, ← is, drop-append-le taken (repeat_events repeat) (repeats_events (drop (suc next) repeats)) within, begins)
    refl

pub returns : goal.returns
returns c =
    record {
      next =
          comes-first c.self.inside.repeats.items c.self.inside.at c.self.inside.taken c.self.inside.left c.self.inside.event c.stretch_at.result.0
          c.index.result.now _ c.args.self.now c.index.ensures (omega arith) (omega arith) (omega arith) c.stretch_at.ensures.events c.self.view_is;
    }
