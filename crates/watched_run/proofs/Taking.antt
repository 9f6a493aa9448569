-- Events that are taken.
use Rattle.std.proofs.Common.{◌≡◌, ◌∙◌, ◌+◌, ◌≤◌, ◌||◌, ◌==◌, not, ℕ, zero, suc, Bool, true, false, cond, List, [], length, Option, Some, None, refl, sym, ap, subst, arith}
use Rattle.std.specs.Prelude.{IfSome, MatchOption, is_some, slice_get}
use Rattle.replayed_run.proofs.Ends.{comes-next}
use Rattle.replayed_run.specs.Progress.{TakesEvent, TakesSteps}
use Rattle.replayed_run.specs.Replayed.{Replayed, is_at_end}
use Rattle.watched_run.specs.Moments.{HasTaken, Stands, Takes, next_event}
use Rattle.watched_run.specs.Traps.{trap_in}
use Rattle.xinu_model.specs.Text.{text}
use Rattle.xinu_base.specs.declared.events.Event.{Event}
use Rattle.xinu_base.specs.declared.events.Event.TheVariants.{Step}
use Rattle.xinu_base.specs.declared.lines.TranscriptLine.{TranscriptLine}
use Rattle.xinu_base.specs.declared.registers.Cause.{Cause}
use Rattle.xinu_model.specs.Events.{Happens, panics_in, stepped}
use Rattle.xinu_model.specs.Machine.{EventResult, Xinu}
use Rattle.xinu_model.specs.Runs.{end_with, is_over}
use Rattle.xinu_model.specs.Steps.{IsPlain, stepped_times}

-- an event that is taken where the run stood
pub takes-standing : (a b c : Replayed) (lines : List TranscriptLine) → Stands a b → Takes b c lines → Takes a c lines
takes-standing a b c lines stands takes =
    let P : Replayed → Type 0 = λ r. Takes (record a { told = b.told; known = b.known }) c lines in
    let x : Takes (record a { told = b.told; known = b.known }) c lines =
    (let Q : Replayed → Type 0 = λ r. Takes r c lines in subst Q stands.stays takes) in
    record { goes_on = x.goes_on; event = x.event; next = x.next; happens = x.happens; changes = x.changes }

-- and where it stands after it
pub takes-then-stands : (a b c : Replayed) (lines : List TranscriptLine) → Takes a b lines → Stands b c → Takes a c lines
takes-then-stands a b c lines takes stands =
    let state : b.state ≡ c.state = ap (λ (r : Replayed). r.state) (sym stands.stays) in
    record {
      goes_on = takes.goes_on;
      event = takes.event;
      next = takes.next;
      happens = (let P : Xinu → Type 0 = λ s. Happens a.state takes.event lines s in subst P state takes.happens);
      changes =
          stands.stays
          ∙ ap (λ (r : Replayed). record r { told = c.told; known = c.known }) takes.changes
          ∙ ap (λ (s : Xinu). record a {
            taken = a.taken + 1;
            state = s;
            over = is_some (end_with (panics_in a.state takes.event) (is_over s));
            told = c.told;
            known = c.known;
          }) state;
    }

-- the sum of a number and none
no-more : (n : ℕ) → n + 0 ≡ n
no-more n = grind arith

-- one step more
step-last : (j : ℕ) (s : Xinu) → (stepped (stepped_times j s)).state ≡ stepped_times (suc j) s
step-last zero s = refl
step-last (suc j) s = step-last j (stepped s).state

-- where a run stands after so many steps
abbrev pub after_steps : ℕ → Replayed → Replayed
after_steps j r = record r { taken = r.taken + j; state = stepped_times j r.state }

-- a plain step is taken
pub step-taken : (j : ℕ) (r : Replayed) → r.over ≡ false → slice_get r.events (r.taken + j) ≡ Some Step → IsPlain (stepped_times j r.state)
    → Takes (after_steps j r) (after_steps (suc j) r) []
step-taken j r goes next plain =
    let s = stepped_times j r.state in
    let old = after_steps j r in
    let mid = (stepped s).state in
    let new : Replayed = record r { taken = r.taken + j + 1; state = mid } in
    let quiet : is_some (end_with (panics_in s Step) (is_over mid)) ≡ false =
    ap (λ (e : EventResult). is_some (end_with e.panics (is_over mid))) plain.quiet ∙ ap (λ (b : Bool). is_some (end_with false b)) plain.lives in
    let takes : Takes old new [] = record {
      goes_on = goes;
      event = Step;
      next = next;
      happens = record {
        choice = 0;
        allowed = omega arith;
        effect = ap (λ (e : EventResult). record { lines = e.lines; state = mid; panics = (stepped s).panics }) plain.quiet;
      };
      changes = ap (λ (b : Bool). record r { taken = r.taken + j + 1; state = mid; over = b }) (goes ∙ sym quiet);
    } in
    let P : Replayed → Type 0 = λ x. Takes old x [] in
    subst P
    (ap (λ (t : ℕ). record r { taken = t; state = mid }) (let e : r.taken + j + 1 ≡ r.taken + suc j = omega arith in e)
    ∙ ap (λ (x : Xinu). record r { taken = r.taken + suc j; state = x }) (step-last j r.state))
    takes

-- where a run stands that took steps at once
pub steps-stand : (n : ℕ) (old new : Replayed) → TakesSteps n old new → Stands (after_steps n old) new
steps-stand n old new takes = record {
  stays = takes.changes
      ∙ ap (λ (k : Bool). record (after_steps n old) { told = new.told; known = k }) (sym (ap (λ (r : Replayed). r.known) takes.changes));
}

-- one step that is taken is an event
pub step-takes : (old new : Replayed) → TakesSteps 1 old new → Takes old new []
step-takes old new takes =
    let none : Stands old (after_steps 0 old) = record { stays = ap (λ (t : ℕ). record old { taken = t }) (no-more old.taken) } in
    takes-standing old (after_steps 0 old) new [] none
    (takes-then-stands (after_steps 0 old) (after_steps 1 old) new []
    (step-taken 0 old (takes.goes_on (omega arith)) (takes.next 0 (omega arith)) takes.plain.0)
    (steps-stand 1 old new takes))

-- the event that comes next
pub next-event-is : (r : Replayed) (o : Option Event) → MatchOption o (is_at_end r ≡ true) (λ event. slice_get r.events r.taken ≡ Some event)
    → IfSome o (λ _. r.over ≡ false) → o ≡ next_event r
next-event-is r None is goes = sym (ap (λ (b : Bool). cond b None (slice_get r.events r.taken)) is)
next-event-is r (Some event) is goes =
    sym (ap (λ (b : Bool). cond b None (slice_get r.events r.taken)) (comes-next r.over r.events r.taken event goes is) ∙ is)

-- neither of two
pub neither-left : (a b : Bool) → (a || b) ≡ false → a ≡ false
neither-left true b none = none
neither-left false b none = refl

-- an event that printed bytes, and the trap in them
pub event-takes : (old new : Replayed) (printed : List ℕ) (trap : Option Cause) → TakesEvent old new (Some printed) → is_at_end old ≡ false
    → ((all : List TranscriptLine) → printed ≡ text all → trap ≡ trap_in all) → HasTaken old new trap
event-takes old new printed trap t goes says = record {
  lines = t.happens.lines;
  takes = record {
    goes_on = neither-left old.over (old.taken == length old.events) goes;
    event = t.event;
    next = t.next;
    happens = t.happens.happens;
    changes = t.changes;
  };
  says = says t.happens.lines t.happens.bytes;
}

-- one step, if any was taken
pub one-step : (n : ℕ) (old new : Replayed) → n ≤ 1 → TakesSteps n old new → not (n == 0) ≡ true → Takes old new []
one-step zero old new most takes some = absurd (cc)
one-step (suc zero) old new most takes some = step-takes old new takes
one-step (suc (suc n)) old new most takes some = absurd (omega (arith, most))
